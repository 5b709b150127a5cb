-- The plain write. Document 01: it meets 1, 2, 3, 4. `write` of pmem_async_spec_t.rs is what it does to the view (`Views` of `desk`).
use Rattle.std.specs.Prelude.{ℕ, ◌≡◌}
use Rattle.region.specs.Answer.{answer_number, unless, if_done, Answer}
use Rattle.pieces.specs.AsyncSpec.{Write}
use Rattle.desk.specs.Desk.{Desk, sound, room_for, with_write}

module _ (d : Desk) (w : Write) where
  unfoldable pub write_number : ℕ
  write_number = unless (sound d) 1 (room_for d w)

  -- what a write promises: its number, and the desk afterwards
  pub record Writes (answer : Answer) (d' : Desk) : Type 0 where
    pub answers : answer_number answer ≡ write_number
    pub leaves : d' ≡ if_done write_number (with_write d w) d
