-- The flush. Document 01: "A flush makes the read image the image" and empties the log; it meets 1.
use Rattle.std.specs.Prelude.{ℕ, ◌≡◌}
use Rattle.region.specs.Answer.{answer_number, unless, if_done, Answer}
use Rattle.pieces.specs.AsyncSpec.{readable}
use Rattle.desk.specs.Desk.{Desk, view, sound, settled_desk}

module _ (d : Desk) where
  unfoldable pub flush_number : ℕ
  flush_number = unless (sound d) 1 0

  -- what a flush promises: its number, and the desk afterwards
  pub record Flushes (answer : Answer) (d' : Desk) : Type 0 where
    pub answers : answer_number answer ≡ flush_number
    pub leaves : d' ≡ if_done flush_number (settled_desk d (readable (view d))) d
