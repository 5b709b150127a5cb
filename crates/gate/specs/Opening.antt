-- Opening. Document 01: "Opening judges the image and starts an empty log, its records all zero; lent memory stays"; it meets 1, 5 and 6. Of the state
-- that it is handed nothing is asked. This takes the place of `new` of `PersistentMemoryRegionAtomic` (power_t.rs) and of `new_atomic` (power_v.rs).
use Rattle.std.specs.Prelude.{ℕ, ◌≡◌, ◌&&◌, List, leb, eqb, length}
use Rattle.region.specs.Limits.{image_limit, log_limit}
use Rattle.region.specs.Answer.{answer_number, unless, if_done, Answer}
use Rattle.sheet.specs.Sheet.{sheet_number}
use Rattle.desk.specs.Desk.{Desk, opened_desk}

module _ (d : Desk) (sheet : List ℕ) where
  -- 1, and then what the sheet says of the image: 5 or 6. "Opening compares the image with itself", as a later edition's rule of two images asks.
  unfoldable pub open_number : ℕ
  open_number =
      unless (leb (length d.image) image_limit && eqb (length d.log) log_limit) 1
      (sheet_number sheet d.image)

  -- what opening promises: its number, and the desk afterwards
  pub record Opens (answer : Answer) (d' : Desk) : Type 0 where
    pub answers : answer_number answer ≡ open_number
    pub leaves : d' ≡ if_done open_number (opened_desk d) d
