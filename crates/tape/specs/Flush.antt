-- The tape flush. A flush makes the read image the image, empties the log, and is refused with 11 where the tape foretells a cut.
use Rattle.std.specs.Prelude.{ℕ, ◌≡◌, true, List}
use Rattle.region.specs.Answer.{answer_number, if_done, Answer}
use Rattle.pieces.specs.AsyncSpec.{readable}
use Rattle.desk.specs.Desk.{view}
use Rattle.tape.specs.Memory.{TapeDesk}
use Rattle.tape.specs.Ending.{tape_ending_number, epoch_ended}

module _ (t : TapeDesk) (tape : List ℕ) where
  abbrev pub tape_flush_number : ℕ
  tape_flush_number = tape_ending_number true t tape

  -- what a tape flush promises: its number, and the desk, the start and the predicted image afterwards
  pub record TapeFlushes (answer : Answer) (t' : TapeDesk) : Type 0 where
    pub answers : answer_number answer ≡ tape_flush_number
    pub leaves : t' ≡ if_done tape_flush_number (epoch_ended t (readable (view t.memory))) t
