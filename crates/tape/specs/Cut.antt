-- The tape cut. "its cut leaves the predicted image and reports kept, the next epoch starts there". It is refused with 11 where the tape foretells a flush.
use Rattle.std.specs.Prelude.{ℕ, ◌+◌, ◌≡◌, false, List}
use Rattle.region.specs.Answer.{if_done, Counted, counted_report}
use Rattle.writelog.specs.Cut.{cut_told, kept_by_rows}
use Rattle.epochs.specs.Foretold.{predicted_now}
use Rattle.tape.specs.Memory.{TapeDesk}
use Rattle.tape.specs.Ending.{tape_ending_number, epoch_ended}

module _ (t : TapeDesk) (tape : List ℕ) where
  abbrev pub tape_cut_number : ℕ
  tape_cut_number = tape_ending_number false t tape

  -- what a tape cut promises: its number with the pieces that the epoch's rows keep, and the desk, the start and the predicted image afterwards
  pub record TapeCuts (answer : Counted) (t' : TapeDesk) : Type 0 where
    pub answers : counted_report answer ≡ cut_told (kept_by_rows t.memory tape (t.start + 1)) tape_cut_number
    pub leaves : t' ≡ if_done tape_cut_number (epoch_ended t (predicted_now t.memory tape t.start)) t
