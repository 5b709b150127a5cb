-- What skaldrift_tape_write, skaldrift_tape_flush and skaldrift_tape_cut promise: the number, and every lent word and byte and the tape's start afterwards.
-- Each is the call of `tape` at the desk that the words say.
use Rattle.std.specs.Prelude.{ℕ, ◌+◌, ◌≡◌, List}
use Rattle.region.specs.Answer.{if_done}
use Rattle.pieces.specs.AsyncSpec.{Write, readable}
use Rattle.desk.specs.Desk.{view}
use Rattle.writelog.specs.Cut.{kept_by_rows}
use Rattle.epochs.specs.Foretold.{predicted_now}
use Rattle.tape.specs.Write.{tape_write_number, tape_written}
use Rattle.tape.specs.Ending.{epoch_ended}
use Rattle.tape.specs.Flush.{tape_flush_number}
use Rattle.tape.specs.Cut.{tape_cut_number}
use Rattle.boundary.specs.Lent.{TapeLent, desk_of, on_tape, at_desk, Does}

pub record SkaldriftTapeWrite (t : TapeLent) (tape : List ℕ) (w : Write) (number : ℕ) (t' : TapeLent) : Type 0 where
  pub does : Does on_tape (λ d. tape_write_number d tape w) (λ d. tape_written d tape w) t number t'

pub record SkaldriftTapeFlush (t : TapeLent) (tape : List ℕ) (number : ℕ) (t' : TapeLent) : Type 0 where
  pub does : Does on_tape (λ d. tape_flush_number d tape) (λ d. epoch_ended d (readable (view d.memory))) t number t'

-- `report` gets the kept count of a done cut, and keeps what it held otherwise
pub record SkaldriftTapeCut (t : TapeLent) (tape : List ℕ) (report number : ℕ) (t' : TapeLent) (report' : ℕ) : Type 0 where
  pub does : Does on_tape (λ d. tape_cut_number d tape) (λ d. epoch_ended d (predicted_now d.memory tape d.start)) t number t'
  pub reports : report' ≡ if_done (at_desk on_tape t 1 (λ d. tape_cut_number d tape)) (kept_by_rows (desk_of t.memory) tape (t.start + 1)) report
