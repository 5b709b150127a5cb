-- What skaldrift_open, skaldrift_judge and skaldrift_gate promise: the number, and every lent word and byte afterwards. Each is the call of `gate` at the
-- desk that the words say; opening asks only that they are as many as a state has.
use Rattle.std.specs.Prelude.{ℕ, ◌≡◌, List}
use Rattle.pieces.specs.AsyncSpec.{Write}
use Rattle.desk.specs.Desk.{with_write, opened_desk}
use Rattle.gate.specs.Opening.{open_number}
use Rattle.gate.specs.Judgement.{judge_report, judge_number, judge_work}
use Rattle.boundary.specs.Words.{reported}
use Rattle.boundary.specs.Lent.{Lent, plainly, at_desk, Does}

pub record SkaldriftOpen (m : Lent) (sheet : List ℕ) (number : ℕ) (m' : Lent) : Type 0 where
  pub does : Does plainly (λ d. open_number d sheet) opened_desk m number m'

module _ (m : Lent) (sheet work : List ℕ) (w : Write) (report : ℕ) where
  -- `report` gets n where the write is admitted and m where it is denied, and keeps what it held otherwise
  pub record SkaldriftJudge (number : ℕ) (work' : List ℕ) (report' : ℕ) : Type 0 where
    pub answers : number ≡ at_desk plainly m 1 (λ d. judge_number d sheet work w)
    pub fills : work' ≡ at_desk plainly m work (λ d. judge_work d sheet work w)
    pub reports : report' ≡ at_desk plainly m report (λ d. reported (judge_report d sheet work w) report)

  pub record SkaldriftGate (number : ℕ) (m' : Lent) (work' : List ℕ) (report' : ℕ) : Type 0 where
    pub judges : SkaldriftJudge number work' report'
    pub does : Does plainly (λ d. judge_number d sheet work w) (λ d. with_write d w) m number m'
