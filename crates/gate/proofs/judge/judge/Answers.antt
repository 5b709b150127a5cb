-- The test of the state, and then the judging. Assumes nothing.
use Rattle.desk.proofs.Soundness.{told_stopped}
use Rattle.gate.proofs.JudgementLaws.{judges_unsound}
use Rattle.gate.proofs.judge.judge.Goals as goal

pub returns-in_err-used : goal.returns-in_err-used
returns-in_err-used c =
    let stop = told_stopped _ c.args.state.now _ c.checked.ensures.0 c.in_err-used.was c.from_residual.ensures.1 in rw stop.0 (judges_unsound stop.1)
