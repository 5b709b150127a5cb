-- A sound log is replayed whole over the image. Assumes nothing.
use Rattle.std.proofs.Common.{ℕ, List}
use mathlib.Core.Path.{ap₂}
use Rattle.desk.specs.Desk.{desk}
use Rattle.desk.specs.declared.state.State.{State}
use Rattle.desk.proofs.Soundness.{told_bytes, told_stopped}
use Rattle.writelog.proofs.FlushLaws.{flushes_done, flushes_refused}
use Rattle.writelog.proofs.flush.flush.Goals as goal

pub returns-in_err-checked : goal.returns-in_err-checked
returns-in_err-checked c =
    let stop = told_stopped _ c.args.state.now _ c.checked.ensures.0 c.in_err-checked.was c.from_residual.ensures.1 in
    rw stop.0 (flushes_refused stop.1)

pub returns : goal.returns
returns c =
    let a = c.args in
    let told = told_bytes _ a.state.now _ c.checked.ensures.0 c.in_ok-checked.was in
    flushes_done told.good (ap₂ (λ (x : List ℕ) (st : State). desk x st a.log.now) c.replay_whole.ensures c.clear.ensures)
