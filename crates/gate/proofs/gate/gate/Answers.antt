-- The test of the state, the judging, and for an admitted write the plain write's own step. Assumes nothing.
use Rattle.std.proofs.Common.{refl, ap, ◌∙◌, arith}
use Rattle.std.specs.Prelude.{Ok}
use Rattle.desk.proofs.Soundness.{told_bytes, told_stopped}
use Rattle.gate.proofs.JudgementLaws.{judges_unsound, admitted_fits, gates_refused}
use Rattle.gate.proofs.gate.gate.Goals as goal

pub returns-in_err-used : goal.returns-in_err-used
returns-in_err-used c =
    let stop = told_stopped _ c.args.state.now _ c.checked.ensures.0 c.in_err-used.was c.from_residual.ensures.1 in
    rw stop.0 (gates_refused (judges_unsound stop.1) refl)

pub push-requires : goal.push-requires
push-requires c =
    let told = told_bytes _ c.args.state.now _ c.checked.ensures.0 c.in_ok-used.was in
    let fits = (admitted_fits c.decide.ensures (c.in_ok-verdict.was ∙ ap Ok c.in-Admitted.is)).0 in
    (fits.few_writes, omega (arith, told.counted, told.facts.buffer, fits.few_bytes))
