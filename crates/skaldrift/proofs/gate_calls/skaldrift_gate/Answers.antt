-- The words are a state, at which the gate keeps its promise. Assumes nothing.
use Rattle.boundary.proofs.FunctionLaws.{gate_right}
use Rattle.skaldrift.proofs.gate_calls.skaldrift_gate.Goals as goal

pub returns : goal.returns
returns c = gate_right c.if-state-ne-STATE_WORDS.false c.loaded-gated.ensures
    c.verdict_number.ensures.0 c.verdict_number.ensures.1 c.stored.ensures c.gate-verdict.ensures
