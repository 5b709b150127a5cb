-- The words are a state, at which opening keeps its promise. Assumes nothing.
use Rattle.boundary.proofs.FunctionLaws.{open_right}
use Rattle.skaldrift.proofs.gate_calls.skaldrift_open.Goals as goal

pub returns : goal.returns
returns c = open_right c.if-state-ne-STATE_WORDS.false c.loaded-opened.ensures c.stored.ensures c.answer_number.ensures c.open-answer.ensures
