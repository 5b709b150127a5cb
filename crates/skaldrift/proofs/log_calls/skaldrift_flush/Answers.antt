-- The words are a state, at which the flush keeps its promise. Assumes nothing.
use Rattle.boundary.proofs.FunctionLaws.{flush_right}
use Rattle.skaldrift.proofs.log_calls.skaldrift_flush.Goals as goal

pub returns : goal.returns
returns c = flush_right c.if-state-ne-STATE_WORDS.false c.loaded-flushed.ensures c.stored.ensures c.answer_number.ensures c.flush-answer.ensures
