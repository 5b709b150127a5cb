-- The words are a state, at which the flush by tape keeps its promise. Assumes nothing.
use Rattle.boundary.proofs.FunctionLaws.{tape_flush_right}
use Rattle.skaldrift.proofs.tape_calls.skaldrift_tape_flush.Goals as goal

pub returns : goal.returns
returns c = tape_flush_right c.if-state-ne-STATE_WORDS.false c.loaded-flushed.ensures c.stored.ensures c.answer_number.ensures c.tape_flush-answer.ensures.flushes
