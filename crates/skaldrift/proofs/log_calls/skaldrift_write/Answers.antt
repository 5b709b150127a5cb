-- The words are a state, at which the write keeps its promise. Assumes nothing.
use Rattle.boundary.proofs.FunctionLaws.{write_right}
use Rattle.skaldrift.proofs.log_calls.skaldrift_write.Goals as goal

pub returns : goal.returns
returns c = write_right c.if-state-ne-STATE_WORDS.false c.loaded-written.ensures c.stored.ensures c.answer_number.ensures c.write-answer.ensures
