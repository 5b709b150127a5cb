-- The words are a state, at which the write by tape keeps its promise. Assumes nothing.
use Rattle.boundary.proofs.FunctionLaws.{tape_write_right}
use Rattle.skaldrift.proofs.tape_calls.skaldrift_tape_write.Goals as goal

pub returns : goal.returns
returns c = tape_write_right c.if-state-ne-STATE_WORDS.false c.loaded-written.ensures c.stored.ensures c.answer_number.ensures c.tape_write-answer.ensures
