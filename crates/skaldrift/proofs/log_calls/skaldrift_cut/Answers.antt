-- The words are a state, at which the cut keeps its promise. Assumes nothing.
use Rattle.boundary.proofs.FunctionLaws.{cut_right}
use Rattle.skaldrift.proofs.log_calls.skaldrift_cut.Goals as goal

pub returns : goal.returns
returns c = cut_right c.if-state-ne-STATE_WORDS.false c.loaded-after.ensures c.stored.ensures
    c.cut_number.ensures.0 c.cut_number.ensures.1 c.cut-answer.ensures
