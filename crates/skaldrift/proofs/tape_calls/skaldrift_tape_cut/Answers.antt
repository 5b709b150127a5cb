-- The words are a state, at which the cut by tape keeps its promise. Assumes nothing.
use Rattle.boundary.proofs.FunctionLaws.{tape_cut_right}
use Rattle.skaldrift.proofs.tape_calls.skaldrift_tape_cut.Goals as goal

pub returns : goal.returns
returns c = tape_cut_right c.if-state-ne-STATE_WORDS.false c.loaded-after.ensures c.stored.ensures
    c.cut_number.ensures.0 c.cut_number.ensures.1 c.tape_cut-answer.ensures.cuts
