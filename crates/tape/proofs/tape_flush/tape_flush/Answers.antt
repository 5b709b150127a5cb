-- An epoch that ends by a flush leaves the read image. Assumes nothing.
use Rattle.std.proofs.Common.{sym, ap, ◌∙◌}
use Rattle.region.specs.Answer.{answer_number}
use Rattle.tape.proofs.NumberLaws.{ending_done, predictable_now}
use Rattle.tape.proofs.PromiseLaws.{tape_flushes_done}
use Rattle.tape.proofs.tape_flush.tape_flush.Goals as goal

pub settle-requires : goal.settle-requires
settle-requires c = predictable_now c.ending.ensures.sized (ending_done _ _ _ (sym c.ending.ensures.number ∙ ap answer_number c.in_ok-ending.was))

pub returns-clause-flushes : goal.returns-clause-flushes
returns-clause-flushes c = tape_flushes_done c.settle.ensures.settles (sym c.ending.ensures.number ∙ ap answer_number c.in_ok-ending.was)
