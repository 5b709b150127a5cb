-- The part is cut out of the slice that `read_fill` filled, so it is the caller's own memory. Assumes nothing.
use Rattle.std.proofs.Common.{sym, ap, ◌∙◌, length, arith}
use Rattle.region.specs.Answer.{answer_number}
use Rattle.writelog.proofs.ReadLaws.{asked_done}
use Rattle.writelog.proofs.read.read.Goals as goal

pub overflow_add-end : goal.overflow_add-end
overflow_add-end c =
    let asked = asked_done {L = length c.args.image.now} (sym c.read_fill.ensures.answers ∙ ap answer_number c.in-Ok.is) in
    omega (arith, asked)

pub slice_bounds-work-end : goal.slice_bounds-work-end
slice_bounds-work-end c =
    let asked = asked_done {L = length c.args.image.now} (sym c.read_fill.ensures.answers ∙ ap answer_number c.in-Ok.is) in
    omega (arith, asked, c.read_fill.auto.work)
