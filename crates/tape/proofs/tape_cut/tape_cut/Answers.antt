-- An epoch that ends by a cut leaves the predicted image, and the kept pieces are counted by the rows where they lie on the tape. Assumes nothing.
use Rattle.std.proofs.Common.{sym, ap, ◌∙◌, arith}
use Rattle.region.specs.Answer.{answer_number}
use Rattle.desk.specs.Desk.{desk, chunk_size}
use Rattle.desk.specs.State.{log_records}
use Rattle.walks.proofs.KeptLaws.{kept_by_records}
use Rattle.tape.proofs.NumberLaws.{ending_done, predictable_now, kept_from_start}
use Rattle.tape.proofs.PromiseLaws.{tape_cuts_done}
use Rattle.tape.proofs.tape_cut.tape_cut.Goals as goal

pub overflow_add-rows : goal.overflow_add-rows
overflow_add-rows c =
    let right = (kept_from_start c.ending.ensures.sized (ending_done _ _ _ (sym c.ending.ensures.number ∙ ap answer_number c.in_ok-ending.was))).right in
    omega (arith, right)

pub kept-pieces-requires : goal.kept-pieces-requires
kept-pieces-requires c = kept_from_start c.ending.ensures.sized (ending_done _ _ _ (sym c.ending.ensures.number ∙ ap answer_number c.in_ok-ending.was))

pub settle-requires : goal.settle-requires
settle-requires c = predictable_now c.ending.ensures.sized (ending_done _ _ _ (sym c.ending.ensures.number ∙ ap answer_number c.in_ok-ending.was))

pub returns-clause-cuts : goal.returns-clause-cuts
returns-clause-cuts c =
    let d = desk c.args.image.now c.args.state.now c.args.log.now in
    let none = sym c.ending.ensures.number ∙ ap answer_number c.in_ok-ending.was in
    let facts = (ending_done _ _ _ none).facts in
    tape_cuts_done c.settle.ensures.settles none
    (c.kept-pieces.ensures ∙ sym (kept_by_records (chunk_size d) (log_records d.state) d.log _ (omega (arith, facts.room, facts.buffer))))
