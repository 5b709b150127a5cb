-- Refusal 1, then the epoch's 10 and 9, then 11 where the header foretells the other end. Assumes nothing.
use Rattle.std.proofs.Common.{rules, sym, ap, ◌∙◌}
use Rattle.std.proofs.lemmas.Result.{err_from_is_err_and}
use Rattle.region.specs.Answer.{answer_number}
use Rattle.desk.proofs.Soundness.{told_bytes, told_stopped}
use Rattle.epochs.specs.End.{flushing}
use Rattle.tape.proofs.NumberLaws.{unsound, missized, tape_sound_there, ending_unsound, ending_bad_epoch, ending_by_end}
use Rattle.tape.proofs.ending.ending.Goals as goal

pub returns-in_err-checked-clause-number : goal.returns-in_err-checked-clause-number
returns-in_err-checked-clause-number c =
    let stop = told_stopped _ c.args.state.now _ c.checked.ensures.0 c.in_err-checked.was c.from_residual.ensures.1 in
    rw stop.0 (sym (ending_unsound _ _ _ _ _ _ _ _ (unsound _ c.args.state.now _ _ stop.1)))

pub returns-then-predicted-size-clause-number : goal.returns-then-predicted-size-clause-number
returns-then-predicted-size-clause-number c =
    let told = told_bytes _ c.args.state.now _ c.checked.ensures.0 c.in_ok-checked.was in
    sym (ending_unsound _ _ _ _ _ _ _ _ (missized _ c.args.state.now _ _ told.good c.if-predicted-size.true))

pub epoch-requires : goal.epoch-requires
epoch-requires c =
    let told = told_bytes _ c.args.state.now _ c.checked.ensures.0 c.in_ok-checked.was in
    (told.facts.few, told.facts.short)

pub returns-in_err-epoch-clause-number : goal.returns-in_err-epoch-clause-number
returns-in_err-epoch-clause-number c =
    let told = told_bytes _ c.args.state.now _ c.checked.ensures.0 c.in_ok-checked.was in
    let sound = tape_sound_there _ c.args.state.now _ _ told.good c.if-predicted-size.false in
    let passed = err_from_is_err_and c.from_residual-in_err-epoch.result c.from_residual-in_err-epoch.ensures.1 in
    rw (passed.1, passed.2)
    (sym (ending_bad_epoch _ _ _ _ _ _ _ _ sound c.in_err-epoch.field-0.0 (sym c.epoch.ensures ∙ ap answer_number c.in_err-epoch.was)))

pub returns-then-ne-clause-number : goal.returns-then-ne-clause-number
returns-then-ne-clause-number c =
    let told = told_bytes _ c.args.state.now _ c.checked.ensures.0 c.in_ok-checked.was in
    let number = ending_by_end (flushing c.args.end) _ _ c.args.state.now _ _ _ _ told.good c.if-predicted-size.false c.epoch.ensures c.in_ok-epoch.was _ c.foretold.ensures in
    search rules

pub returns-clause-number : goal.returns-clause-number
returns-clause-number c =
    let told = told_bytes _ c.args.state.now _ c.checked.ensures.0 c.in_ok-checked.was in
    let number = ending_by_end (flushing c.args.end) _ _ c.args.state.now _ _ _ _ told.good c.if-predicted-size.false c.epoch.ensures c.in_ok-epoch.was _ c.foretold.ensures in
    search rules
