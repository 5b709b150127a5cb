-- A line for each return. Assumes nothing.
use Rattle.std.proofs.Common.{◌≡◌, true, false, sym, ◌∙◌, arith}
use Rattle.desk.proofs.Soundness.{told_bytes, told_stopped}
use Rattle.writelog.proofs.ReadLaws.{asked_unsound, asked_other_length, asked_outside, asked_inside}
use Rattle.writelog.proofs.read.asked.Goals as goal

pub returns-in_err-checked : goal.returns-in_err-checked
returns-in_err-checked c =
    let stop = told_stopped _ c.args.state.now _ c.checked.ensures.0 c.in_err-checked.was c.from_residual.ensures.1 in
    rw stop.0 (sym (asked_unsound _ _ _ _ _ _ stop.1))

pub returns-then-work-image : goal.returns-then-work-image
returns-then-work-image c = sym (asked_other_length _ _ _ _ _ _ (λ e. omega arith))

pub returns-then-not-within : goal.returns-then-not-within
returns-then-not-within c =
    let told = told_bytes _ c.args.state.now _ c.checked.ensures.0 c.in_ok-checked.was in
    let outside : c.within.result ≡ false = cc in
    sym (asked_outside _ _ _ _ _ _ told.good (omega arith) (sym c.within.ensures ∙ outside))

pub returns : goal.returns
returns c =
    let told = told_bytes _ c.args.state.now _ c.checked.ensures.0 c.in_ok-checked.was in
    let inside : c.within.result ≡ true = cc in
    sym (asked_inside _ _ _ _ _ _ told.good (omega arith) (sym c.within.ensures ∙ inside))
