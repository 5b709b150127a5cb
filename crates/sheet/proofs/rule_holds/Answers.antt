-- `rule_holds` reads the sheet in the stages of `Whole`: each return is the answer of the stage at which the reading ends. Assumes nothing.
use Rattle.std.proofs.Common.{sym}
use Rattle.sheet.proofs.Whole.{too_long, no_edition, other_edition, no_rule, one_rule}
use Rattle.sheet.proofs.rule_holds.Goals as goal

pub returns-then-sheet-gt-MAX_BYTES : goal.returns-then-sheet-gt-MAX_BYTES
returns-then-sheet-gt-MAX_BYTES c = let a = c.args in sym (too_long a.sheet.now a.image.now c.if-sheet-gt-MAX_BYTES.true)

pub returns-in_err-edition : goal.returns-in_err-edition
returns-in_err-edition c =
    let a = c.args in
    let none = rw (c.new-reader.ensures.0, c.new-reader.ensures.1) at c.in_err-edition.ensures.field in
    rw c.from_residual.ensures (sym (no_edition a.sheet.now a.image.now c.if-sheet-gt-MAX_BYTES.false (sym none)))

pub returns-then-edition-ne-EDITION : goal.returns-then-edition-ne-EDITION
returns-then-edition-ne-EDITION c =
    let a = c.args in
    let edition = rw (c.new-reader.ensures.0, c.new-reader.ensures.1) at c.in_ok-edition.ensures.field in
    sym (other_edition a.sheet.now a.image.now c.if-sheet-gt-MAX_BYTES.false (sym edition) c.if-edition-ne-EDITION.true)

pub returns-in_err-holds : goal.returns-in_err-holds
returns-in_err-holds c =
    let a = c.args in
    let edition = rw (c.new-reader.ensures.0, c.new-reader.ensures.1) at c.in_ok-edition.ensures.field in
    let none = rw (c.take.ensures.bytes, c.new-reader.ensures.0) at c.in_err-holds.ensures.truth in
    rw c.from_residual-in_err-holds.ensures
    (sym (no_rule a.sheet.now a.image.now c.if-sheet-gt-MAX_BYTES.false (sym edition) c.if-edition-ne-EDITION.false none))

pub returns : goal.returns
returns c =
    let a = c.args in
    let edition = rw (c.new-reader.ensures.0, c.new-reader.ensures.1) at c.in_ok-edition.ensures.field in
    let truth = rw (c.take.ensures.bytes, c.new-reader.ensures.0) at c.in_ok-holds.ensures.truth in
    rw (c.then_some.ensures, c.filled.ensures, c.judge_rule.ensures.bytes, c.take.ensures.bytes, c.new-reader.ensures.0)
    (sym (one_rule a.sheet.now a.image.now c.if-sheet-gt-MAX_BYTES.false (sym edition) c.if-edition-ne-EDITION.false truth))
