-- The loop of `judge_members` and the cases of `judge_rule`, by the laws of `Judging`. Assumes nothing.
use Rattle.std.proofs.Common.{◌≡◌, ◌+◌, ◌-◌, refl, suc, ◌∙◌, arith}
use Rattle.sheet.specs.Sheet.{read_rule, read_members}
use Rattle.sheet.specs.Inner.{kind_of}
use Rattle.sheet.proofs.Judging.{no_levels, no_entry, one_clause, many_members, nothing_joined, none_left, member_judged}
use Rattle.sheet.proofs.rules.+judge_members_judge_rule.Goals as goal

pub judge_members-loop-init : goal.judge_members-loop-init
judge_members-loop-init t c =
    let a = c.args in
    let all_left : a.count - 0 ≡ a.count = omega arith in
    (rw (all_left, c.of_none-truth.ensures) (nothing_joined (kind_of a.kind) a.image.now (read_members a.count (read_rule a.levels) a.reader.now.bytes.now a.reader.now.at)), refl)

pub judge_members-loop-preserved : goal.judge_members-loop-preserved
judge_members-loop-preserved t c =
    let a = c.args in
    let one : a.count - (c.loop.counter + 1) ≡ a.count - c.loop.counter - 1 = omega arith in
    let judged = member_judged (kind_of a.kind) a.image.now (read_rule a.levels) c.loop.reader.bytes.now c.loop.truth c.loop.reader.at
    (omega (arith, c.loop-test.true)) c.loop.invariant.0 c.in_ok-member.ensures.truth in
    (rw (c.join-truth.ensures, one, c.judge_rule.ensures.bytes) judged, c.judge_rule.ensures.bytes ∙ c.loop.invariant.1)

pub judge_members-returns-clause-truth : goal.judge_members-returns-clause-truth
judge_members-returns-clause-truth t c =
    let a = c.args in
    let none : a.count - c.loop.counter ≡ 0 = omega (arith, c.loop-test.false) in
    none_left (kind_of a.kind) a.image.now (read_rule a.levels) c.loop.reader.bytes.now c.loop.truth c.loop.reader.at none c.loop.invariant.0

pub judge_rule-returns-in_err-deeper-clause-truth : goal.judge_rule-returns-in_err-deeper-clause-truth
judge_rule-returns-in_err-deeper-clause-truth t c =
    let a = c.args in
    rw c.from_residual.ensures (no_levels a.image.now a.reader.now.bytes.now a.reader.now.at (omega (arith, c.in_err-deeper.ensures)))

pub judge_rule-returns-in_err-clause-clause-truth : goal.judge_rule-returns-in_err-clause-clause-truth
judge_rule-returns-in_err-clause-clause-truth t c =
    let a = c.args in
    let deeper : suc c.in_ok-deeper.deeper ≡ a.levels = omega (arith, c.in_ok-deeper.ensures) in
    rw c.from_residual-in_err-clause.ensures (no_entry a.image.now a.reader.now.bytes.now a.reader.now.at deeper c.in_err-clause.ensures.entry)

pub judge_rule-returns-in-One-clause-truth : goal.judge_rule-returns-in-One-clause-truth
judge_rule-returns-in-One-clause-truth t c =
    let a = c.args in
    let deeper : suc c.in_ok-deeper.deeper ≡ a.levels = omega (arith, c.in_ok-deeper.ensures) in
    let entry = rw c.in-One.is at c.in_ok-clause.ensures.entry in
    rw c.holds.ensures (one_clause a.image.now a.reader.now.bytes.now a.reader.now.at deeper entry)

pub judge_rule-returns-in-Many-clause-truth : goal.judge_rule-returns-in-Many-clause-truth
judge_rule-returns-in-Many-clause-truth t c =
    let a = c.args in
    let entry = rw c.in-Many.is at c.in_ok-clause.ensures.entry in
    rw (c.judge_members.ensures.truth, c.take_entry.ensures.bytes) (many_members a.image.now a.reader.now.bytes.now a.reader.now.at (omega (arith, c.in_ok-deeper.ensures)) entry)
