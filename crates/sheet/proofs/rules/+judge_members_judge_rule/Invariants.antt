-- The cycle of `judge_rule` and `judge_members`. A rule of d levels has the measure 2 * d, and the members of d levels 2 * d + 1, so each call
-- is to a smaller one. The loop's invariant: what the members so far come to, with those that are left, is the answer for them all.
-- Assumes nothing.
use Rattle.std.proofs.Common.{◌≡◌, ◌+◌, ◌-◌, ◌*◌}
use Rattle.sheet.specs.Sheet.{read_rule, read_members}
use Rattle.sheet.specs.Inner.{kind_of, group_truth}
use Rattle.sheet.proofs.Judging.{left_truth}
use Rattle.sheet.proofs.rules.+judge_members_judge_rule.Given as goal

abbrev pub decreases-judge_members : goal.decreases-judge_members
decreases-judge_members l = 2 * l.levels + 1

abbrev pub decreases-judge_rule : goal.decreases-judge_rule
decreases-judge_rule l = 2 * l.levels

abbrev pub invariant-judge_members-loop : goal.invariant-judge_members-loop
invariant-judge_members-loop l =
    (left_truth (kind_of l.kind) l.image l.truth (read_members (l.count - l.counter) (read_rule l.levels) l.reader.bytes.now l.reader.at)
    ≡ group_truth (kind_of l.kind) l.image (read_members l.count (read_rule l.levels) l.fn.reader.bytes.now l.fn.reader.at))
    × (l.reader.bytes ≡ l.fn.reader.bytes)
