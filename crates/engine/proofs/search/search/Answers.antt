-- A turn tries the next number. Assumes nothing.
use Rattle.std.proofs.Common.{refl, ◌∙◌, arith, rules}
use lib.Pow.{pow_pos}
use Rattle.engine.proofs.SearchLaws.{judged_obeys, tried_none, tried_more, found_bad, found_none, numbers_exact, ready_points}
use Rattle.engine.proofs.search.search.Goals as goal

pub loop-m-init : goal.loop-m-init
loop-m-init c =
    let n = c.args.points in
    (omega (arith, numbers_exact n c.requires.few, pow_pos n), refl, tried_none (ready_points c.requires))

pub returns-then-not-obeyed : goal.returns-then-not-obeyed
returns-then-not-obeyed c =
    found_bad c.loop-m.invariant.2 (omega (arith, c.loop-m-test.true, c.loop-m.invariant.0)) c.trial.ensures (judged_obeys _ _ _ c.judge.ensures (search rules))

pub loop-m-preserved : goal.loop-m-preserved
loop-m-preserved c = (
  c.loop-m.invariant.0,
  c.trial.auto.work ∙ c.loop-m.invariant.1,
  tried_more c.loop-m.invariant.2 (omega (arith, c.loop-m-test.true, c.loop-m.invariant.0)) c.trial.ensures (judged_obeys _ _ _ c.judge.ensures (search rules)),
)

pub returns-else-not-obeyed : goal.returns-else-not-obeyed
returns-else-not-obeyed c =
    found_none (tried_more c.loop-m.invariant.2 (omega (arith, c.loop-m-test.true, c.loop-m.invariant.0)) c.trial.ensures (judged_obeys _ _ _ c.judge.ensures (search rules)))
    (ready_points c.requires) (omega (arith, c.loop-m.invariant.0))
