-- Each write takes its points off the number. Assumes nothing.
use Rattle.std.proofs.Common.{ℕ, arith, ◌∙◌}
use Rattle.region.specs.Limits.{const_persistence_chunk_size}
use Rattle.walks.proofs.Walk.{step}
use Rattle.engine.proofs.PointLaws.{points_first}
use Rattle.engine.proofs.TrialLaws.{none_chosen, next_chosen}
use Rattle.engine.proofs.trial.+chosen_from.Goals as goal

abbrev C : ℕ
C = const_persistence_chunk_size

pub returns-in_default : goal.returns-in_default
returns-in_default t c = none_chosen C c.args.records.now c.args.work.now c.args.log.now c.args.m c.in_default.ensures.cases

pub split_at-requires : goal.split_at-requires
split_at-requires t c = (step c.in-Some.ensures.cases.0 c.requires.remaining).has

pub lay_chosen-requires-clause-lies : goal.lay_chosen-requires-clause-lies
lay_chosen-requires-clause-lies t c =
    let s = step c.in-Some.ensures.cases.0 c.requires.remaining in omega (arith, s.lies, c.split_at.ensures.front_len)

pub lay_chosen-requires-clause-few_points : goal.lay_chosen-requires-clause-few_points
lay_chosen-requires-clause-few_points t c =
    rw c.split_at.ensures.front_len (omega (arith, points_first C c.in-Some.ensures.cases.0, c.requires.few_points))

pub touched-requires : goal.touched-requires
touched-requires t c = let s = step c.in-Some.ensures.cases.0 c.requires.remaining in omega (arith, s.lies, c.requires.short)

pub overflow_shr-above : goal.overflow_shr-above
overflow_shr-above t c = omega (arith, c.touched.ensures, points_first C c.in-Some.ensures.cases.0, c.requires.few_points)

pub chosen_from-requires : goal.chosen_from-requires
chosen_from-requires t c =
    let s = step c.in-Some.ensures.cases.0 c.requires.remaining in (
      omega (arith, c.decreases, c.in-Some.ensures.cases.1),
      rw c.lay_chosen.auto.work (
        s.after c.split_at.ensures.back_len,
        (c.requires.short, omega (arith, points_first C c.in-Some.ensures.cases.0, c.requires.few_points)),
      ),
    )

pub returns : goal.returns
returns t c =
    let s = step c.in-Some.ensures.cases.0 c.requires.remaining in
    c.chosen_from.ensures
    ∙ next_chosen C c.in-Some.ensures.cases.0 c.args.log.now c.args.work.now c.args.m s.has c.split_at.ensures.front c.split_at.ensures.back
    c.lay_chosen.auto.work c.lay_chosen.ensures c.touched.ensures
