-- What the later writes give over what is there once the first is laid is the answer. Assumes nothing.
use Rattle.std.proofs.Common.{arith, ◌∙◌}
use Rattle.walks.proofs.Walk.{step, none_whole, next_whole}
use Rattle.walks.proofs.whole.+whole_from.Goals as goal

pub returns-in_default : goal.returns-in_default
returns-in_default t c = none_whole c.args.records.now c.args.work.now c.args.log.now c.in_default.ensures.cases

pub split_at-requires : goal.split_at-requires
split_at-requires t c = (step c.in-Some.ensures.cases.0 c.requires).has

pub lay-requires : goal.lay-requires
lay-requires t c = let s = step c.in-Some.ensures.cases.0 c.requires in omega (arith, s.lies, c.split_at.ensures.front_len)

pub whole_from-requires : goal.whole_from-requires
whole_from-requires t c =
    let s = step c.in-Some.ensures.cases.0 c.requires in
    (omega (arith, c.decreases, c.in-Some.ensures.cases.1), rw c.lay.auto.work (s.after c.split_at.ensures.back_len))

pub returns : goal.returns
returns t c =
    c.whole_from.ensures ∙ next_whole c.in-Some.ensures.cases.0 c.args.log.now c.args.work.now c.split_at.ensures.front c.split_at.ensures.back c.lay.ensures
