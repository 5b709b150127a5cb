-- As `whole_from`, with the rows that keep the writes' chunks. Assumes nothing.
use Rattle.std.proofs.Common.{arith, ◌∙◌}
use Rattle.region.specs.Limits.{const_persistence_chunk_size}
use Rattle.walks.proofs.Walk.{step, none_selected, next_selected, row_there, rows_after}
use Rattle.walks.proofs.selected.+selected_from.Goals as goal

pub returns-in_default : goal.returns-in_default
returns-in_default t c =
    none_selected const_persistence_chunk_size c.args.records.now c.args.work.now c.args.log.now c.args.rows.now c.args.row c.in_default.ensures.cases

pub split_at-requires : goal.split_at-requires
split_at-requires t c = (step c.in-Some.ensures.cases.0 c.requires.remaining).has

pub lay_selected-requires-clause-lies : goal.lay_selected-requires-clause-lies
lay_selected-requires-clause-lies t c =
    let s = step c.in-Some.ensures.cases.0 c.requires.remaining in omega (arith, s.lies, c.split_at.ensures.front_len)

pub lay_selected-requires-clause-row_there : goal.lay_selected-requires-clause-row_there
lay_selected-requires-clause-row_there t c =
    omega (arith, row_there _ c.in-Some.ensures.cases.1 c.requires.rows_remaining, c.requires.rows_remaining.wide)

pub selected_from-requires : goal.selected_from-requires
selected_from-requires t c =
    let s = step c.in-Some.ensures.cases.0 c.requires.remaining in (
      omega (arith, c.decreases, c.in-Some.ensures.cases.1),
      rw c.lay_selected.auto.work (s.after c.split_at.ensures.back_len, rows_after _ c.in-Some.ensures.cases.1 c.requires.rows_remaining),
    )

pub returns : goal.returns
returns t c =
    c.selected_from.ensures
    ∙ next_selected c.in-Some.ensures.cases.0 c.args.log.now c.args.work.now c.split_at.ensures.front c.split_at.ensures.back const_persistence_chunk_size
    c.args.rows.now c.args.row c.args.width c.requires.rows_remaining.wide c.lay_selected.auto.work c.lay_selected.ensures
