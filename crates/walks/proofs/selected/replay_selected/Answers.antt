-- The outstanding records are the log. Assumes nothing.
use Rattle.std.proofs.Common.{◌∙◌, ℕ, List, ap₂, length}
use Rattle.region.specs.Limits.{const_persistence_chunk_size}
use Rattle.pieces.specs.AsyncSpec.{size_to_chunks, flush_writes_selective}
use Rattle.pieces.specs.Rows.{rows_at}
use Rattle.records.specs.declared.Record.{Record}
use Rattle.desk.specs.State.{writes_of}
use Rattle.desk.proofs.Soundness.{sound_facts}
use Rattle.walks.proofs.Walk.{all_remain}
use Rattle.walks.proofs.selected.replay_selected.Goals as goal

pub outstanding-requires : goal.outstanding-requires
outstanding-requires c = (sound_facts _ _ _ c.requires.sound).few

pub selected_from-requires-clause-remaining : goal.selected_from-requires-clause-remaining
selected_from-requires-clause-remaining c = rw c.outstanding.ensures.records (all_remain (sound_facts _ c.args.state.now _ c.requires.sound))

pub selected_from-requires-clause-rows_remaining : goal.selected_from-requires-clause-rows_remaining
selected_from-requires-clause-rows_remaining c = rw c.outstanding.ensures.counted (record { wide = c.requires.row_width; there = c.requires.rows_there })

pub returns : goal.returns
returns c =
    let a = c.args in
    let C = const_persistence_chunk_size in
    let K = size_to_chunks C (length a.work.now) in
    c.selected_from.ensures
    ∙ ap₂ (λ (rs : List Record) (n : ℕ). flush_writes_selective C a.work.now (writes_of rs a.log.now) (rows_at K n a.rows.now a.row)) c.outstanding.ensures.records
    c.outstanding.ensures.counted
