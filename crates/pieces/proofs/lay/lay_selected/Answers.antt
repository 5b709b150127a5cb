-- The test reads the row's bit for an address's chunk. Assumes nothing.
use Rattle.std.proofs.Common.{◌≡◌, ◌/◌, false, length, get_or, sym, ◌∙◌, arith, rules}
use Rattle.region.specs.Limits.{const_persistence_chunk_size}
use Rattle.pieces.specs.AsyncSpec.{size_to_chunks, apply_write_selective}
use Rattle.pieces.specs.Laid.{lay}
use Rattle.pieces.specs.Rows.{row_at, row_bit}
use Rattle.pieces.proofs.RowBits.{row_at_bit}
use Rattle.pieces.proofs.lay.lay_selected.Goals as goal

pub returns : goal.returns
unfolding apply_write_selective lay
returns c =
    let a = c.args in
    let C = const_persistence_chunk_size in
    let K = size_to_chunks C (length a.work.now) in
    c.lay_where.ensures (λ i. get_or (row_at K a.rows.now a.at) (i / C) false)
    (λ i b low high told.
    let bit : b ≡ row_bit a.rows.now a.at (i / C) = search rules in
    bit ∙ sym (row_at_bit K a.rows.now a.at (i / C) (omega arith)))
