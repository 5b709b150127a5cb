-- The test reads the bit of m for an address's chunk. Assumes nothing.
use Rattle.std.proofs.Common.{◌≡◌, ◌-◌, ◌/◌, false, length, get_or, sym, ◌∙◌, arith, rules}
use Rattle.region.specs.Limits.{const_persistence_chunk_size}
use Rattle.pieces.specs.AsyncSpec.{write_of, size_to_chunks, apply_write_selective}
use Rattle.pieces.specs.Choice.{row_of, keeps_point}
use Rattle.pieces.specs.Laid.{lay}
use Rattle.pieces.proofs.ChoiceBits.{byte_touches, chosen_bit}
use Rattle.pieces.proofs.lay.lay_chosen.Goals as goal

pub lay_where-requires-clause-answers : goal.lay_where-requires-clause-answers
lay_where-requires-clause-answers c =
    λ i low high.
    let near = byte_touches (write_of c.args.write.addr c.args.write.bytes.now) i low high in
    grind arith

pub returns : goal.returns
unfolding apply_write_selective lay
returns c =
    let a = c.args in
    let C = const_persistence_chunk_size in
    let K = size_to_chunks C (length a.work.now) in
    let w = write_of a.write.addr a.write.bytes.now in
    c.lay_where.ensures (λ i. get_or (row_of C K w a.m) (i / C) false)
    (λ i b low high told.
    let bit : b ≡ keeps_point a.m (i / C - w.addr / C) = search rules in
    bit ∙ sym (chosen_bit w i low high K a.m (omega arith)))
