-- A turn adds the set bits among the chunks that the next record's write touches. Assumes nothing.
use Rattle.std.proofs.Common.{◌+◌, ◌/◌, ◌≤◌, ap, ◌∙◌, arith, get_or}
use Rattle.pieces.specs.AsyncSpec.{size_to_chunks}
use Rattle.pieces.specs.Rows.{set_bits, row_bit, row_bytes}
use Rattle.records.specs.Record.{no_record}
use Rattle.walks.proofs.KeptLaws.{touched_inside, count_starts, turn_of, count_ends}
use Rattle.walks.proofs.kept_count.kept.Goals as goal

pub loop-r-init : goal.loop-r-init
loop-r-init c = let a = c.args in count_starts a.size a.state.now a.rows.now a.row c.requires

pub outstanding-r-items-requires : goal.outstanding-r-items-requires
outstanding-r-items-requires c = c.requires.few

pub touched-requires : goal.touched-requires
touched-requires c =
    let a = c.args in
    let here = turn_of a.size a.state.now a.rows.now a.row c.outstanding-r-items.ensures.records c.requires c.loop-r.invariant c.loop-r-test.true in
    omega (arith, here.lies, c.requires.short)

pub set_bits-sum-requires : goal.set_bits-sum-requires
set_bits-sum-requires c =
    let a = c.args in
    let r = get_or c.outstanding-r-items.result.now c.loop-r.r-index no_record in
    let here = turn_of a.size a.state.now a.rows.now a.row c.outstanding-r-items.ensures.records c.requires c.loop-r.invariant c.loop-r-test.true in
    let last : r.addr / 8 + c.touched.result ≤ size_to_chunks 8 a.size = omega (arith, c.touched.ensures, touched_inside a.size r.addr r.len here.lies) in
    (omega (arith, last, c.requires.short), omega (arith, last, here.row_there))

pub loop-r-preserved : goal.loop-r-preserved
loop-r-preserved c =
    let a = c.args in
    let r = get_or c.outstanding-r-items.result.now c.loop-r.r-index no_record in
    let here = turn_of a.size a.state.now a.rows.now a.row c.outstanding-r-items.ensures.records c.requires c.loop-r.invariant c.loop-r-test.true in
    here.after c.set_bits-sum.result c.row_bytes-width.result
    (c.set_bits-sum.ensures ∙ ap (set_bits (row_bit a.rows.now c.loop-r.place) (r.addr / 8)) c.touched.ensures)
    (c.row_bytes-width.ensures ∙ ap row_bytes c.size_to_chunks.ensures)

pub overflow_add-sum : goal.overflow_add-sum
overflow_add-sum c =
    let a = c.args in
    let r = get_or c.outstanding-r-items.result.now c.loop-r.r-index no_record in
    let here = turn_of a.size a.state.now a.rows.now a.row c.outstanding-r-items.ensures.records c.requires c.loop-r.invariant c.loop-r-test.true in
    let after = here.after c.set_bits-sum.result c.row_bytes-width.result
    (c.set_bits-sum.ensures ∙ ap (set_bits (row_bit a.rows.now c.loop-r.place) (r.addr / 8)) c.touched.ensures)
    (c.row_bytes-width.ensures ∙ ap row_bytes c.size_to_chunks.ensures) in
    omega (arith, after.bytes, c.requires.room)

pub overflow_add-place : goal.overflow_add-place
overflow_add-place c =
    let a = c.args in
    let here = turn_of a.size a.state.now a.rows.now a.row c.outstanding-r-items.ensures.records c.requires c.loop-r.invariant c.loop-r-test.true in
    omega (arith, here.row_there, c.row_bytes-width.ensures, ap row_bytes c.size_to_chunks.ensures)

pub returns : goal.returns
returns c =
    let a = c.args in
    count_ends a.size a.state.now a.rows.now a.row (omega (arith, c.outstanding-r-items.ensures.counted, c.loop-r-test.false)) c.loop-r.invariant
