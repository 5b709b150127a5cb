-- A turn adds the next record's points, and a log has no more points than bytes. Assumes nothing.
use Rattle.std.proofs.Common.{ℕ, ◌+◌, ◌≤◌, ◌<◌, ◌≡◌, true, List, [], length, get_or, drop, sym, ap, ◌∙◌, arith}
use native.Mathlib.Nat.{add-zero}
use lib.ListN.{drop_of_length-le}
use borrow.Author.Tests.{leb-true}
use Rattle.region.specs.Limits.{image_limit, const_persistence_chunk_size}
use Rattle.region.proofs.Booleans.{both}
use Rattle.records.specs.Record.{no_record}
use Rattle.records.specs.declared.Record.{Record}
use Rattle.desk.specs.State.{records_inside, together}
use Rattle.desk.proofs.Records.{inside_next}
use Rattle.engine.specs.Count.{record_points}
use Rattle.engine.proofs.PointLaws.{points_next, record_points_le}
use Rattle.engine.proofs.count.log_points.Goals as goal

-- the record at i lies inside, and so do those after it
lies : (rs : List Record) (i : ℕ) → i < length rs → records_inside image_limit (drop i rs) ≡ true → let r = get_or rs i no_record in
    (r.addr + r.len ≤ image_limit) × (records_inside image_limit (drop (i + 1) rs) ≡ true)
lies rs i more inside = let parts = both _ _ (sym (inside_next rs i more image_limit) ∙ inside) in (leb-true _ image_limit parts.0, parts.1)

pub touched-sum-requires : goal.touched-sum-requires
touched-sum-requires c = let here = lies c.outstanding-r-items.result.now c.loop-r.r-index c.loop-r-test.true c.loop-r.invariant.0 in omega (arith, here.0)

pub overflow_add-sum : goal.overflow_add-sum
overflow_add-sum c =
    let rs = c.outstanding-r-items.result.now in
    omega (
      arith,
      c.touched-sum.ensures,
      c.loop-r.invariant.1,
      points_next const_persistence_chunk_size rs c.loop-r.r-index c.loop-r-test.true,
      record_points_le rs,
      ap together c.outstanding-r-items.ensures.records,
      c.requires.room,
    )

pub loop-r-preserved : goal.loop-r-preserved
loop-r-preserved c =
    let rs = c.outstanding-r-items.result.now in
    let more = c.loop-r-test.true in (
      (lies rs c.loop-r.r-index more c.loop-r.invariant.0).1,
      omega (arith, c.touched-sum.ensures, c.loop-r.invariant.1, points_next const_persistence_chunk_size rs c.loop-r.r-index more),
    )

pub returns : goal.returns
unfolding record_points
returns c =
    let rs = c.outstanding-r-items.result.now in
    let none : drop c.loop-r.r-index rs ≡ [] = drop_of_length-le rs (omega (arith, c.loop-r-test.false)) in
    sym (add-zero c.loop-r.sum) ∙ ap (λ (left : List Record). c.loop-r.sum + record_points const_persistence_chunk_size left) (sym none) ∙ c.loop-r.invariant.1
    ∙ ap (record_points const_persistence_chunk_size) c.outstanding-r-items.ensures.records
