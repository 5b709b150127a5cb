-- The points counted and those of the records to come are all points.
use Rattle.std.proofs.Common.{◌+◌, ◌≡◌, true, drop}
use Rattle.region.specs.Limits.{image_limit, const_persistence_chunk_size}
use Rattle.desk.specs.State.{records_inside}
use Rattle.engine.specs.Count.{record_points}
use Rattle.engine.proofs.count.log_points.Given as goal

abbrev pub invariant-loop-r : goal.invariant-loop-r
invariant-loop-r l =
    (records_inside image_limit (drop l.r-index l.r-items) ≡ true)
    × (l.sum + record_points const_persistence_chunk_size (drop l.r-index l.r-items) ≡ record_points const_persistence_chunk_size l.r-items)
