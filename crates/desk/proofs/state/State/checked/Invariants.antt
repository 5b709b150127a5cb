-- The bytes counted so far and those of the records to come are those of the log, and the log lies inside if the records to come do.
use Rattle.std.proofs.Common.{◌≡◌, ◌+◌, ◌≤◌, drop}
use Rattle.region.specs.Limits.{log_limit}
use Rattle.desk.specs.State.{together, records_inside}
use Rattle.desk.proofs.state.State.checked.Given as goal

abbrev pub invariant-loop-r : goal.invariant-loop-r
invariant-loop-r l =
    (l.used ≤ log_limit)
    × (l.used + together (drop l.r-index l.r-items) ≡ together l.r-items)
    × (records_inside l.image l.r-items ≡ records_inside l.image (drop l.r-index l.r-items))
