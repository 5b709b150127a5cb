-- The numbers below m are tried and good.
use Rattle.std.proofs.Common.{◌+◌, ◌^◌, ◌≡◌, length}
use Rattle.pieces.specs.Handed.{handed}
use Rattle.desk.specs.Desk.{desk}
use Rattle.engine.proofs.SearchLaws.{Tried}
use Rattle.engine.proofs.search.search.Given as goal

abbrev pub invariant-loop-m : goal.invariant-loop-m
invariant-loop-m l =
    (l.last + 1 ≡ 2 ^ l.points)
    × (length l.work ≡ length l.fn.work)
    × Tried (desk l.image l.state l.log) l.sheet (handed l.write) l.points l.work l.m
