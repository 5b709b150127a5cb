-- The sum so far and what the remaining records keep are what the whole log keeps.
use Rattle.walks.proofs.KeptLaws.{Counting}
use Rattle.walks.proofs.kept_count.kept.Given as goal

abbrev pub invariant-loop-r : goal.invariant-loop-r
invariant-loop-r l = Counting l.size l.state l.rows l.row l.sum l.place l.r-index
