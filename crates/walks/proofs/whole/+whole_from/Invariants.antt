-- One write falls away at each step.
use Rattle.std.proofs.Common.{length}
use Rattle.walks.proofs.whole.+whole_from.Given as goal

abbrev pub decreases-whole_from : goal.decreases-whole_from
decreases-whole_from l = length l.records.now
