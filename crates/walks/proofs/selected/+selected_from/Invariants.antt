-- One write falls away at each step.
use Rattle.std.proofs.Common.{length}
use Rattle.walks.proofs.selected.+selected_from.Given as goal

abbrev pub decreases-selected_from : goal.decreases-selected_from
decreases-selected_from l = length l.records.now
