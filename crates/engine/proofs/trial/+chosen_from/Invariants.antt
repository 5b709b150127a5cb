-- One write falls away at each step.
use Rattle.std.proofs.Common.{length}
use Rattle.engine.proofs.trial.+chosen_from.Given as goal

abbrev pub decreases-chosen_from : goal.decreases-chosen_from
decreases-chosen_from l = length l.records.now
