-- The gate admits the first value over an empty log and the second over the first, and the flush over both is done (`StepLaws`). Assumes nothing.
use Rattle.rounds.proofs.StepLaws.{once, twice, not_refused, not_denied, flush_not_refused, pair_goes}
use Rattle.rounds.proofs.round.pair.Goals as goal

pub returns-in_err-verdict : goal.returns-in_err-verdict
returns-in_err-verdict c = absurd (not_refused (once c.requires c.gate.ensures) c.in_err-verdict.was)

pub returns-in_default : goal.returns-in_default
returns-in_default c = absurd (c.in_default.not-Admitted _ (not_denied (once c.requires c.gate.ensures) c.in_ok-verdict.was))

pub returns-in_err-verdict-2 : goal.returns-in_err-verdict-2
returns-in_err-verdict-2 c = absurd (not_refused (twice c.requires (once c.requires c.gate.ensures) c.gate-2.ensures) c.in_err-verdict-2.was)

pub returns-in_default-verdict : goal.returns-in_default-verdict
returns-in_default-verdict c =
    absurd (c.in_default-verdict.not-Admitted _ (not_denied (twice c.requires (once c.requires c.gate.ensures) c.gate-2.ensures) c.in_ok-verdict-2.was))

pub returns-in_err-flush : goal.returns-in_err-flush
returns-in_err-flush c =
    absurd (flush_not_refused c.requires (twice c.requires (once c.requires c.gate.ensures) c.gate-2.ensures) c.flush.ensures c.in_err-flush.was)

pub returns : goal.returns
returns c = pair_goes c.requires (twice c.requires (once c.requires c.gate.ensures) c.gate-2.ensures) c.flush.ensures
