-- An opening, test by test. Assumes nothing.
use Rattle.gate.proofs.OpeningLaws.{opens_long, opens_other_log, opens_good}
use Rattle.gate.proofs.open.open.Goals as goal
use Rattle.gate.proofs.open.open.Goals.{
  then-image-gt-IMAGE_LIMIT-via-then-image-gt-IMAGE_LIMIT,
  then-image-gt-IMAGE_LIMIT-via-else-image-gt-IMAGE_LIMIT+then-log-ne-LOG_LIMIT,
}

pub returns-then-image-gt-IMAGE_LIMIT : goal.returns-then-image-gt-IMAGE_LIMIT
returns-then-image-gt-IMAGE_LIMIT c =
    elim c.then-image-gt-IMAGE_LIMIT.branch [
      | then-image-gt-IMAGE_LIMIT-via-then-image-gt-IMAGE_LIMIT w ↦ opens_long w.if-image-gt-IMAGE_LIMIT.true
      | then-image-gt-IMAGE_LIMIT-via-else-image-gt-IMAGE_LIMIT+then-log-ne-LOG_LIMIT w ↦ opens_other_log w.if-log-ne-LOG_LIMIT.true
    ]

pub returns : goal.returns
returns c = opens_good c.if-image-gt-IMAGE_LIMIT.false c.if-log-ne-LOG_LIMIT.false c.in_ok-judge.ensures c.fresh.ensures
