-- What the worked histories compute with.
use Rattle.worked.proofs.Computing.{calls}
use Rattle.session.specs.History.{happen, replay}
use Rattle.session.specs.TapeRun.{shows}
use Rattle.session.specs.TapeTheorem.{start_after, GoesBy, epoch_start, ChosenBy, predictions}

unfoldable pub everything : Type 0
unfolding calls happen replay shows start_after GoesBy epoch_start ChosenBy predictions
everything = record {}
