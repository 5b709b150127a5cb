-- What the theorems say of the worked runs of `session`, computed: the replay of their histories, and the images that a tape predicts. Assumes nothing.
use mathlib.Core.Path.{◌≡◌, refl}
use Rattle.desk.specs.Desk.{chunk_size}
use Rattle.session.specs.History.{settled, replay}
use Rattle.session.specs.Theorem.{Session}
use Rattle.session.specs.TapeTheorem.{TapeSession, predictions}
use Rattle.session.proofs.Theorem.{session}
use Rattle.session.proofs.TapeTheorem.{tape_session}
use Rattle.session.proofs.Computing.{everything}
use Rattle.worked.proofs.Calls.{zeros, eight_is_nine, image_with, written_down, tape}
use Rattle.session.proofs.Worked.{the_history, the_run, the_tape_history, the_images, the_tape_run}

pub the_session : Session eight_is_nine zeros the_history (written_down (image_with 0xBB) 0xBB)
the_session = session eight_is_nine zeros the_run

pub the_replay : replay (chunk_size (written_down (image_with 0xBB) 0xBB)) zeros the_history ≡ settled (image_with 0xBB)
unfolding everything
the_replay = refl

pub the_tape_session : TapeSession eight_is_nine tape (image_with 0xCC) the_tape_history (written_down (image_with 0xBB) 0xBB) 4 the_images
the_tape_session = tape_session eight_is_nine tape the_tape_run

pub the_predictions : predictions (chunk_size (written_down (image_with 0xBB) 0xBB)) (image_with 0xCC) tape the_tape_history ≡ the_images
unfolding everything
the_predictions = refl
