-- Which of a write's tests gives its number, and the promise of a done write and of a refused one. Assumes nothing.
use mathlib.Core.Path.{◌≡◌, sym, ◌∙◌}
use mathlib.Core.Bool.{true, false}
use Rattle.std.specs.Prelude.{Err}
use Rattle.region.specs.Answer.{refusal_number, done}
use Rattle.region.specs.declared.Refusal.{Refusal}
use Rattle.region.proofs.AnswerLaws.{done_changed, refused_left}
use Rattle.region.proofs.Booleans.{cond_when, cond_unless}
use Rattle.pieces.specs.AsyncSpec.{Write}
use Rattle.desk.specs.Desk.{Desk, sound, room_for, with_write}
use Rattle.writelog.specs.Write.{write_number, Writes}

module _ (d : Desk) (w : Write) where
  pub write_unsound : sound d ≡ false → write_number d w ≡ 1
  unfolding write_number
  write_unsound e = cond_unless (sound d) (room_for d w) 1 e

  pub write_sound : sound d ≡ true → write_number d w ≡ room_for d w
  unfolding write_number
  write_sound e = cond_when (sound d) (room_for d w) 1 e

module _ {d : Desk} {w : Write} where
  pub writes_done : write_number d w ≡ 0 → {d' : Desk} → d' ≡ with_write d w → Writes d w done d'
  writes_done none left = record { answers = sym none; leaves = left ∙ done_changed d none }

  pub writes_refused : (why : Refusal) → write_number d w ≡ refusal_number why → Writes d w (Err why) d
  writes_refused why some = record { answers = sym some; leaves = refused_left why (with_write d w) some }
