-- The promise of a done flush, and of a refused one. Assumes nothing.
use mathlib.Core.Path.{◌≡◌, sym, ◌∙◌}
use mathlib.Core.Bool.{true, false}
use Rattle.std.specs.Prelude.{Err}
use Rattle.region.specs.declared.Refusal.TheVariants.{BadState}
use Rattle.region.proofs.AnswerLaws.{done_changed, refused_left}
use Rattle.region.proofs.Booleans.{cond_when, cond_unless}
use Rattle.region.specs.Answer.{done}
use Rattle.pieces.specs.AsyncSpec.{readable}
use Rattle.desk.specs.Desk.{Desk, view, sound, settled_desk}
use Rattle.writelog.specs.Flush.{flush_number, Flushes}

module _ (d : Desk) where
  pub flush_sound : sound d ≡ true → flush_number d ≡ 0
  unfolding flush_number
  flush_sound e = cond_when (sound d) 0 1 e

  pub flush_unsound : sound d ≡ false → flush_number d ≡ 1
  unfolding flush_number
  flush_unsound e = cond_unless (sound d) 0 1 e

module _ {d : Desk} where
  pub flushes_done : sound d ≡ true → {d' : Desk} → d' ≡ settled_desk d (readable (view d)) → Flushes d done d'
  flushes_done e left = let none = flush_sound d e in record { answers = sym none; leaves = left ∙ done_changed d none }

  pub flushes_refused : sound d ≡ false → Flushes d (Err BadState) d
  flushes_refused e = let one = flush_unsound d e in record { answers = sym one; leaves = refused_left BadState _ one }
