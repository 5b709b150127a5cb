-- The promise of a done cut, and of a refused one. Assumes nothing.
use Prim.Native.Nat.{ℕ}
use mathlib.Core.Path.{◌≡◌, refl, sym, ap, ◌∙◌}
use mathlib.Core.Bool.{Bool, true, false}
use mathlib.Core.List.{List, [], ◌∷◌}
use Rattle.std.specs.Prelude.{Ok, Err}
use Rattle.region.specs.Answer.{unless, refusal_number, counted_report}
use Rattle.region.specs.declared.Refusal.{Refusal}
use Rattle.region.proofs.AnswerLaws.{done_changed, refused_left}
use Rattle.region.proofs.Booleans.{cond_when, cond_unless}
use Rattle.pieces.specs.Rows.{rows_right}
use Rattle.desk.specs.Desk.{Desk, chunks, sound, settled_desk}
use Rattle.writelog.specs.Cut.{cut_told, image_by_rows, kept_by_rows, cut_number, Cuts}

pub kept_told : {k kept n : ℕ} → k ≡ kept → n ≡ 0 → counted_report (Ok k) ≡ cut_told kept n
kept_told {kept = kept} e none = ap (λ (k : ℕ). cut_told k 0) e ∙ ap (cut_told kept) (sym none)

pub refused_told : (why : Refusal) (kept : ℕ) {n : ℕ} → n ≡ refusal_number why → counted_report (Err why) ≡ cut_told kept n
refused_told why kept some =
    ap (λ (vs : List ℕ). record { number = refusal_number why; values = vs }) (refused_left {n = refusal_number why} why (kept ∷ []) refl)
    ∙ ap (cut_told kept) (sym some)

module _ (d : Desk) (table : List ℕ) where
  abbrev right : Bool
  right = rows_right (chunks d) d.state.count table

  abbrev after_1 : ℕ
  after_1 = unless right 9 0

  pub cut_unsound : sound d ≡ false → cut_number d table ≡ 1
  unfolding cut_number
  cut_unsound e = cond_unless (sound d) after_1 1 e

  pub cut_bad_rows : sound d ≡ true → right ≡ false → cut_number d table ≡ 9
  unfolding cut_number
  cut_bad_rows e f = cond_when (sound d) after_1 1 e ∙ cond_unless right 0 9 f

  pub cut_good : sound d ≡ true → right ≡ true → cut_number d table ≡ 0
  unfolding cut_number
  cut_good e f = cond_when (sound d) after_1 1 e ∙ cond_when right 0 9 f

module _ {d : Desk} {table : List ℕ} where
  pub cuts_done : cut_number d table ≡ 0 → {k : ℕ} {d' : Desk} → k ≡ kept_by_rows d table 0 → d' ≡ settled_desk d (image_by_rows d table 0) → Cuts d table (Ok k) d'
  cuts_done none kept left = record { answers = kept_told kept none; leaves = left ∙ done_changed d none }

  pub cuts_refused : (why : Refusal) → cut_number d table ≡ refusal_number why → Cuts d table (Err why) d
  cuts_refused why e = record { answers = refused_told why (kept_by_rows d table 0) e; leaves = refused_left why _ e }
