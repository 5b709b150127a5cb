-- Which test gives an opening its number, and when it is 0; then the promise, a law for each way that an opening returns. Assumes nothing.
use Prim.Native.Nat.{ℕ, ◌≤◌, ◌<◌}
use mathlib.Core.Path.{◌≡◌, sym, ap, ◌∙◌}
use mathlib.Core.Logic.{◌↔◌}
use mathlib.Core.Bool.{Bool, true, false, ◌&&◌, and-false}
use mathlib.Core.List.{List}
use lib.Dec.{leb, eqb}
use lib.ListN.{length}
use borrow.Author.Tests.{le-leb, lt-leb, leb-true, eq-eqb, ne_eqb, eqb-true}
use Rattle.std.specs.Prelude.{Err}
use Rattle.region.specs.Limits.{image_limit, log_limit}
use Rattle.region.specs.Answer.{unless, refusal_number, done}
use Rattle.region.specs.declared.Refusal.{Refusal}
use Rattle.region.specs.declared.Refusal.TheVariants.{BadState}
use Rattle.region.proofs.AnswerLaws.{done_changed, refused_left, passed}
use Rattle.region.proofs.Booleans.{cond_when, cond_unless, and_unless, both, both_true}
use Rattle.sheet.specs.Sheet.{well_formed, allows, sheet_number}
use Rattle.sheet.proofs.Laws.{obeyed_is_formed}
use Rattle.desk.specs.State.{fresh}
use Rattle.desk.specs.Desk.{Desk, desk, opened_desk}
use Rattle.desk.specs.declared.state.State.{State}
use Rattle.gate.specs.Meaning.{Openable}
use Rattle.gate.specs.Opening.{open_number, Opens}

-- the test of 1
abbrev first : Desk → Bool
first d = leb (length d.image) image_limit && eqb (length d.log) log_limit

module _ (d : Desk) (sheet : List ℕ) where
  abbrev last : ℕ
  last = unless (allows sheet d.image) 6 0

  module _ (short : length d.image ≤ image_limit) (buffer : length d.log ≡ log_limit) where
    first_passed : open_number d sheet ≡ sheet_number sheet d.image
    unfolding open_number
    first_passed = cond_when (first d) _ 1 (both_true (le-leb (length d.image) image_limit short) (eq-eqb (length d.log) log_limit buffer))

    pub open_broken : well_formed sheet ≡ true → allows sheet d.image ≡ false → open_number d sheet ≡ 6
    open_broken e f = first_passed ∙ cond_when (well_formed sheet) last 5 e ∙ cond_unless (allows sheet d.image) 0 6 f

    pub open_good : allows sheet d.image ≡ true → open_number d sheet ≡ 0
    open_good f =
        first_passed ∙ cond_when (well_formed sheet) last 5 (obeyed_is_formed sheet d.image d.image f) ∙ cond_when (allows sheet d.image) 0 6 f

  opened : open_number d sheet ≡ 0 → Openable d sheet
  unfolding open_number
  opened e =
      let a = passed {good = first d} 0 e in
      let b = passed {good = well_formed sheet} 4 {rest = last} a.1 in
      let f = both _ _ a.0 in
      record {
        short = leb-true (length d.image) image_limit f.0;
        buffer = eqb-true (length d.log) log_limit f.1;
        obeyed = (passed _ b.1).0;
      }

  pub opens_exactly_if : (open_number d sheet ≡ 0) ↔ Openable d sheet
  opens_exactly_if = (opened, λ o. open_good o.short o.buffer o.obeyed)

-- the promise, return by return
module _ {d : Desk} {sheet : List ℕ} where
  opens_refused : (why : Refusal) → open_number d sheet ≡ refusal_number why → Opens d sheet (Err why) d
  opens_refused why e = record { answers = sym e; leaves = refused_left why (opened_desk d) e }

  pub opens_long : image_limit < length d.image → Opens d sheet (Err BadState) d
  unfolding open_number
  opens_long h = opens_refused BadState (cond_unless (first d) _ 1 (and_unless _ _ (lt-leb (length d.image) image_limit h)))

  pub opens_other_log : (length d.log ≡ log_limit → ⊥) → Opens d sheet (Err BadState) d
  unfolding open_number
  opens_other_log n = opens_refused BadState (cond_unless (first d) _ 1 (rw (ne_eqb (length d.log) log_limit n, and-false)))

  module _ (short : length d.image ≤ image_limit) (buffer : length d.log ≡ log_limit) where
    -- what the sheet says of the image
    pub opens_stopped : (why : Refusal) → refusal_number why ≡ sheet_number sheet d.image → Opens d sheet (Err why) d
    opens_stopped why e = opens_refused why (first_passed d sheet short buffer ∙ sym e)

    pub opens_good : 0 ≡ sheet_number sheet d.image → {st : State} → st ≡ fresh → Opens d sheet done (desk d.image st d.log)
    opens_good e s =
        let none = first_passed d sheet short buffer ∙ sym e in
        record { answers = sym none; leaves = ap (λ (st : State). desk d.image st d.log) s ∙ done_changed d none }
