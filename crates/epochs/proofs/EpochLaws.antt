-- Which of an epoch's tests gives its number, and what number 0 tells. Assumes nothing.
use Prim.Native.Nat.{ℕ, ◌+◌, ◌-◌, ◌≤◌, ◌<◌}
use native.Mathlib.Decide.{dec_lt}
use native.Mathlib.Omega.{arith}
use mathlib.Core.Path.{◌≡◌, refl, sym, ap, ◌∙◌}
use mathlib.Core.Logic.{by_cases}
use mathlib.Core.Bool.{Bool, true, false, ◌||◌, false≢true}
use mathlib.Core.List.{List}
use lib.Dec.{leb, ltb, eqb}
use lib.ListN.{length}
use borrow.Author.Tests.{le-leb, lt-leb, leb-true, lt-ltb, le-ltb, ltb-true, eq-eqb, ne_eqb}
use Rattle.std.specs.Prelude.{Result, Ok, Err}
use Rattle.region.specs.Answer.{unless}
use Rattle.region.specs.declared.Refusal.{Refusal}
use Rattle.region.proofs.AnswerLaws.{passed}
use Rattle.region.proofs.Booleans.{cond_when, cond_unless, and_when, and_unless, both}
use Rattle.pieces.specs.Rows.{rows_filled}
use Rattle.epochs.specs.Epoch.{flush_header, cut_header, header, flush_foretold, header_right, row_place, epoch_there, epoch_number}
use Rattle.epochs.specs.End.{flushing, ForetellsEnd}
use Rattle.epochs.specs.declared.epoch.End.{End}

-- what it means that the epoch is there, and that it is right
pub record There (K n : ℕ) (tape : List ℕ) (start : ℕ) : Type 0 where
  pub begins : start < length tape
  pub fits : row_place K start n ≤ length tape

pub record Epoch (K n : ℕ) (tape : List ℕ) (start : ℕ) : Type 0 where
  pub there : There K n tape start
  pub filled : rows_filled K n tape (start + 1) ≡ true

module _ (K n : ℕ) (tape : List ℕ) (start : ℕ) where
  abbrev rows_fit : Bool
  rows_fit = leb (row_place K start n) (length tape)

  abbrev after_10 : ℕ
  after_10 = unless (rows_filled K n tape (start + 1)) 9 0

  pub no_epoch : epoch_there K n tape start ≡ false → epoch_number K n tape start ≡ 10
  unfolding epoch_number
  no_epoch e = cond_unless (epoch_there K n tape start) after_10 10 e

  pub badly_filled : epoch_there K n tape start ≡ true → rows_filled K n tape (start + 1) ≡ false → epoch_number K n tape start ≡ 9
  unfolding epoch_number
  badly_filled e f = cond_when (epoch_there K n tape start) after_10 10 e ∙ cond_unless (rows_filled K n tape (start + 1)) 0 9 f

  pub epoch_good : epoch_there K n tape start ≡ true → rows_filled K n tape (start + 1) ≡ true → epoch_number K n tape start ≡ 0
  unfolding epoch_number
  epoch_good e f = cond_when (epoch_there K n tape start) after_10 10 e ∙ cond_when (rows_filled K n tape (start + 1)) 0 9 f

  -- a right epoch's header foretells an end
  pub end_foretold : epoch_number K n tape start ≡ 0 → (r : Result End Refusal) → ForetellsEnd tape start r
      → (end : End) × (r ≡ Ok end) × (flush_foretold tape start ≡ flushing end)
  unfolding epoch_number
  end_foretold none (Ok end) told = (end, refl, told.1)
  end_foretold none (Err why) told = absurd (false≢true (sym told.1 ∙ (both _ _ (passed _ none).0).0))

  -- the header, and then the rows
  pub no_header : header_right tape start ≡ false → epoch_there K n tape start ≡ false
  no_header e = and_unless (header_right tape start) rows_fit e

  pub with_header : header_right tape start ≡ true → epoch_there K n tape start ≡ rows_fit
  with_header e = and_when (header_right tape start) rows_fit e

module _ {K n : ℕ} {tape : List ℕ} {start : ℕ} where
  pub there_facts : epoch_there K n tape start ≡ true → There K n tape start
  there_facts e =
      let parts = both _ _ e in
      record { begins = ltb-true _ _ (both _ _ parts.0).0; fits = leb-true _ _ parts.1 }

  pub epoch_facts : epoch_number K n tape start ≡ 0 → Epoch K n tape start
  unfolding epoch_number
  epoch_facts e =
      let a = passed _ e in
      record { there = there_facts a.0; filled = (passed _ a.1).0 }

-- the header's test
module _ (tape : List ℕ) (start : ℕ) where
  abbrev either : Bool
  either = flush_foretold tape start || eqb (header tape start) cut_header

  -- a start at or past the tape's end, for every number
  pub past_the_end : length tape ≤ start → header_right tape start ≡ false
  past_the_end h = and_unless (ltb start (length tape)) either (le-ltb start (length tape) h)

  module _ (begins : start < length tape) where
    first_test : header_right tape start ≡ either
    first_test = and_when (ltb start (length tape)) either (lt-ltb start (length tape) begins)

    pub flush_header_right : header tape start ≡ flush_header → header_right tape start ≡ true
    flush_header_right e = first_test ∙ ap (λ (b : Bool). b || eqb (header tape start) cut_header) (eq-eqb (header tape start) flush_header e)

    pub cut_header_right : header tape start ≡ cut_header → header_right tape start ≡ true
    cut_header_right e = first_test ∙ ap (λ (x : ℕ). eqb x flush_header || eqb x cut_header) e

    pub other_header : (header tape start ≡ flush_header → ⊥) → (header tape start ≡ cut_header → ⊥) → header_right tape start ≡ false
    other_header f c =
        first_test ∙ ap (λ (b : Bool). b || eqb (header tape start) cut_header) (ne_eqb (header tape start) flush_header f)
        ∙ ne_eqb (header tape start) cut_header c

-- the bytes of the rows fit behind the header, without a sum of the start
pub fits_behind : (m start n : ℕ) → start < n → ltb m (n - start) ≡ leb (start + 1 + m) n
fits_behind m start n h =
    by_cases (dec_lt m (n - start))
    (λ l. lt-ltb m (n - start) l ∙ sym (le-leb (start + 1 + m) n (omega arith)))
    (λ l. le-ltb m (n - start) (omega arith) ∙ sym (lt-leb (start + 1 + m) n (omega arith)))
