-- Document 01's numbers tell the answers apart: no refusal has number 0 or 8, and no two answers have one number. Then the laws of `unless` and
-- `if_done`, which every promise goes by. Assumes nothing.
use Prim.Native.Nat.{ℕ, zero, suc, ◌<◌}
use native.Mathlib.Nat.{pos_of_ne-zero, not-suc-le-zero, suc-ne-zero}
use native.Mathlib.Omega.{arith}
use mathlib.Core.Path.{◌≡◌, refl, sym, ap, ◌∙◌}
use mathlib.Core.Bool.{Bool, true, false}
use mathlib.Core.List.{List, [], ◌∷◌}
use lib.ListN.{get_or}
use Rattle.region.specs.declared.Refusal.{Refusal}
use Rattle.region.specs.declared.Refusal.TheVariants.{BadState, OutOfRange, TooManyWrites, TooManyBytes, BadSheet, BrokenImage, TooManyPoints, BadRows, BadTape, NotPredicted, TooManyRounds}
use Rattle.std.specs.Prelude.{Ok, Err}
use Rattle.region.specs.Answer.{Answer, done, refusal_number, answer_number, unless, if_done}

-- the answers in the order of their numbers. 8 is none of them: it reports a number, and is the gate's own.
answers : List Answer
answers =
    done
    ∷ Err BadState
    ∷ Err OutOfRange
    ∷ Err TooManyWrites
    ∷ Err TooManyBytes
    ∷ Err BadSheet
    ∷ Err BrokenImage
    ∷ Err TooManyPoints
    ∷ done
    ∷ Err BadRows
    ∷ Err BadTape
    ∷ Err NotPredicted
    ∷ Err TooManyRounds
    ∷ []

answer_of : ℕ → Answer
answer_of n = get_or answers n done

answer_of_number : (a : Answer) → answer_of (answer_number a) ≡ a
unfolding answers answer_of
answer_of_number (Ok unit) = refl
answer_of_number (Err BadState) = refl
answer_of_number (Err OutOfRange) = refl
answer_of_number (Err TooManyWrites) = refl
answer_of_number (Err TooManyBytes) = refl
answer_of_number (Err BadSheet) = refl
answer_of_number (Err BrokenImage) = refl
answer_of_number (Err TooManyPoints) = refl
answer_of_number (Err BadRows) = refl
answer_of_number (Err BadTape) = refl
answer_of_number (Err NotPredicted) = refl
answer_of_number (Err TooManyRounds) = refl

-- so a promise of an answer's number settles the answer
pub answers_by_number : (a b : Answer) → answer_number a ≡ answer_number b → a ≡ b
answers_by_number a b same = sym (answer_of_number a) ∙ (ap answer_of same ∙ answer_of_number b)

pub refusals_by_number : (a b : Refusal) → refusal_number a ≡ refusal_number b → a ≡ b
refusals_by_number a b same = let e : Err a ≡ Err b = answers_by_number (Err a) (Err b) same in cc

never_done : (why : Refusal) → Err why ≡ done → ⊥
never_done why e = let z : ◌≡◌ {A = ℕ} 0 1 = cc in omega arith

-- 0 is 'done' alone, and 8 is no refusal's
pub refusal_not_done : (why : Refusal) → 0 < refusal_number why
refusal_not_done why = pos_of_ne-zero (λ none. never_done why (answers_by_number (Err why) done none))

pub refusal_not_8 : (why : Refusal) → refusal_number why ≡ 8 → ⊥
unfolding answers answer_of
refusal_not_8 why e = never_done why (sym (answer_of_number (Err why)) ∙ ap answer_of e)

-- a test that was passed, where its refusal has a number above 0
pub passed : {good : Bool} (why : ℕ) {rest : ℕ} → unless good (suc why) rest ≡ 0 → (good ≡ true) × (rest ≡ 0)
passed {good = true} why e = (refl, e)
passed {good = false} why e = absurd (suc-ne-zero why e)

-- what goes by a number that is not 0
pub not_done {ℓ} : {A : Type ℓ} (n : ℕ) (after before : A) → 0 < n → if_done n after before ≡ before
not_done zero after before h = absurd (not-suc-le-zero h)
not_done (suc why) after before h = refl

module _ {ℓ} {A : Type ℓ} {n : ℕ} where
  -- what a done call changed, and what a refused one left
  pub done_changed : {after : A} (before : A) → n ≡ 0 → after ≡ if_done n after before
  done_changed {after} before none = sym (ap (λ (k : ℕ). if_done k after before) none)

  pub refused_left : (why : Refusal) (after : A) {before : A} → n ≡ refusal_number why → before ≡ if_done n after before
  refused_left why after {before} some = sym (not_done n after before (rw some (refusal_not_done why)))

  -- and the same of a promise about x
  pub changed : {x after : A} (before : A) → x ≡ if_done n after before → n ≡ 0 → x ≡ after
  changed before e none = e ∙ sym (done_changed before none)

  pub left : {x : A} (after : A) {before : A} {k : ℕ} → x ≡ if_done n after before → 0 < k → n ≡ k → x ≡ before
  left after {before} e refusal some = e ∙ not_done n after before (rw some refusal)

-- a number, or the rest where it is 0
pub go_on : {n rest : ℕ} → n ≡ 0 → if_done n rest n ≡ rest
go_on {n} none = sym (done_changed n none)

pub stop : {n : ℕ} (why : Refusal) (rest : ℕ) → n ≡ refusal_number why → if_done n rest n ≡ refusal_number why
stop why rest some = sym (refused_left why rest some) ∙ some

pub both_none : {n rest : ℕ} → if_done n rest n ≡ 0 → (n ≡ 0) × (rest ≡ 0)
both_none {n = zero} e = (refl, e)
both_none {n = suc why} e = absurd (suc-ne-zero why e)
