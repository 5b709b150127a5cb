-- Which of a read's tests gives its number, and what number 0 tells. Assumes nothing.
use Prim.Native.Nat.{ℕ, ◌+◌, ◌≤◌}
use mathlib.Core.Path.{◌≡◌, ap, ◌∙◌}
use mathlib.Core.Bool.{Bool, true, false, ◌&&◌, and-false}
use lib.Dec.{leb, eqb}
use borrow.Author.Tests.{eq-eqb, ne_eqb, eqb-true, leb-true}
use Rattle.region.specs.Answer.{unless}
use Rattle.region.proofs.AnswerLaws.{passed}
use Rattle.region.proofs.Booleans.{cond_when, cond_unless, and_unless, both, both_true}
use Rattle.desk.specs.State.{sound_for}
use Rattle.desk.specs.declared.state.State.{State}
use Rattle.writelog.specs.Read.{asked_number}

module _ (L : ℕ) (st : State) (log_length work_length addr len : ℕ) where
  abbrev fit : Bool
  fit = sound_for L st log_length && eqb work_length L

  abbrev past : ℕ
  past = unless (leb (addr + len) L) 2 0

  pub asked_unsound : sound_for L st log_length ≡ false → asked_number L st log_length work_length addr len ≡ 1
  unfolding asked_number
  asked_unsound e = cond_unless fit past 1 (and_unless (sound_for L st log_length) (eqb work_length L) e)

  pub asked_other_length : (work_length ≡ L → ⊥) → asked_number L st log_length work_length addr len ≡ 1
  unfolding asked_number
  asked_other_length n =
      cond_unless fit past 1 (ap (λ (b : Bool). sound_for L st log_length && b) (ne_eqb work_length L n) ∙ and-false (sound_for L st log_length))

  module _ (s : sound_for L st log_length ≡ true) (w : work_length ≡ L) where
    pub asked_outside : leb (addr + len) L ≡ false → asked_number L st log_length work_length addr len ≡ 2
    unfolding asked_number
    asked_outside e = cond_when fit past 1 (both_true s (eq-eqb work_length L w)) ∙ cond_unless (leb (addr + len) L) 0 2 e

    pub asked_inside : leb (addr + len) L ≡ true → asked_number L st log_length work_length addr len ≡ 0
    unfolding asked_number
    asked_inside e = cond_when fit past 1 (both_true s (eq-eqb work_length L w)) ∙ cond_when (leb (addr + len) L) 0 2 e

-- what it means that a read is done
pub record Asked (L : ℕ) (st : State) (log_length work_length addr len : ℕ) : Type 0 where
  pub good : sound_for L st log_length ≡ true
  pub whole : work_length ≡ L
  pub lies : addr + len ≤ L

pub asked_done : {L : ℕ} {st : State} {log_length work_length addr len : ℕ}
    → asked_number L st log_length work_length addr len ≡ 0 → Asked L st log_length work_length addr len
unfolding asked_number
asked_done e =
    let a = passed _ e in
    let f = both _ _ a.0 in
    record { good = f.0; whole = eqb-true _ _ f.1; lies = leb-true _ _ (passed _ a.1).0 }
