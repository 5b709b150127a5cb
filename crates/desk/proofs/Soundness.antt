-- Refusal 1's test as five facts, which arithmetic reads, and what it means that there is room for a write. Assumes nothing.
use Prim.Native.Nat.{ℕ, ◌+◌, ◌≤◌, ◌<◌}
use native.Mathlib.Omega.{arith}
use mathlib.Core.Path.{◌≡◌, refl, sym, ap, ◌∙◌}
use mathlib.Core.Bool.{Bool, true, false}
use mathlib.Core.List.{[], ◌∷◌}
use lib.ListN.{length, get_or}
use borrow.Author.Tests.{le-leb, leb-true, eq-eqb, eqb-true}
use Rattle.std.specs.Prelude.{Result, Ok, Err, IsErrAnd}
use Rattle.std.proofs.lemmas.Result.{err_from_is_err_and}
use Rattle.region.specs.Limits.{image_limit, writes_limit, log_limit}
use Rattle.region.specs.Answer.{Report, Counted, counted_report}
use Rattle.region.specs.declared.Refusal.{Refusal}
use Rattle.region.specs.declared.Refusal.TheVariants.{BadState}
use Rattle.region.proofs.AnswerLaws.{refusal_not_done, refusals_by_number}
use Rattle.region.proofs.Booleans.{cond_when, cond_unless, both, both_true}
use Rattle.desk.specs.State.{log_records, together, records_inside, sound_for, check_report}
use Rattle.desk.specs.Desk.{Desk}
use Rattle.records.specs.declared.Record.{Record}
use Rattle.desk.specs.declared.state.State.{State}

pub record SoundFor (L : ℕ) (st : State) (log_length : ℕ) : Type 0 where
  pub short : L ≤ image_limit
  pub buffer : log_length ≡ log_limit
  pub few : st.count ≤ writes_limit
  pub inside : records_inside L (log_records st) ≡ true
  pub room : together (log_records st) ≤ log_limit

-- a sound desk
abbrev pub Sound : Desk → Type 0
Sound d = SoundFor (length d.image) d.state (length d.log)

-- there is room for one record more
pub record Room (L : ℕ) (st : State) (r : Record) : Type 0 where
  pub lies : r.addr + r.len ≤ L
  pub few : st.count < writes_limit
  pub fits : together (log_records st) + r.len ≤ log_limit

module _ (L : ℕ) (st : State) (log_length : ℕ) where
  pub sound_facts : sound_for L st log_length ≡ true → SoundFor L st log_length
  unfolding sound_for
  sound_facts e =
      let f₄ = both _ _ e in
      let f₃ = both _ _ f₄.0 in
      let f₂ = both _ _ f₃.0 in
      let f₁ = both _ _ f₂.0 in
      record {
        short = leb-true L image_limit f₁.0;
        buffer = eqb-true log_length log_limit f₁.1;
        few = leb-true st.count writes_limit f₂.1;
        inside = f₃.1;
        room = leb-true (together (log_records st)) log_limit f₄.1;
      }

  pub facts_sound : SoundFor L st log_length → sound_for L st log_length ≡ true
  unfolding sound_for
  facts_sound s =
      let f₁ = both_true (le-leb L image_limit s.short) (eq-eqb log_length log_limit s.buffer) in
      let f₂ = both_true f₁ (le-leb st.count writes_limit s.few) in
      let f₃ = both_true f₂ s.inside in
      both_true f₃ (le-leb (together (log_records st)) log_limit s.room)

  pub facts_unsound : (SoundFor L st log_length → ⊥) → sound_for L st log_length ≡ false
  facts_unsound n = go (sound_for L st log_length) refl
    where
      go : (b : Bool) → sound_for L st log_length ≡ b → sound_for L st log_length ≡ false
      go true e = absurd (n (sound_facts e))
      go false e = e

  -- what a caller of `checked` learns from its answer
  pub record Told (used : ℕ) : Type 0 where
    pub good : sound_for L st log_length ≡ true
    pub facts : SoundFor L st log_length
    pub counted : used ≡ together (log_records st)

  pub check_sound : sound_for L st log_length ≡ true → check_report L st log_length ≡ record { number = 0; values = together (log_records st) ∷ [] }
  check_sound = cond_when (sound_for L st log_length) _ _

  pub check_unsound : sound_for L st log_length ≡ false → check_report L st log_length ≡ record { number = 1; values = [] }
  check_unsound = cond_unless (sound_for L st log_length) _ _

  module _ {r : Counted} (told : counted_report r ≡ check_report L st log_length) where
    pub told_bytes : {used : ℕ} → r ≡ Ok used → Told used
    told_bytes {used} is = go (sound_for L st log_length) refl
      where
        here : record { number = 0; values = used ∷ [] } ≡ check_report L st log_length
        here = sym (ap counted_report is) ∙ told

        go : (t : Bool) → sound_for L st log_length ≡ t → Told used
        go true s = record { good = s; facts = sound_facts s; counted = ap (λ (x : Report). get_or x.values 0 0) (here ∙ check_sound s) }
        go false s = absurd (omega (arith, ap (λ (x : Report). x.number) (here ∙ check_unsound s)))

    module _ {why : Refusal} (is : r ≡ Err why) where
      pub told_unsound : sound_for L st log_length ≡ false
      told_unsound = go (sound_for L st log_length) refl
        where
          go : (t : Bool) → sound_for L st log_length ≡ t → sound_for L st log_length ≡ false
          go true s = absurd (omega (arith, refusal_not_done why, ap (λ (x : Report). x.number) (sym (ap counted_report is) ∙ told ∙ check_sound s)))
          go false s = s

      pub told_bad_state : why ≡ BadState
      told_bad_state = refusals_by_number why BadState (ap (λ (x : Report). x.number) (sym (ap counted_report is) ∙ told ∙ check_unsound told_unsound))

      -- what `?` passes on
      pub told_stopped : {T : Type 0} {answer : Result T Refusal} → IsErrAnd answer (λ e. e ≡ why) → (answer ≡ Err BadState) × (sound_for L st log_length ≡ false)
      told_stopped {answer} passed = let p = err_from_is_err_and answer passed in (p.1 ∙ ap Err (p.2 ∙ told_bad_state), told_unsound)
