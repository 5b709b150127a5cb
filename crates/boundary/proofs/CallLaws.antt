-- A function is the library's call at the desk that the words say: from the call's promise to the function's, and from the function's to the call's. Said once,
-- over how the memory crosses. Assumes nothing.
use Prim.Native.Nat.{ℕ, zero, suc}
use native.Mathlib.Nat.{suc-ne-zero}
use mathlib.Core.Path.{◌≡◌, refl, sym, ap, subst, ◌∙◌}
use mathlib.Core.Bool.{Bool, true, false, cond}
use mathlib.Core.List.{List}
use lib.Dec.{eqb}
use lib.ListN.{length}
use borrow.Author.Tests.{eqb-true, eq-eqb, ne_eqb}
use Rattle.region.specs.Limits.{writes_limit}
use Rattle.region.specs.Answer.{if_done}
use Rattle.region.proofs.Booleans.{cond_when, cond_unless}
use Rattle.desk.specs.Desk.{Desk, desk}
use Rattle.desk.specs.declared.state.State.{State}
use Rattle.tape.specs.Memory.{by_tape}
use Rattle.boundary.specs.Words.{state_words, state_of, words_of}
use Rattle.boundary.specs.Lent.{Lent, lent, lent_by_tape, Crossing, plainly, on_tape, at_desk, Does}
use Rattle.boundary.proofs.WordLaws.{state_back, same_words, said_length, words_length}

-- the words that are lent are as many as a state has
abbrev pub StateSized : {M D : Type 0} (X : Crossing M D) → M → Type 0
StateSized X m = length (X.words m) ≡ state_words

-- What is lent comes back from the desk that its words say, where they are as many as a state has, and any desk comes back from what it lends.
pub record CrossingLaws {M D : Type 0} (X : Crossing M D) : Type 0 where
  pub state : D → State
  pub words_say : (m : M) → state (X.inward m) ≡ state_of (X.words m)
  pub state_told : (d : D) → X.words (X.outward d) ≡ words_of (state d)
  pub same_lent : (m : M) → StateSized X m → X.outward (X.inward m) ≡ m
  pub desk_back : (d : D) → X.inward (X.outward d) ≡ d

abbrev pub plain_laws : CrossingLaws plainly
plain_laws =
    record {
      state = λ d. d.state;
      words_say = λ m. refl;
      state_told = λ d. refl;
      same_lent = λ m sized. ap (λ (words : List ℕ). lent m.image words m.log) (same_words m.words sized);
      desk_back = λ d. ap (λ (st : State). desk d.image st d.log) (state_back d.state);
    }

abbrev pub tape_laws : CrossingLaws on_tape
tape_laws =
    record {
      state = λ t. t.memory.state;
      words_say = λ t. refl;
      state_told = λ t. refl;
      same_lent = λ t sized. ap (λ (m : Lent). lent_by_tape m t.start t.predicted) (plain_laws.same_lent t.memory sized);
      desk_back = λ t. ap (λ (d : Desk). by_tape d t.start t.predicted) (plain_laws.desk_back t.memory);
    }

-- what a call gives at the desk that the words say, and its refusal where they say none
module _ {M D : Type 0} (X : Crossing M D) (m : M) where
  module _ (other : StateSized X m → ⊥) where
    pub refused_at {ℓ} : {A : Type ℓ} (refused : A) (call : D → A) → refused ≡ at_desk X m refused call
    refused_at refused call = sym (cond_unless (eqb (length (X.words m)) state_words) (call (X.inward m)) refused (ne_eqb _ _ other))

    pub refused_by {ℓ} : {A : Type ℓ} (number_of : D → ℕ) (after before : A) → before ≡ if_done (at_desk X m 1 number_of) after before
    refused_by number_of after before = ap (λ (n : ℕ). if_done n after before) (refused_at 1 number_of)

  module _ (sized : StateSized X m) where
    pub called_at {ℓ} : {A : Type ℓ} (refused : A) (call : D → A) → call (X.inward m) ≡ at_desk X m refused call
    called_at refused call = sym (cond_when (eqb (length (X.words m)) state_words) (call (X.inward m)) refused (eq-eqb _ _ sized))

    -- what goes by the call's number goes by the function's
    pub called_by {ℓ} : {A : Type ℓ} (number_of : D → ℕ) (after before : A)
        → if_done (number_of (X.inward m)) after before ≡ if_done (at_desk X m 1 number_of) after before
    called_by number_of after before = ap (λ (n : ℕ). if_done n after before) (called_at 1 number_of)

  -- a function that is done was handed as many words as a state has
  pub sized_if_done : (number_of : D → ℕ) → at_desk X m 1 number_of ≡ 0 → StateSized X m
  sized_if_done number_of = go (eqb (length (X.words m)) state_words) refl
    where
      go : (t : Bool) → eqb (length (X.words m)) state_words ≡ t → cond t (number_of (X.inward m)) 1 ≡ 0 → StateSized X m
      go true e none = eqb-true (length (X.words m)) state_words e
      go false e none = absurd (suc-ne-zero 0 none)

module _ {M D : Type 0} {X : Crossing M D} (laws : CrossingLaws X) (m : M) (sized : StateSized X m) where
  -- what a call leaves by its number, as it is lent, and the other way round
  lent_by : (n : ℕ) (after : D) {d : D} → d ≡ if_done n after (X.inward m) → X.outward d ≡ if_done n (X.outward after) m
  lent_by zero after e = ap X.outward e
  lent_by (suc why) after e = ap X.outward e ∙ laws.same_lent m sized

  desk_by : (n : ℕ) (after : D) {m' : M} → m' ≡ if_done n (X.outward after) m → X.inward m' ≡ if_done n after (X.inward m)
  desk_by zero after e = ap X.inward e ∙ laws.desk_back after
  desk_by (suc why) after e = ap X.inward e

  -- it is as many words as before, if its array of records is as long
  sized_by : (n : ℕ) (after : D) {m' : M} → length (laws.state after).records ≡ writes_limit → m' ≡ if_done n (X.outward after) m → StateSized X m'
  sized_by zero after full e = ap (λ (l : M). length (X.words l)) e ∙ ap length (laws.state_told after) ∙ words_length (laws.state after) full
  sized_by (suc why) after full e = ap (λ (l : M). length (X.words l)) e ∙ sized

-- words of another number
pub wrong : {M D : Type 0} {X : Crossing M D} {number_of : D → ℕ} {done : D → D} {m : M} {number : ℕ} → (StateSized X m → ⊥) → number ≡ 1
    → Does X number_of done m number m
wrong {X = X} {number_of} {done} {m} other told =
    record { answers = told ∙ refused_at X m other 1 number_of; leaves = refused_by X m other number_of (X.outward (done (X.inward m))) m }

module _ {M D : Type 0} {X : Crossing M D} (laws : CrossingLaws X) {number_of : D → ℕ} {done : D → D} {m m' : M} {number : ℕ}
    (sized : StateSized X m) where
  -- A call at the desk that the words say, whose answer has this number and whose desk afterwards was stored.
  pub right : {d d' : D} → d ≡ X.inward m → number ≡ number_of d → d' ≡ if_done (number_of d) (done d) d → m' ≡ X.outward d'
      → Does X number_of done m number m'
  right {d} {d'} loaded told left stored =
      let here = X.inward m in
      let left_here : d' ≡ if_done (number_of here) (done here) here = subst (λ (e : D). d' ≡ if_done (number_of e) (done e) e) loaded left in
      record {
        answers = told ∙ ap number_of loaded ∙ called_at X m sized 1 number_of;
        leaves = stored ∙ lent_by laws m sized (number_of here) (done here) left_here ∙ called_by X m sized number_of (X.outward (done here)) m;
      }

  -- And what a function promises, said of the call: its number, the desk afterwards, and that the words say a state again.
  module _ (does : Does X number_of done m number m') where
    pub number_there : number ≡ number_of (X.inward m)
    number_there = does.answers ∙ sym (called_at X m sized 1 number_of)

    pub leaves_there : X.inward m' ≡ if_done (number_of (X.inward m)) (done (X.inward m)) (X.inward m)
    leaves_there =
        let here = X.inward m in
        desk_by laws m sized (number_of here) (done here) (does.leaves ∙ sym (called_by X m sized number_of (X.outward (done here)) m))

    pub sized_after : (length (laws.state (X.inward m)).records ≡ writes_limit → length (laws.state (done (X.inward m))).records ≡ writes_limit)
        → StateSized X m'
    sized_after keeps =
        let full = ap (λ (st : State). length st.records) (laws.words_say m) ∙ said_length (X.words m) sized in
        sized_by laws m sized (at_desk X m 1 number_of) (done (X.inward m)) (keeps full) does.leaves
