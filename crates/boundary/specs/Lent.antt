-- What a desk lends to a function and what the library's call takes and leaves: the same but for the state, which is words on the one side. A function is
-- the call at the desk that the words say.
use Rattle.std.specs.Prelude.{ℕ, ◌≡◌, List, eqb, length}
use Rattle.region.specs.Answer.{unless, if_done}
use Rattle.desk.specs.Desk.{Desk, desk}
use Rattle.tape.specs.Memory.{TapeDesk, by_tape}
use Rattle.boundary.specs.Words.{state_words, state_of, words_of}

-- the memory of a desk, as it is lent
pub record Lent : Type 0 where
  pub image : List ℕ
  pub words : List ℕ
  pub log : List ℕ

abbrev pub lent : (image words log : List ℕ) → Lent
lent image words log = record { image = image; words = words; log = log }

abbrev pub desk_of : Lent → Desk
desk_of m = desk m.image (state_of m.words) m.log

abbrev pub lent_of : Desk → Lent
lent_of d = lent d.image (words_of d.state) d.log

-- and what a call by tape is lent
pub record TapeLent : Type 0 where
  pub memory : Lent
  pub start : ℕ
  pub predicted : List ℕ

abbrev pub lent_by_tape : Lent → (start : ℕ) (predicted : List ℕ) → TapeLent
lent_by_tape m start predicted = record { memory = m; start = start; predicted = predicted }

abbrev pub tape_desk_of : TapeLent → TapeDesk
tape_desk_of t = by_tape (desk_of t.memory) t.start t.predicted

abbrev pub tape_lent_of : TapeDesk → TapeLent
tape_lent_of t = lent_by_tape (lent_of t.memory) t.start t.predicted

-- Both cross alike: M is what is lent, D what the call takes.
pub record Crossing (M D : Type 0) : Type 0 where
  pub words : M → List ℕ
  pub inward : M → D
  pub outward : D → M

abbrev pub plainly : Crossing Lent Desk
plainly = record { words = λ m. m.words; inward = desk_of; outward = lent_of }

abbrev pub on_tape : Crossing TapeLent TapeDesk
on_tape = record { words = λ t. t.memory.words; inward = tape_desk_of; outward = tape_lent_of }

module _ {M D : Type 0} (X : Crossing M D) where
  -- what a call gives at the desk that the words say, or its refusal where they are not as many as a state has
  abbrev pub at_desk {ℓ} : {A : Type ℓ} (m : M) (refused : A) (call : D → A) → A
  at_desk m refused call = unless (eqb (length (X.words m)) state_words) refused (call (X.inward m))

  -- What a function promises that is a call with this number, which leaves the desk so where it is done. Words of another number are refusal 1.
  pub record Does (number_of : D → ℕ) (done : D → D) (m : M) (number : ℕ) (m' : M) : Type 0 where
    pub answers : number ≡ at_desk m 1 number_of
    pub leaves : m' ≡ if_done (at_desk m 1 number_of) (X.outward (done (X.inward m))) m
