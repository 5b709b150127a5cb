-- What the gate tries, and what its finding is to mean: `gate_judges_pairs` and `gate_judges_images` prove it (`proofs/Gate.antt`). The limits on a write,
-- and the 16 points of an engine, are no part of it.
use Rattle.std.specs.Prelude.{ℕ, ◌^◌, ◌≡◌, ◌↔◌, Bool, true, false, List}
use Rattle.region.specs.Pmemspec.{CanResultFromPartialWrite}
use Rattle.pieces.specs.AsyncSpec.{Write, AsyncView, write, readable, CanCrash}
use Rattle.cuts.specs.Number.{choice_image, choice_points}
use Rattle.cuts.specs.Search.{Finding, none_bad, first_bad, finding, LeastBad}
use Rattle.cuts.specs.Covering.{Test}

-- "With the new write in the log, let n be the number of choice points. The gate tries all m from 0 to 2^n-1."
abbrev pub gate_numbers : (C : ℕ) → AsyncView → Write → ℕ
gate_numbers C v w = 2 ^ choice_points C (write v w)

-- number m: the cut image without the new write, older choices as in m, and the one with it
abbrev pub gate_test : (C : ℕ) → Test → AsyncView → Write → (m : ℕ) → Bool
gate_test C rule v w m = rule (choice_image C v m) (choice_image C (write v w) m)

abbrev pub gate_finding : (C : ℕ) → Test → AsyncView → Write → Finding
gate_finding C rule v w = finding (gate_test C rule v w) (gate_numbers C v w)

-- "Admitted: .. working image = the new read image. Denied: .. working image = that bad image."
abbrev pub gate_image : (C : ℕ) → AsyncView → Write → Finding → List ℕ
gate_image C v w none_bad = readable (write v w)
gate_image C v w (first_bad m) = choice_image C (write v w) m

-- a pair that the write could really make: an image that a cut could leave now, and a part-write over it
abbrev pub CouldMake : (C : ℕ) → AsyncView → Write → (b a : List ℕ) → Type 0
CouldMake C v w b a = CanCrash C v b × CanResultFromPartialWrite C a b w.addr w.bytes

-- what the finding on a rule of two images means
pub record JudgesPairs (C : ℕ) (rule : Test) (v : AsyncView) (w : Write) (r : Finding) : Type 0 where
  pub admits : (r ≡ none_bad) ↔ ((b a : List ℕ) → CouldMake C v w b a → rule b a ≡ true)
  pub denies : ((m : ℕ) × (r ≡ first_bad m)) ↔ ((b : List ℕ) × (a : List ℕ) × CouldMake C v w b a × (rule b a ≡ false))
  pub names_the_first : (m : ℕ) → (r ≡ first_bad m) ↔ LeastBad (gate_test C rule v w) (gate_numbers C v w) m

-- demand 2, for a sheet of one image: "admits a write exactly when .. every image that a cut could then leave obeys the rule sheet; when it denies,
-- it names the first bad one". The images are the part-writes over all present cut images.
pub record JudgesImages (C : ℕ) (obeys : List ℕ → Bool) (v : AsyncView) (w : Write) (r : Finding) : Type 0 where
  pub admits : (r ≡ none_bad) ↔ ((x : List ℕ) → CanCrash C (write v w) x → obeys x ≡ true)
  pub denies : ((m : ℕ) × (r ≡ first_bad m)) ↔ ((x : List ℕ) × CanCrash C (write v w) x × (obeys x ≡ false))
  pub names_the_first : (m : ℕ)
      → (r ≡ first_bad m) ↔ LeastBad (λ k. obeys (choice_image C (write v w) k)) (gate_numbers C v w) m
  pub by_part_writes : (r ≡ none_bad)
      ↔ ((b a : List ℕ) → CanCrash C v b → CanResultFromPartialWrite C a b w.addr w.bytes → obeys a ≡ true)
