-- The search over a covering admits exactly if every real pair obeys the rule, and denies exactly if some real pair does not. Assumes nothing.
use Prim.Native.Nat.{ℕ}
use mathlib.Core.Path.{◌≡◌, sym, ◌∙◌}
use mathlib.Core.Logic.{◌↔◌}
use mathlib.Core.Bool.{Bool, true, false}
use mathlib.Core.List.{List}
use Rattle.cuts.specs.Search.{none_bad, first_bad, finding}
use Rattle.cuts.specs.Covering.{Test, Covering}
use Rattle.cuts.proofs.Search.{admits_exactly_if_all_good, denies_exactly_the_least_bad, bad_number_denied}

module _ (rule : Test) (Real : List ℕ → List ℕ → Type 0) (before after : ℕ → List ℕ) (N : ℕ) (c : Covering rule Real before after N) where
  abbrev test : ℕ → Bool
  test m = rule (before m) (after m)

  pub covering_admits : (finding test N ≡ none_bad) ↔ ((b a : List ℕ) → Real b a → rule b a ≡ true)
  covering_admits = (to, from)
    where
      to : finding test N ≡ none_bad → (b a : List ℕ) → Real b a → rule b a ≡ true
      to e b a r =
          let found = c.covered b a r in
          sym found.2 ∙ (admits_exactly_if_all_good test N).0 e found.0 found.1

      from : ((b a : List ℕ) → Real b a → rule b a ≡ true) → finding test N ≡ none_bad
      from f = (admits_exactly_if_all_good test N).1 (λ m h. f (before m) (after m) (c.real m h))

  -- it denies exactly if some real pair breaks the rule
  pub covering_denies : ((m : ℕ) × (finding test N ≡ first_bad m)) ↔ ((b : List ℕ) × (a : List ℕ) × Real b a × (rule b a ≡ false))
  covering_denies = (to, from)
    where
      to : ((m : ℕ) × (finding test N ≡ first_bad m)) → (b : List ℕ) × (a : List ℕ) × Real b a × (rule b a ≡ false)
      to (m, e) =
          let least = (denies_exactly_the_least_bad test N m).0 e in
          (before m, after m, c.real m least.below, least.bad)

      from : ((b : List ℕ) × (a : List ℕ) × Real b a × (rule b a ≡ false)) → (m : ℕ) × (finding test N ≡ first_bad m)
      from (b, a, r, bad) =
          let found = c.covered b a r in
          bad_number_denied test N found.0 found.1 (found.2 ∙ bad)
