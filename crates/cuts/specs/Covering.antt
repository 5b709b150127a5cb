-- When a search over numbers judges all that could really come about, whatever engine picks the numbers. A rule is a test of two images, the one
-- before a write and the one after.
use Rattle.std.specs.Prelude.{ℕ, ◌<◌, ◌≡◌, Bool, List}

abbrev pub Test : Type 0
Test = List ℕ → List ℕ → Bool

-- a sheet of one image looks at the image after
abbrev pub after_alone : (List ℕ → Bool) → Test
after_alone obeys before after = obeys after

-- every pair below N is real, and every real pair has one below N that the rule can't tell from it
pub record Covering (rule : Test) (Real : List ℕ → List ℕ → Type 0) (before after : ℕ → List ℕ) (N : ℕ) : Type 0 where
  pub real : (m : ℕ) → m < N → Real (before m) (after m)
  pub covered : (b a : List ℕ) → Real b a → (m : ℕ) × (m < N) × (rule (before m) (after m) ≡ rule b a)
