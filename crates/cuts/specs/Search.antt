-- The search of a gate without its engine: a test of numbers, tried from 0 on, and the first that fails it.
use Rattle.std.specs.Prelude.{ℕ, zero, suc, ◌<◌, ◌≡◌, Bool, true, false}

-- no number is bad, or the least that is
pub data Finding : Type 0 where
  none_bad : Finding
  first_bad : ℕ → Finding

-- the n numbers from there on
unfoldable pub finding_from : (ℕ → Bool) → ℕ → ℕ → Finding
finding_from test at zero = none_bad
finding_from test at (suc n) = elim (test at) [ true ↦ finding_from test (suc at) n | false ↦ first_bad at ]

-- "tries all m from 0 to 2^n-1", N being 2^n
unfoldable pub finding : (ℕ → Bool) → ℕ → Finding
unfolding finding_from
finding test N = finding_from test 0 N

abbrev pub AllGood : (ℕ → Bool) → ℕ → Type 0
AllGood test N = (m : ℕ) → m < N → test m ≡ true

pub record LeastBad (test : ℕ → Bool) (N m : ℕ) : Type 0 where
  pub below : m < N
  pub bad : test m ≡ false
  pub least : (k : ℕ) → k < m → test k ≡ true
