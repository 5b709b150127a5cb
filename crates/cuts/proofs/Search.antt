-- A search finds none bad exactly if every number passes, and m exactly if m is the least that fails. Assumes nothing.
use Prim.Native.Nat.{ℕ, zero, suc, ◌+◌, ◌≤◌, ◌<◌}
use native.Mathlib.Decide.{dec_lt}
use native.Mathlib.Omega.{arith}
use mathlib.Core.Path.{◌≡◌, refl, sym, ap, ◌∙◌}
use mathlib.Core.Logic.{◌↔◌}
use mathlib.Core.Bool.{Bool, true, false, true≢false}
use Rattle.cuts.specs.Search.{Finding, none_bad, first_bad, finding_from, finding, AllGood, LeastBad}

-- what a search that has come to `at` is to find: every number from there on passes, or one is the first to fail
data Settled (test : ℕ → Bool) (at n : ℕ) : Finding → Type 0 where
  all : ((k : ℕ) → at ≤ k → k < at + n → test k ≡ true) → Settled test at n none_bad
  first : {m : ℕ} → at ≤ m → m < at + n → test m ≡ false → ((k : ℕ) → at ≤ k → k < m → test k ≡ true) → Settled test at n (first_bad m)

module _ (test : ℕ → Bool) where
  one_earlier : (at : ℕ) → test at ≡ true → (k : ℕ) → at ≤ k → (at < k → test k ≡ true) → test k ≡ true
  one_earlier at e k l rest = go (dec_lt at k)
    where
      go : Dec (at < k) → test k ≡ true
      go (yes h) = rest h
      go (no h) = let same : k ≡ at = omega arith in rw same e

  passed : (at n : ℕ) → test at ≡ true → {r : Finding} → Settled test (suc at) n r → Settled test at (suc n) r
  passed at n e (all f) = all (λ k l h. one_earlier at e k l (λ b. f k b (omega arith)))
  passed at n e (first {m = m} l h b f) = first {m = m} (omega arith) (omega arith) b (λ k i j. one_earlier at e k i (λ d. f k d j))

  failed : (at n : ℕ) → test at ≡ false → Settled test at (suc n) (first_bad at)
  failed at n e = first {m = at} (omega arith) (omega arith) e (λ k l h. absurd (omega arith))

  settled : (at n : ℕ) → Settled test at n (finding_from test at n)
  unfolding finding_from
  settled at zero = all (λ k l h. absurd (omega arith))
  settled at (suc n) = go (test at) refl (settled (suc at) n)
    where
      go : (t : Bool) → test at ≡ t → Settled test (suc at) n (finding_from test (suc at) n)
          → Settled test at (suc n) (elim t [ true ↦ finding_from test (suc at) n | false ↦ first_bad at ])
      go true e rest = passed at n e rest
      go false e rest = failed at n e

  module _ (N : ℕ) where
    not_both : (m : ℕ) → test m ≡ true → test m ≡ false → ⊥
    not_both m t f = true≢false (sym t ∙ f)

    -- the least is one
    same_least : (m n : ℕ) → test m ≡ false → ((k : ℕ) → k < m → test k ≡ true) → test n ≡ false → ((k : ℕ) → k < n → test k ≡ true) → m ≡ n
    same_least m n bm fm bn fn = go (dec_lt m n) (dec_lt n m)
      where
        go : Dec (m < n) → Dec (n < m) → m ≡ n
        go (yes h) k = absurd (not_both m (fn m h) bm)
        go (no h) (yes k) = absurd (not_both n (fm n k) bn)
        go (no h) (no k) = omega arith

    admit_means : Settled test 0 N none_bad → AllGood test N
    admit_means (all f) = λ m h. f m (omega arith) (omega arith)

    deny_means : {m : ℕ} → Settled test 0 N (first_bad m) → LeastBad test N m
    deny_means (first l h b f) = record { below = omega arith; bad = b; least = λ k i. f k (omega arith) i }

    good_admits : {r : Finding} → Settled test 0 N r → AllGood test N → r ≡ none_bad
    good_admits (all f) g = refl
    good_admits (first {m = m} l h b f) g = absurd (not_both m (g m (omega arith)) b)

    bad_denies : {r : Finding} → Settled test 0 N r → (m : ℕ) → LeastBad test N m → r ≡ first_bad m
    bad_denies (all f) m g = absurd (not_both m (f m (omega arith) (omega (arith, g.below))) g.bad)
    bad_denies (first {m = k} l h b f) m g = ap first_bad (same_least k m b (λ i j. f i (omega arith) j) g.bad g.least)

    here : Settled test 0 N (finding test N)
    unfolding finding
    here = settled 0 N

    pub admits_exactly_if_all_good : (finding test N ≡ none_bad) ↔ AllGood test N
    admits_exactly_if_all_good = (λ e. admit_means (rw e at here), good_admits here)

    pub denies_exactly_the_least_bad : (m : ℕ) → (finding test N ≡ first_bad m) ↔ LeastBad test N m
    denies_exactly_the_least_bad m = (λ e. deny_means (rw e at here), bad_denies here m)

    -- one of the two it is: a bad number, whichever, means that the least is named
    pub bad_number_denied : (m : ℕ) → m < N → test m ≡ false → (k : ℕ) × (finding test N ≡ first_bad k)
    bad_number_denied m h b = go here refl
      where
        go : {r : Finding} → Settled test 0 N r → finding test N ≡ r → (k : ℕ) × (finding test N ≡ first_bad k)
        go (all f) e = absurd (not_both m (f m (omega arith) (omega arith)) b)
        go (first {m = k} l i c f) e = (k, e)

-- How a loop goes through the search: what remains to be tried, from here, is the answer.
pub finding_at_start : (test : ℕ → Bool) (N : ℕ) → finding test N ≡ finding_from test 0 N
unfolding finding
finding_at_start test N = refl

pub finding_goes_on : (test : ℕ → Bool) (at n : ℕ) → test at ≡ true → finding_from test at (suc n) ≡ finding_from test (suc at) n
unfolding finding_from
finding_goes_on test at n e = rw (e, finding_from)

pub finding_stops : (test : ℕ → Bool) (at n : ℕ) → test at ≡ false → finding_from test at (suc n) ≡ first_bad at
unfolding finding_from
finding_stops test at n e = rw (e, finding_from)

pub finding_at_end : (test : ℕ → Bool) (at : ℕ) → finding_from test at 0 ≡ none_bad
unfolding finding_from
finding_at_end test at = refl
