-- The three laws of `tab`, and when an index is inside a write. Assumes nothing.
use Prim.Native.Nat.{ℕ, zero, suc, ◌+◌, ◌≤◌, ◌<◌}
use native.Mathlib.Nat.{zero-add, add-zero, add-suc, suc-add, le_of_suc-le-suc, not-suc-le-zero}
use native.Mathlib.Omega.{arith}
use mathlib.Core.Path.{◌≡◌, refl, sym, ap, ap₂, ◌∙◌}
use mathlib.Core.Bool.{true, false, and-false}
use mathlib.Core.List.{◌∷◌}
use lib.Dec.{leb}
use lib.ListN.{length, get_or}
use borrow.Author.Tests.{lt-ltb, le-ltb, le-leb, lt-leb}
use Rattle.region.specs.Tab.{tab, tab_from, inside}

module _ {ℓ} {A : Type ℓ} where
  length_from : (f : ℕ → A) (at n : ℕ) → length (tab_from f at n) ≡ n
  unfolding tab_from
  length_from f at zero = refl
  length_from f at (suc n) = ap suc (length_from f (suc at) n)

  get_or_from : (f : ℕ → A) (at n i : ℕ) (d : A) → i < n → get_or (tab_from f at n) i d ≡ f (at + i)
  unfolding tab_from
  get_or_from f at zero i d h = absurd (not-suc-le-zero h)
  get_or_from f at (suc n) zero d h = ap f (sym (add-zero at))
  get_or_from f at (suc n) (suc i) d h = get_or_from f (suc at) n i d (le_of_suc-le-suc h) ∙ ap f (suc-add at i ∙ sym (add-suc at i))

  agree_from : (f g : ℕ → A) (at n : ℕ) → ((i : ℕ) → at ≤ i → i < at + n → f i ≡ g i) → tab_from f at n ≡ tab_from g at n
  unfolding tab_from
  agree_from f g at zero e = refl
  agree_from f g at (suc n) e = ap₂ (◌∷◌) (e at (omega arith) (omega arith)) (agree_from f g (suc at) n (λ i l h. e i (omega arith) (omega arith)))

  pub length_tab : (f : ℕ → A) (n : ℕ) → length (tab f n) ≡ n
  unfolding tab
  length_tab f n = length_from f 0 n

  pub get_or_tab : (f : ℕ → A) (n i : ℕ) (d : A) → i < n → get_or (tab f n) i d ≡ f i
  unfolding tab
  get_or_tab f n i d h = get_or_from f 0 n i d h ∙ ap f (zero-add i)

  -- two functions that agree below n have one table
  pub agree_tab : (f g : ℕ → A) (n : ℕ) → ((i : ℕ) → i < n → f i ≡ g i) → tab f n ≡ tab g n
  unfolding tab
  agree_tab f g n e = agree_from f g 0 n (λ i l h. e i (omega arith))

pub inside_in : (addr n i : ℕ) → addr ≤ i → i < addr + n → inside addr n i ≡ true
inside_in addr n i l h = rw (le-leb addr i l, lt-ltb i (addr + n) h)

pub inside_below : (addr n i : ℕ) → i < addr → inside addr n i ≡ false
inside_below addr n i h = rw (lt-leb addr i h)

pub inside_above : (addr n i : ℕ) → addr + n ≤ i → inside addr n i ≡ false
inside_above addr n i h = rw (le-ltb i (addr + n) h) (and-false (leb addr i))
