-- The original builds its byte sequences index by index, by `Seq::new(n, |i| ..)`. Here that is `tab f n`. It computes at a closed n, and proofs
-- go by three laws of it (`proofs/Tab.antt`): its length, what stands at an index, and that two tables that agree below n are equal.
use Rattle.std.specs.Prelude.{ℕ, zero, suc, ◌+◌, Bool, ◌&&◌, List, [], ◌∷◌, leb, ltb}

-- f at, f (at + 1), .., n entries
unfoldable pub tab_from {ℓ} : {A : Type ℓ} → (ℕ → A) → ℕ → ℕ → List A
tab_from f at zero = []
tab_from f at (suc n) = f at ∷ tab_from f (suc at) n

-- `Seq::new(n, f)`: f 0, .., f (n - 1)
unfoldable pub tab {ℓ} : {A : Type ℓ} → (ℕ → A) → ℕ → List A
unfolding tab_from
tab f n = tab_from f 0 n

-- `addr <= i < addr + n`
abbrev pub inside : ℕ → ℕ → ℕ → Bool
inside addr n i = leb addr i && ltb i (addr + n)
