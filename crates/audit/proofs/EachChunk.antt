-- `can_result_from_partial_write` of pmemspec_t.rs says of each chunk 'as before or as written' and not which. Here a proof says which, and nothing is
-- asked by that: bytes can be compared, so whoever knows that not both fail knows which holds. Assumes nothing.
use Prim.Native.Nat.{ℕ, zero, suc, ◌/◌, ◌<◌}
use native.Mathlib.Omega.{arith}
use mathlib.Core.Path.{◌≡◌, refl, subst}
use mathlib.Core.Logic.{◌⊎◌, inl, inr, ⊎_elim}
use mathlib.Core.Bool.{Bool, true, false}
use mathlib.Core.List.{List}
use lib.Dec.{eqb}
use lib.ListN.{length, get_or}
use borrow.Author.Tests.{eqb-true, eqb-false}
use Rattle.region.specs.Pmemspec.{update_bytes, AddrInChunk, ChunkCorresponds, CanResultFromPartialWrite}

module _ (C : ℕ) (s t : List ℕ) (chunk : ℕ) where
  -- the two have the same bytes in this chunk, below n
  abbrev Same : ℕ → Type 0
  Same n = (addr : ℕ) → addr < n → AddrInChunk C chunk addr → get_or s addr 0 ≡ get_or t addr 0

  abbrev Known : ℕ → Type 0
  Known n = Same n ⊎ (Same n → ⊥)

  -- one byte more
  same_more : (n : ℕ) → Same n → (n / C ≡ chunk → get_or s n 0 ≡ get_or t n 0) → Same (suc n)
  same_more n below here addr h c =
      ⊎_elim (λ (l : addr < n). below addr l c) (λ (e : n ≡ addr). subst (λ (a : ℕ). a / C ≡ chunk → get_or s a 0 ≡ get_or t a 0) e here c) (split addr n h)
    where
      split : (a k : ℕ) → a < suc k → (a < k) ⊎ (k ≡ a)
      split a k l = go (eqb k a) refl
        where
          go : (b : Bool) → eqb k a ≡ b → (a < k) ⊎ (k ≡ a)
          go true e = inr (eqb-true k a e)
          go false e = let differs = eqb-false k a e in inl (omega arith)

  known_more : (n : ℕ) → Known n → Known (suc n)
  known_more n (inr fails) = inr (λ all. fails (λ addr h c. all addr (omega arith) c))
  known_more n (inl below) = by_chunk (eqb (n / C) chunk) refl
    where
      by_byte : (b : Bool) → n / C ≡ chunk → eqb (get_or s n 0) (get_or t n 0) ≡ b → Known (suc n)
      by_byte true c e = inl (same_more n below (λ c. eqb-true (get_or s n 0) (get_or t n 0) e))
      by_byte false c e = inr (λ all. eqb-false (get_or s n 0) (get_or t n 0) e (all n (omega arith) c))

      by_chunk : (b : Bool) → eqb (n / C) chunk ≡ b → Known (suc n)
      by_chunk true e = by_byte (eqb (get_or s n 0) (get_or t n 0)) (eqb-true (n / C) chunk e) refl
      by_chunk false e = inl (same_more n below (λ c. absurd (eqb-false (n / C) chunk e c)))

  known : (n : ℕ) → Known n
  known zero = inl (λ addr h c. absurd (omega arith))
  known (suc n) = known_more n (known n)

  pub chunk_corresponds_or_not : ChunkCorresponds C s t chunk ⊎ (ChunkCorresponds C s t chunk → ⊥)
  chunk_corresponds_or_not = known (length s)

-- the original's clause gives the one here
pub or_says_which : (C : ℕ) (post pre : List ℕ) (addr : ℕ) (bytes : List ℕ) → length post ≡ length pre
    → ((chunk : ℕ) → (ChunkCorresponds C post pre chunk → ⊥) → (ChunkCorresponds C post (update_bytes pre addr bytes) chunk → ⊥) → ⊥)
    → CanResultFromPartialWrite C post pre addr bytes
or_says_which C post pre addr bytes same not_neither =
    record {
      same_length = same;
      each_chunk = λ chunk. ⊎_elim inl
          (λ as_before. ⊎_elim inr (λ as_written. absurd (not_neither chunk as_before as_written))
          (chunk_corresponds_or_not C post (update_bytes pre addr bytes) chunk))
          (chunk_corresponds_or_not C post pre chunk);
    }
