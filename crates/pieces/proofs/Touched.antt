-- The touched chunks in terms of bytes: a chunk is touched exactly if some byte of the write lies in it, and there are `touched` such chunks.
-- Assumes nothing.
use Prim.Native.Nat.{ℕ, zero, suc, ◌+◌, ◌-◌, ◌*◌, ◌/◌, ◌≤◌, ◌<◌}
use native.Mathlib.Nat.{le_trans, le_antisymm, le-div_iff_mul-le, div-mul-le_self, mul-div_cancel}
use native.Mathlib.Decide.{dec_lt}
use native.Mathlib.Omega.{arith}
use mathlib.Core.Path.{◌≡◌, sym, ap, ap₂, ◌∙◌}
use mathlib.Core.Logic.{◌↔◌, by_cases}
use mathlib.Core.Bool.{true}
use lib.Dec.{leb, ltb}
use borrow.Author.Tests.{leb-true, ltb-true}
use Rattle.region.specs.Tab.{inside}
use Rattle.region.proofs.Booleans.{both}
use Rattle.region.proofs.Tab.{inside_in, inside_below, inside_above}
use Rattle.pieces.specs.AsyncSpec.{addr_to_chunk, size_to_chunks}
use Rattle.pieces.specs.Choice.{touched, touches, touched_among}
use Rattle.pieces.specs.Rows.{set_bits}
use Rattle.pieces.proofs.ByteBits.{set_bits_add, no_set_bits, all_set_bits}

pub inside_bounds : (addr n i : ℕ) → inside addr n i ≡ true → (addr ≤ i) × (i < addr + n)
inside_bounds addr n i e =
    let parts : (leb addr i ≡ true) × (ltb i (addr + n) ≡ true) = both (leb addr i) (ltb i (addr + n)) e in
    (leb-true addr i parts.0, ltb-true i (addr + n) parts.1)

-- a run of n places that ends below K has n of the places below K
count_inside : (from n K : ℕ) → from + n ≤ K → set_bits (inside from n) 0 K ≡ n
count_inside from n K h =
    let parts : from + (n + (K - (from + n))) ≡ K = omega arith in
    ap (set_bits (inside from n) 0) (sym parts)
    ∙ set_bits_add (inside from n) 0 from (n + (K - (from + n)))
    ∙ ap₂ (◌+◌)
    (no_set_bits (inside from n) 0 from (λ c l u. inside_below from n c (omega arith)))
    (set_bits_add (inside from n) (0 + from) n (K - (from + n))
    ∙ ap₂ (◌+◌)
    (all_set_bits (inside from n) (0 + from) n (λ c l u. inside_in from n c (omega arith) (omega arith)))
    (no_set_bits (inside from n) (0 + from + n) (K - (from + n)) (λ c l u. inside_above from n c (omega arith))))
    ∙ omega arith

module _ (C : ℕ) (C⁺ : 0 < C) where
  pub chunk_mono : {a b : ℕ} → a ≤ b → a / C ≤ b / C
  chunk_mono {a} {b} h = (le-div_iff_mul-le {k = C} {x = a / C} {y = b} C⁺).1 (le_trans (div-mul-le_self a C) h)

  -- a byte of an image of n bytes lies in one of its chunks
  pub chunk_below : (i n : ℕ) → i < n → i / C < size_to_chunks C n
  chunk_below i n h = (le-div_iff_mul-le {k = C} {x = suc (i / C)} {y = n + C - 1} C⁺).1 (omega (arith, div-mul-le_self i C))

  -- the chunk of a byte of the write is touched
  pub byte_is_touched : (addr n i : ℕ) → inside addr n i ≡ true → touches C addr n (addr_to_chunk C i) ≡ true
  unfolding touched
  byte_is_touched addr zero i e = let at = inside_bounds addr zero i e in absurd (omega arith)
  byte_is_touched addr (suc n) i e =
      let at = inside_bounds addr (suc n) i e in
      let low : addr / C ≤ i / C = chunk_mono at.0 in
      let high : i / C ≤ (addr + n) / C = chunk_mono (omega arith) in
      inside_in (addr / C) (touched C addr (suc n)) (i / C) low (omega arith)

  -- a touched chunk has a byte of the write: the chunk's first byte, or addr where the write starts behind that
  touched_has_a_byte : (addr n c : ℕ) → touches C addr n c ≡ true → (i : ℕ) × (inside addr n i ≡ true) × (addr_to_chunk C i ≡ c)
  unfolding touched
  touched_has_a_byte addr zero c e = let run = inside_bounds (addr / C) 0 c e in absurd (omega arith)
  touched_has_a_byte addr (suc n) c e =
      let run = inside_bounds (addr / C) (touched C addr (suc n)) c e in
      let mono : addr / C ≤ (addr + n) / C = chunk_mono (omega arith) in
      by_cases (dec_lt addr (c * C))
      (λ behind.
      let first : c * C ≤ addr + n = (le-div_iff_mul-le {k = C} {x = c} {y = addr + n} C⁺).0 (omega arith) in
      (c * C, inside_in addr (suc n) (c * C) (omega arith) (omega arith), mul-div_cancel c C⁺))
      (λ before.
      let last : c ≤ addr / C = (le-div_iff_mul-le {k = C} {x = c} {y = addr} C⁺).1 (omega arith) in
      (addr, inside_in addr (suc n) addr (omega arith) (omega arith), le_antisymm run.0 last))

  pub touched_exactly : (addr n c : ℕ) → touches C addr n c ≡ true ↔ ((i : ℕ) × (inside addr n i ≡ true) × (addr_to_chunk C i ≡ c))
  touched_exactly addr n c = (touched_has_a_byte addr n c, λ (i, covered, there). rw (sym there) (byte_is_touched addr n i covered))

  -- the touched chunks of a write inside an image are chunks of the image
  pub touched_below : (addr n L c : ℕ) → addr + n ≤ L → touches C addr n c ≡ true → c < size_to_chunks C L
  touched_below addr n L c fits e =
      let (i, covered, there) = touched_has_a_byte addr n c e in
      rw (sym there) (chunk_below i L (omega (arith, inside_bounds addr n i covered)))

  run_below : (addr n L : ℕ) → addr + n ≤ L → addr / C + touched C addr n ≤ size_to_chunks C L
  unfolding touched
  run_below addr zero L fits = omega (arith, chunk_mono {a = addr} {b = L + C - 1} (omega arith))
  run_below addr (suc n) L fits = omega (arith, chunk_mono {a = addr} {b = addr + n} (omega arith), chunk_below (addr + n) L (omega arith))

  -- `touched` counts them, among the chunks of any image that the write lies in
  pub touched_counts : (addr n L : ℕ) → addr + n ≤ L → touched_among C addr n L ≡ touched C addr n
  touched_counts addr n L fits = count_inside (addr / C) (touched C addr n) (size_to_chunks C L) (run_below addr n L fits)
