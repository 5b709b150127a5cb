-- Bits packed into bytes: bytes hold given bits and fewer than 8 zero bits exactly if they are these bits packed. Assumes nothing.
use mathlib.Core.Path.{◌≡◌, refl, sym, ap, ◌∙◌}
use mathlib.Core.Logic.{◌↔◌}
use mathlib.Core.List.{List, [], ◌∷◌, ◌++◌}
use Prim.Native.Nat.{ℕ, zero, suc, ◌+◌, ◌-◌, ◌*◌, ◌/◌, ◌%◌, ◌^◌, ◌<◌, ◌≤◌}
use native.Mathlib.Nat.{pow-suc, add-zero, zero-add, add-suc, suc-add, mod-lt, div-one, le_of_suc-le-suc, not-suc-le-zero, mod-eq_of_lt}
use native.Mathlib.Decide.{dec_lt}
use native.Mathlib.Omega.{arith}
use lib.Arith.{digits_div, digits_mod}
use lib.Dec.{lit<}
use lib.ListN.{length, get_or, replicate, length-append, length-replicate, get_or-eq_default}
use lib.Pow.{shr-shr}
use lib.Seq.{ext_get_or}
use Rattle.bits.specs.Bits.{byte_bits, bit, bit_count, field}
use Rattle.bits.specs.Binary.{binary, bits_of, number_at, bytes_from, bytes_of, AreBytes, AreBits}
use Rattle.bits.proofs.Window.{word, word_field}
use Rattle.bits.proofs.Spelled.{Spelled, ends, goes, bits_exactly}

-- Bits of lists.

pub bits_append : (xs ys : List ℕ) → AreBits xs → AreBits ys → AreBits (xs ++ ys)
bits_append [] ys a b i = b i
bits_append (x ∷ xs) ys a b zero = a zero
bits_append (x ∷ xs) ys a b (suc i) = bits_append xs ys (λ j. a (suc j)) b i

pub binary_bits : (n v : ℕ) → AreBits (binary n v)
unfolding binary
binary_bits zero v = λ i. lit< tt
binary_bits (suc n) v = bits_append (binary n (v / 2)) (v % 2 ∷ []) (binary_bits n (v / 2)) last
  where
    last : AreBits (v % 2 ∷ [])
    last zero = mod-lt v (lit< tt)
    last (suc i) = lit< tt

filled_length : (xs : List ℕ) (n : ℕ) → length (xs ++ replicate n 0) ≡ length xs + n
filled_length xs n = length-append xs (replicate n 0) ∙ ap (λ (k : ℕ). length xs + k) (length-replicate {A = ℕ} n 0)

-- zero bits behind the last one change no bit
filled_bit : (xs : List ℕ) (n i : ℕ) → get_or (xs ++ replicate n 0) i 0 ≡ get_or xs i 0
filled_bit [] zero i = refl
filled_bit [] (suc n) zero = refl
filled_bit [] (suc n) (suc i) = filled_bit [] n i
filled_bit (x ∷ xs) n zero = refl
filled_bit (x ∷ xs) n (suc i) = filled_bit xs n i

-- Spelled bits, one by one.

module _ (s : List ℕ) where
  spelled_length : {xs : List ℕ} {at next : ℕ} → Spelled s at xs next → at + length xs ≡ next
  spelled_length (ends {at} h) = add-zero at
  spelled_length (goes {at} {xs = xs} e p) = add-suc at (length xs) ∙ sym (suc-add at (length xs)) ∙ spelled_length p

  spelled_bit : {xs : List ℕ} {at next : ℕ} → Spelled s at xs next → (i : ℕ) → i < length xs → bit s (at + i) ≡ get_or xs i 0
  spelled_bit (ends h) i k = absurd (not-suc-le-zero k)
  spelled_bit (goes {at} e p) zero k = ap (λ (j : ℕ). bit s j) (add-zero at) ∙ e
  spelled_bit (goes {at} e p) (suc i) k = ap (λ (j : ℕ). bit s j) (add-suc at i ∙ sym (suc-add at i)) ∙ spelled_bit p i (le_of_suc-le-suc k)

  spelled_by_bits : (xs : List ℕ) (at : ℕ) → at + length xs ≤ bit_count s → ((i : ℕ) → i < length xs → bit s (at + i) ≡ get_or xs i 0)
      → Spelled s at xs (at + length xs)
  spelled_by_bits [] at h each = rw (add-zero at) (ends {at = at} (omega arith))
  spelled_by_bits (x ∷ xs) at h each =
      let first : bit s at ≡ x = ap (λ (j : ℕ). bit s j) (sym (add-zero at)) ∙ each 0 (omega arith) in
      let rest = spelled_by_bits xs (suc at) (omega arith)
      (λ i k. ap (λ (j : ℕ). bit s j) (suc-add at i ∙ sym (add-suc at i)) ∙ each (suc i) (omega arith)) in
      goes first (rw (suc-add at (length xs) ∙ sym (add-suc at (length xs))) at rest)

-- The bytes that are made.

number_bit : (xs : List ℕ) → AreBits xs → (at n k : ℕ) → k < n → number_at xs at n / 2 ^ (n - 1 - k) % 2 ≡ get_or xs (at + k) 0
unfolding number_at
number_bit xs bits at zero k h = absurd (omega arith)
number_bit xs bits at (suc n) k h = go (dec_lt k n) (number_bit xs bits at n k)
  where
    go : Dec (k < n) → (k < n → number_at xs at n / 2 ^ (n - 1 - k) % 2 ≡ get_or xs (at + k) 0)
        → number_at xs at (suc n) / 2 ^ (suc n - 1 - k) % 2 ≡ get_or xs (at + k) 0
    go (yes before) ih =
        let e : suc n - 1 - k ≡ 1 + (n - 1 - k) = omega arith in
        ap (λ (j : ℕ). number_at xs at (suc n) / 2 ^ j % 2) e ∙ ap (λ (x : ℕ). x % 2) (sym (shr-shr (number_at xs at (suc n)) 1 (n - 1 - k)))
        ∙ ap (λ (x : ℕ). x / 2 ^ (n - 1 - k) % 2) (digits_div (number_at xs at n) (bits (at + n))) ∙ ih before
    go (no past) ih =
        let last : k ≡ n = omega arith in
        let none : suc n - 1 - k ≡ 0 = omega arith in
        ap (λ (j : ℕ). number_at xs at (suc n) / 2 ^ j % 2) none ∙ ap (λ (x : ℕ). x % 2) (div-one (number_at xs at (suc n)))
        ∙ digits_mod (number_at xs at n) (bits (at + n)) ∙ ap (λ (j : ℕ). get_or xs (at + j) 0) (sym last)

number_lt : (xs : List ℕ) → AreBits xs → (at n : ℕ) → number_at xs at n < 2 ^ n
unfolding number_at
number_lt xs bits at zero = lit< tt
number_lt xs bits at (suc n) = let double = pow-suc 2 n in omega (arith, double, number_lt xs bits at n, bits (at + n))

module _ (xs : List ℕ) where
  length_bytes_from : (i n : ℕ) → length (bytes_from xs i n) ≡ n
  unfolding bytes_from
  length_bytes_from i zero = refl
  length_bytes_from i (suc n) = ap suc (length_bytes_from (suc i) n)

  byte_of_bytes_from : (i n k : ℕ) → k < n → get_or (bytes_from xs i n) k 0 ≡ number_at xs (byte_bits * (i + k)) byte_bits
  unfolding bytes_from
  byte_of_bytes_from i zero k h = absurd (omega arith)
  byte_of_bytes_from i (suc n) zero h = ap (λ (j : ℕ). number_at xs (byte_bits * j) byte_bits) (sym (add-zero i))
  byte_of_bytes_from i (suc n) (suc k) h =
      byte_of_bytes_from (suc i) n k (omega arith) ∙ ap (λ (j : ℕ). number_at xs (byte_bits * j) byte_bits) (suc-add i k ∙ sym (add-suc i k))

  pub length_bytes_of : length (bytes_of xs) ≡ (length xs + 7) / 8
  unfolding bytes_of
  length_bytes_of = length_bytes_from 0 ((length xs + 7) / 8)

  byte_of_bytes_of : (k : ℕ) → k < (length xs + 7) / 8 → get_or (bytes_of xs) k 0 ≡ number_at xs (byte_bits * k) byte_bits
  unfolding bytes_of
  byte_of_bytes_of k h = byte_of_bytes_from 0 ((length xs + 7) / 8) k h ∙ ap (λ (j : ℕ). number_at xs (byte_bits * j) byte_bits) (zero-add k)

  module _ (bits : AreBits xs) where
    pub bytes_of_are_bytes : AreBytes (bytes_of xs)
    bytes_of_are_bytes k = go (dec_lt k ((length xs + 7) / 8))
      where
        go : Dec (k < (length xs + 7) / 8) → get_or (bytes_of xs) k 0 < 2 ^ byte_bits
        go (yes h) = rw (byte_of_bytes_of k h) (number_lt xs bits (byte_bits * k) byte_bits)
        go (no h) = rw (get_or-eq_default (bytes_of xs) 0 {n = k} (rw length_bytes_of (omega arith))) (lit< tt)

    bit_of_bytes_of : (i : ℕ) → i < bit_count (bytes_of xs) → bit (bytes_of xs) i ≡ get_or xs i 0
    bit_of_bytes_of i h =
        let k : i / 8 < (length xs + 7) / 8 = omega (arith, length_bytes_of) in
        let there : 8 * (i / 8) + i % 8 ≡ i = omega arith in
        ap (λ (b : ℕ). b / 2 ^ (byte_bits - 1 - i % 8) % 2) (byte_of_bytes_of (i / 8) k)
        ∙ number_bit xs bits (8 * (i / 8)) 8 (i % 8) (omega arith) ∙ ap (λ (j : ℕ). get_or xs j 0) there

    packed_there : (zeros : ℕ) × (zeros < byte_bits) × (bits_of (bytes_of xs) ≡ xs ++ replicate zeros 0)
    packed_there =
        let s : List ℕ = bytes_of xs in
        let zeros : ℕ = bit_count s - length xs in
        let ys : List ℕ = xs ++ replicate zeros 0 in
        let long : length ys ≡ bit_count s = filled_length xs zeros ∙ omega (arith, length_bytes_of) in
        let there : Spelled s 0 ys (0 + length ys) =
        spelled_by_bits s ys 0 (omega arith) (λ i h. rw (zero-add i) (bit_of_bytes_of i (omega arith) ∙ sym (filled_bit xs zeros i))) in
        (zeros, omega (arith, length_bytes_of), (bits_exactly s ys).0 (rw (zero-add (length ys), long) at there))

-- A field goes by the bits that stand there, and a byte is the field of its bits.

number_is_field : (s xs : List ℕ) (at n : ℕ) → ((i : ℕ) → i < n → bit s (at + i) ≡ get_or xs (at + i) 0) → field s at n ≡ number_at xs at n
unfolding field number_at
number_is_field s xs at zero each = refl
number_is_field s xs at (suc n) each = rw (number_is_field s xs at n (λ i h. each i (omega arith)), each n (omega arith))

byte_is_field : (s : List ℕ) → AreBytes s → (i : ℕ) → field s (8 * i) 8 ≡ get_or s i 0
unfolding word
byte_is_field s bytes i =
    let alone : word s i 1 ≡ get_or s i 0 = rw (add-zero i) (omega arith) in
    ap (λ (a : ℕ). field s a 8) (sym (add-zero (8 * i))) ∙ word_field s bytes i 1 0 8 (omega arith)
    ∙ ap (λ (x : ℕ). x / 2 ^ 0 % 2 ^ 8) alone ∙ ap (λ (x : ℕ). x % 2 ^ 8) (div-one (get_or s i 0)) ∙ mod-eq_of_lt (bytes i)

packed_back : (s xs : List ℕ) → AreBytes s → (zeros : ℕ) → zeros < byte_bits → bits_of s ≡ xs ++ replicate zeros 0 → s ≡ bytes_of xs
packed_back s xs bytes zeros few e =
    let ys : List ℕ = xs ++ replicate zeros 0 in
    let there : Spelled s 0 ys (bit_count s) = (bits_exactly s ys).1 e in
    let all_of_them : length xs + zeros ≡ bit_count s =
    sym (filled_length xs zeros) ∙ sym (zero-add (length ys)) ∙ spelled_length s there in
    let each : (i : ℕ) → i < bit_count s → bit s i ≡ get_or xs i 0 = λ i h.
    ap (λ (j : ℕ). bit s j) (sym (zero-add i)) ∙ spelled_bit s there i (omega (arith, filled_length xs zeros)) ∙ filled_bit xs zeros i in
    let long : length s ≡ (length xs + 7) / 8 = omega arith in
    ext_get_or 0 s (bytes_of xs) (long ∙ sym (length_bytes_of xs))
    (λ k h. sym (byte_is_field s bytes k) ∙ number_is_field s xs (8 * k) 8 (λ i l. each (8 * k + i) (omega arith)) ∙ sym (byte_of_bytes_of xs k (omega arith)))

-- Bytes hold the bits and fewer than 8 zero bits behind them exactly if they are the bits packed.
pub packed_exactly : (s xs : List ℕ) → AreBytes s → AreBits xs
    → ((zeros : ℕ) × (zeros < byte_bits) × (bits_of s ≡ xs ++ replicate zeros 0)) ↔ (s ≡ bytes_of xs)
packed_exactly s xs bytes bits = (λ z. packed_back s xs bytes z.0 z.1 z.2, λ e. rw e (packed_there xs bits))
