-- A field read through a window: a run of whole bytes taken as one number has their bits, so a field is a shift of that number
-- and a remainder. Stated over the count of bytes. Assumes nothing.
use mathlib.Core.Path.{◌≡◌, sym, ap, ◌∙◌}
use mathlib.Core.List.{List}
use Prim.Native.Nat.{ℕ, zero, suc, ◌+◌, ◌-◌, ◌*◌, ◌/◌, ◌%◌, ◌^◌, ◌<◌, ◌≤◌}
use native.Mathlib.Nat.{mod-one, add-zero, one-mul}
use native.Mathlib.Numerals.{add-one}
use native.Mathlib.Omega.{arith}
use native.Mathlib.Decide.{dec_lt}
use lib.ListN.{get_or}
use lib.Pow.{shr-shr, high, low, mod-pow-add, mod-mod-pow, shl_exact}
use lib.Pow as Pow
use Rattle.bits.specs.Bits.{bit, field}

-- m bytes from index i on, as one number
unfoldable pub word : (bytes : List ℕ) (i m : ℕ) → ℕ
word s i zero = 0
word s i (suc m) = word s i m * 2 ^ 8 + get_or s (i + m) 0

-- a bit of the last byte is not moved by what stands before it
last_byte : (hi k : ℕ) {b : ℕ} → b < 2 ^ 8 → k < 8 → (hi * 2 ^ 8 + b) / 2 ^ k % 2 ≡ b / 2 ^ k % 2
last_byte hi k {b} small h =
    let whole : 7 - k + (1 + k) ≡ 8 = omega arith in
    let n : ℕ = hi * 2 ^ 8 + b in
    let lows : n % 2 ^ (1 + k) ≡ b % 2 ^ (1 + k) =
    sym (mod-mod-pow n (7 - k) (1 + k)) ∙ ap (λ (e : ℕ). n % 2 ^ e % 2 ^ (1 + k)) whole
    ∙ ap (λ (x : ℕ). x % 2 ^ (1 + k)) (low hi 8 small) in
    sym (Pow.field n 1 k) ∙ ap (λ (x : ℕ). x / 2 ^ k) lows ∙ Pow.field b 1 k

module _ (s : List ℕ) (bytes : (j : ℕ) → get_or s j 0 < 2 ^ 8) where
  -- a bit in the bytes before the last one, and a bit of the last one
  earlier_bit : (i m t : ℕ) → t < 8 * m → word s i (suc m) / 2 ^ (8 * suc m - 1 - t) ≡ word s i m / 2 ^ (8 * m - 1 - t)
  unfolding word
  earlier_bit i m t h =
      let e : 8 * suc m - 1 - t ≡ 8 + (8 * m - 1 - t) = omega arith in
      ap (λ (k : ℕ). word s i (suc m) / 2 ^ k) e ∙ sym (shr-shr (word s i (suc m)) 8 (8 * m - 1 - t))
      ∙ ap (λ (x : ℕ). x / 2 ^ (8 * m - 1 - t)) (high (word s i m) 8 (bytes (i + m)))

  later_bit : (i m t : ℕ) → 8 * m ≤ t → t < 8 * suc m → word s i (suc m) / 2 ^ (8 * suc m - 1 - t) % 2 ≡ bit s (8 * i + t)
  unfolding word
  later_bit i m t past h =
      let k : ℕ = 8 * suc m - 1 - t in
      let small : k < 8 = omega arith in
      let byte : i + m ≡ (8 * i + t) / 8 = omega arith in
      let place : k ≡ 7 - (8 * i + t) % 8 = omega arith in
      last_byte (word s i m) k (bytes (i + m)) small
      ∙ ap (λ (j : ℕ). get_or s j 0 / 2 ^ k % 2) byte
      ∙ ap (λ (e : ℕ). get_or s ((8 * i + t) / 8) 0 / 2 ^ e % 2) place

  word_bit : (i m t : ℕ) → t < 8 * m → word s i m / 2 ^ (8 * m - 1 - t) % 2 ≡ bit s (8 * i + t)
  word_bit i zero t h = absurd (omega arith)
  word_bit i (suc m) t h = go (dec_lt t (8 * m)) (word_bit i m t)
    where
      go : Dec (t < 8 * m) → (t < 8 * m → word s i m / 2 ^ (8 * m - 1 - t) % 2 ≡ bit s (8 * i + t)) → word s i (suc m) / 2 ^ (8 * suc m - 1 - t) % 2 ≡ bit s (8 * i + t)
      go (yes before) ih = ap (λ (x : ℕ). x % 2) (earlier_bit i m t before) ∙ ih before
      go (no past) ih = later_bit i m t (omega arith) h

  pub word_field : (i m r n : ℕ) → r + n ≤ 8 * m → field s (8 * i + r) n ≡ word s i m / 2 ^ (8 * m - (r + n)) % 2 ^ n
  unfolding field
  word_field i m r zero h = sym (mod-one _)
  word_field i m r (suc n) h =
      let k : ℕ = 8 * m - (r + suc n) in
      let x : ℕ = word s i m / 2 ^ k in
      let up : 8 * m - (r + n) ≡ k + 1 = omega arith in
      let place : 8 * m - 1 - (r + n) ≡ k = omega arith in
      let at : 8 * i + r + n ≡ 8 * i + (r + n) = omega arith in
      let fore : field s (8 * i + r) n ≡ x / 2 ^ 1 % 2 ^ n =
      word_field i m r n (omega arith) ∙ ap (λ (e : ℕ). word s i m / 2 ^ e % 2 ^ n) up
      ∙ ap (λ (y : ℕ). y % 2 ^ n) (sym (shr-shr (word s i m) k 1)) in
      let last : bit s (8 * i + r + n) ≡ x % 2 ^ 1 =
      ap (λ (j : ℕ). bit s j) at ∙ sym (word_bit i m (r + n) (omega arith))
      ∙ ap (λ (e : ℕ). word s i m / 2 ^ e % 2) place in
      ap (λ (f : ℕ). f * 2 + bit s (8 * i + r + n)) fore ∙ ap (λ (b : ℕ). x / 2 ^ 1 % 2 ^ n * 2 + b) last
      ∙ sym (mod-pow-add x n 1) ∙ ap (λ (e : ℕ). x % 2 ^ e) (add-one n)

  -- three bytes hold a field of up to 16 bits, wherever it starts
  pub field_by_window : (at n b0 b1 b2 : ℕ) → b0 ≡ get_or s (at / 8) 0 → b1 ≡ get_or s (at / 8 + 1) 0 → b2 ≡ get_or s (at / 8 + 2) 0 → n ≤ 16
      → ((b0 * 256 + b1) * 256 + b2) / 2 ^ (24 - at % 8 - n) % (1 * 2 ^ n % 2 ^ 64) ≡ field s at n
  unfolding word
  field_by_window at n b0 b1 b2 e0 e1 e2 h =
      let i : ℕ = at / 8 in
      let r : ℕ = at % 8 in
      let first : get_or s (i + 0) 0 ≡ get_or s i 0 = ap (λ (j : ℕ). get_or s j 0) (add-zero i) in
      let window : (b0 * 256 + b1) * 256 + b2 ≡ word s i 3 = omega arith in
      let place : 24 - r - n ≡ 24 - (r + n) = omega arith in
      let two : 1 * 2 ^ n % 2 ^ 64 ≡ 2 ^ n = shl_exact {a = 1} 1 n 64 (omega arith) (omega arith) ∙ one-mul (2 ^ n) in
      let start : 8 * i + r ≡ at = omega arith in
      ap (λ (w : ℕ). w / 2 ^ (24 - r - n) % (1 * 2 ^ n % 2 ^ 64)) window
      ∙ ap (λ (e : ℕ). word s i 3 / 2 ^ e % (1 * 2 ^ n % 2 ^ 64)) place
      ∙ ap (λ (m : ℕ). word s i 3 / 2 ^ (24 - (r + n)) % m) two
      ∙ sym (word_field i 3 r n (omega arith)) ∙ ap (λ (a : ℕ). field s a n) start
