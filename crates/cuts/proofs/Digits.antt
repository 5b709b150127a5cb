-- A number built from given bits has those bits, and the bits above them. Assumes nothing.
use Prim.Native.Nat.{ℕ, zero, suc, ◌+◌, ◌-◌, ◌*◌, ◌/◌, ◌%◌, ◌^◌, ◌<◌}
use native.Mathlib.Nat.{zero-add, add-zero, add-suc, suc-add, div-one, mod-lt, not-suc-le-zero, le_of_suc-le-suc}
use native.Mathlib.Decide.{dec_lt}
use native.Mathlib.Numerals.{one-add}
use native.Mathlib.Omega.{arith}
use mathlib.Core.Path.{◌≡◌, refl, sym, ap, ◌∙◌}
use mathlib.Core.Logic.{by_cases}
use mathlib.Core.Bool.{Bool, true, false, cond}
use lib.Dec.{eqb, lit<}
use lib.Arith.{digits_div, digits_mod, lt-one}
use lib.Pow.{pow_pos, shr-shr}
use Rattle.pieces.specs.Choice.{keeps_point}
use Rattle.cuts.specs.Number.{bits_below}
use Rattle.cuts.specs.Packed.{top_bit_first}

pub bit_of_shift : (m t k : ℕ) → keeps_point (m / 2 ^ t) k ≡ keeps_point m (t + k)
bit_of_shift m t k = ap (λ x. eqb (x % 2) 1) (shr-shr m t k)

-- one place further is a place further in the half
pub shr_suc : (m n : ℕ) → m / 2 ^ suc n ≡ m / 2 / 2 ^ n
shr_suc m n = ap (λ x. m / 2 ^ x) (sym (one-add n)) ∙ sym (shr-shr m 1 n)

pub bit_suc : (m k : ℕ) → keeps_point m (suc k) ≡ keeps_point (m / 2) k
bit_suc m k = ap (λ x. eqb (x % 2) 1) (shr_suc m k)

digit_lt : (b : Bool) → cond b 1 0 < 2
digit_lt true = lit< tt
digit_lt false = lit< tt

digit_bit : (b : Bool) → eqb (cond b 1 0) 1 ≡ b
digit_bit true = refl
digit_bit false = refl

pub lowest_digit : (x : ℕ) → x < 2 → cond (eqb x 1) 1 0 ≡ x
lowest_digit zero h = refl
lowest_digit (suc zero) h = refl
lowest_digit (suc (suc x)) h = absurd (omega arith)

-- the lowest bit, and those above
module _ (b : ℕ → Bool) (hi c : ℕ) where
  lowest : (d : ℕ) → c ≡ d → keeps_point (hi * 2 + cond (b c) 1 0) 0 ≡ b d
  lowest d same =
      ap (λ x. eqb (x % 2) 1) (div-one (hi * 2 + cond (b c) 1 0)) ∙ ap (λ x. eqb x 1) (digits_mod hi (digit_lt (b c))) ∙ digit_bit (b c) ∙ ap b same

  above : (k : ℕ) → keeps_point (hi * 2 + cond (b c) 1 0) (suc k) ≡ keeps_point hi k
  above k = bit_suc (hi * 2 + cond (b c) 1 0) k ∙ ap (λ x. keeps_point x k) (digits_div hi (digit_lt (b c)))

module _ (hi : ℕ) (f : ℕ → Bool) where
  pub bit_of_bits_below : (from n k : ℕ) → k < n → keeps_point (bits_below hi f from n) k ≡ f (from + k)
  unfolding bits_below
  bit_of_bits_below from zero k h = absurd (not-suc-le-zero h)
  bit_of_bits_below from (suc n) zero h = lowest f (bits_below hi f (suc from) n) from (from + 0) (sym (add-zero from))
  bit_of_bits_below from (suc n) (suc k) h =
      above f (bits_below hi f (suc from) n) from k ∙ bit_of_bits_below (suc from) n k (le_of_suc-le-suc h)
      ∙ ap f (suc-add from k ∙ sym (add-suc from k))

  pub bits_below_high : (from n : ℕ) → bits_below hi f from n / 2 ^ n ≡ hi
  unfolding bits_below
  bits_below_high from zero = div-one hi
  bits_below_high from (suc n) =
      shr_suc (bits_below hi f from (suc n)) n ∙ ap (λ x. x / 2 ^ n) (digits_div (bits_below hi f (suc from) n) (digit_lt (f from)))
      ∙ bits_below_high (suc from) n

  pub bits_below_lt : (from n k : ℕ) → hi < 2 ^ k → bits_below hi f from n < 2 ^ (n + k)
  unfolding bits_below
  bits_below_lt from zero k h = rw zero-add h
  bits_below_lt from (suc n) k h =
      let rest = bits_below_lt (suc from) n k h in
      let digit = digit_lt (f from) in
      rw suc-add (omega arith)

-- a number built with the top bit first has those bits, counted from the top, and none above
module _ (b : ℕ → Bool) (from : ℕ) where
  pub bit_of_top_bit_first : (n p : ℕ) → p < n → keeps_point (top_bit_first b from n) (n - 1 - p) ≡ b (from + p)
  unfolding top_bit_first
  bit_of_top_bit_first zero p h = absurd (not-suc-le-zero h)
  bit_of_top_bit_first (suc n) p h =
      by_cases (dec_lt p n)
      (λ up.
      let place : suc n - 1 - p ≡ suc (n - 1 - p) = omega arith in
      rw place (above b _ _ (n - 1 - p) ∙ bit_of_top_bit_first n p up))
      (λ last.
      let place : suc n - 1 - p ≡ 0 = omega arith in
      rw place (lowest b _ _ (from + p) (omega arith)))

  pub top_bit_first_lt : (n : ℕ) → top_bit_first b from n < 2 ^ n
  unfolding top_bit_first
  top_bit_first_lt zero = lit< tt
  top_bit_first_lt (suc n) =
      let rest = top_bit_first_lt n in
      let digit = digit_lt (b (from + n)) in
      omega arith

  -- and a number below 2 ^ n is built from its own n bits
  pub top_bit_first_of_number : (n x : ℕ) → x < 2 ^ n → ((p : ℕ) → p < n → b (from + p) ≡ keeps_point x (n - 1 - p)) → top_bit_first b from n ≡ x
  unfolding top_bit_first
  top_bit_first_of_number zero x h e = sym (lt-one h)
  top_bit_first_of_number (suc n) x h e =
      let rest : top_bit_first b from n ≡ x / 2 =
      top_bit_first_of_number n (x / 2) (omega arith)
      (λ p k. let place : suc n - 1 - p ≡ suc (n - 1 - p) = omega arith in
      e p (omega arith) ∙ ap (keeps_point x) place ∙ bit_suc x (n - 1 - p)) in
      let place : suc n - 1 - n ≡ 0 = omega arith in
      let low : cond (b (from + n)) 1 0 ≡ x % 2 =
      ap (λ t. cond t 1 0) (e n (omega arith) ∙ ap (keeps_point x) place) ∙ rw div-one (lowest_digit (x % 2) (mod-lt x (lit< tt))) in
      rw (rest, low) (omega arith)

-- n bits that are all 1
ones_are_bits : (from n : ℕ) → bits_below 0 (λ c. true) from n ≡ 2 ^ n - 1
unfolding bits_below
ones_are_bits from zero = refl
ones_are_bits from (suc n) = rw (ones_are_bits (suc from) n) (omega (arith, pow_pos n))

pub bit_of_ones : (n k : ℕ) → k < n → keeps_point (2 ^ n - 1) k ≡ true
bit_of_ones n k h = rw (ones_are_bits 0 n) at (bit_of_bits_below 0 (λ c. true) 0 n k h)
