-- The set bits of a row, counted a byte at a time. Assumes nothing.
use Prim.Native.Nat.{ℕ, zero, suc, ◌+◌, ◌-◌, ◌*◌, ◌/◌, ◌%◌, ◌^◌, ◌≤◌, ◌<◌}
use native.Mathlib.Nat.{add-sub_of_le, le_refl, mod-lt, add-zero, zero-add, add_assoc, suc-add, add-suc, zero-lt-suc, mod-one, one-mul, not-suc-le-zero, le_of_suc-le-suc}
use native.Mathlib.Numerals.{add-one, one-add}
use native.Mathlib.Decide.{ℕ_discrete}
use native.Mathlib.Omega.{arith}
use mathlib.Core.Path.{◌≡◌, refl, sym, ap, ap₂, ◌∙◌}
use mathlib.Core.Logic.{by_cases}
use mathlib.Core.Bool.{Bool, true, false, cond}
use mathlib.Core.List.{List}
use lib.Dec.{eqb}
use lib.ListN.{get_or}
use lib.Pow.{mod-pow-add, shr-shr, shl_exact, pow_pos}
use lib.Bits.{bit_and, and_high}
use lib.Count.{ones, ones_cat}
use Rattle.pieces.specs.Rows.{row_bit, set_bits}

-- a run of bits in two parts
pub set_bits_add : (b : ℕ → Bool) (from m n : ℕ) → set_bits b from (m + n) ≡ set_bits b from m + set_bits b (from + m) n
unfolding set_bits
set_bits_add b from zero n = ap₂ (set_bits b) (sym (add-zero from)) (zero-add n) ∙ sym (zero-add (set_bits b (from + zero) n))
set_bits_add b from (suc m) n =
    ap (set_bits b from) (suc-add m n)
    ∙ ap (λ (x : ℕ). cond (b from) 1 0 + x) (set_bits_add b (suc from) m n)
    ∙ sym (add_assoc (cond (b from) 1 0) (set_bits b (suc from) m) (set_bits b (suc from + m) n))
    ∙ ap (λ (x : ℕ). cond (b from) 1 0 + set_bits b (suc from) m + set_bits b x n) (suc-add from m ∙ sym (add-suc from m))

-- only the bits of the run count
pub set_bits_agree : (b b' : ℕ → Bool) (from n : ℕ) → ((c : ℕ) → from ≤ c → c < from + n → b c ≡ b' c) → set_bits b from n ≡ set_bits b' from n
unfolding set_bits
set_bits_agree b b' from zero e = refl
set_bits_agree b b' from (suc n) e =
    ap₂ (λ (t : Bool) (m : ℕ). cond t 1 0 + m) (e from (omega arith) (omega arith)) (set_bits_agree b b' (suc from) n (λ c l h. e c (omega arith) (omega arith)))

-- no bit of a run is set exactly if their count is 0
pub no_set_bits : (b : ℕ → Bool) (from n : ℕ) → ((c : ℕ) → from ≤ c → c < from + n → b c ≡ false) → set_bits b from n ≡ 0
unfolding set_bits
no_set_bits b from zero h = refl
no_set_bits b from (suc n) h = rw (h from (omega arith) (omega arith), no_set_bits b (suc from) n (λ c l k. h c (omega arith) (omega arith)))

pub none_is_set : (b : ℕ → Bool) (from n : ℕ) → set_bits b from n ≡ 0 → (c : ℕ) → from ≤ c → c < from + n → b c ≡ false
unfolding set_bits
none_is_set b from zero e c l h = absurd (omega arith)
none_is_set b from (suc n) e c l h =
    by_cases (ℕ_discrete from c)
    (λ same. rw (sym same) (first (b from) e))
    (λ other. none_is_set b (suc from) n (omega arith) c (omega arith) (omega arith))
  where
    first : (t : Bool) → cond t 1 0 + set_bits b (suc from) n ≡ 0 → t ≡ false
    first true e = absurd (omega arith)
    first false e = refl

-- a run whose bits are all set counts as long as it is
pub all_set_bits : (b : ℕ → Bool) (from n : ℕ) → ((c : ℕ) → from ≤ c → c < from + n → b c ≡ true) → set_bits b from n ≡ n
unfolding set_bits
all_set_bits b from zero h = refl
all_set_bits b from (suc n) h =
    rw (h from (omega arith) (omega arith), all_set_bits b (suc from) n (λ c l k. h c (omega arith) (omega arith))) (omega arith)

-- no more bits are set than there are
pub set_bits_le : (b : ℕ → Bool) (from n : ℕ) → set_bits b from n ≤ n
unfolding set_bits
set_bits_le b from zero = le_refl 0
set_bits_le b from (suc n) =
    one_more (b from) (set_bits_le b (suc from) n)
  where
    one_more : (t : Bool) {m : ℕ} → m ≤ n → cond t 1 0 + m ≤ suc n
    one_more true h = omega arith
    one_more false h = omega arith

-- a digit is 0 or 1, and counts as itself
digit : (d : ℕ) → d < 2 → cond (eqb d 1) 1 0 ≡ ones d
unfolding ones
digit zero h = refl
digit (suc zero) h = refl
digit (suc (suc d)) h = absurd (not-suc-le-zero (le_of_suc-le-suc (le_of_suc-le-suc h)))

-- bits l, .., l + n - 1 of a byte x, counted from the top, are the n digits of x above its lowest 8 - l - n
run_in_byte : (b : ℕ → Bool) (x from l n : ℕ) → l + n ≤ 8 → ((k : ℕ) → k < n → b (from + k) ≡ eqb (x / 2 ^ (7 - (l + k)) % 2) 1)
    → set_bits b from n ≡ ones (x / 2 ^ (8 - l - n) % 2 ^ n)
unfolding set_bits ones
run_in_byte b x from l zero h e = sym (ap ones (mod-one (x / 2 ^ (8 - l - 0))))
run_in_byte b x from l (suc n) h e =
    let k : ℕ = 8 - l - suc n in
    let y : ℕ = x / 2 ^ k in
    let top : 7 - (l + 0) ≡ k + n = omega arith in
    let rest : 8 - (l + 1) - n ≡ k = omega arith in
    let two : zero < 2 = omega arith in
    let first : cond (b from) 1 0 ≡ ones (y / 2 ^ n % 2) =
    ap (λ (i : ℕ). cond (b i) 1 0) (sym (add-zero from)) ∙ ap (λ (t : Bool). cond t 1 0) (e 0 (zero-lt-suc n))
    ∙ digit (x / 2 ^ (7 - (l + 0)) % 2) (mod-lt (x / 2 ^ (7 - (l + 0))) two)
    ∙ ap (λ (j : ℕ). ones (x / 2 ^ j % 2)) top ∙ ap (λ (z : ℕ). ones (z % 2)) (sym (shr-shr x k n)) in
    let others : set_bits b (suc from) n ≡ ones (y % 2 ^ n) =
    run_in_byte b x (suc from) (l + 1) n (omega arith)
    (λ i g. ap b (suc-add from i ∙ sym (add-suc from i)) ∙ e (suc i) (omega arith) ∙ ap (λ (j : ℕ). eqb (x / 2 ^ (7 - j) % 2) 1) (add-suc l i ∙ sym (suc-add l i) ∙ ap (λ (z : ℕ). z + i) (sym (add-one l))))
    ∙ ap (λ (j : ℕ). ones (x / 2 ^ j % 2 ^ n)) rest in
    ap₂ (◌+◌) first others
    ∙ sym (ones_cat n (y / 2 ^ n % 2) (y % 2 ^ n) (mod-lt y (pow_pos n)))
    ∙ ap ones (sym (mod-pow-add y 1 n))
    ∙ ap (λ (j : ℕ). ones (y % 2 ^ j)) (one-add n)

-- a run of bits of a row that stays in one byte
pub run_in_row : (table : List ℕ) (at c n : ℕ) → c % 8 + n ≤ 8
    → set_bits (row_bit table at) c n ≡ ones (get_or table (at + c / 8) 0 / 2 ^ (8 - c % 8 - n) % 2 ^ n)
run_in_row table at c n h =
    run_in_byte (row_bit table at) (get_or table (at + c / 8) 0) c (c % 8) n h
    (λ k g. ap₂ (λ (i j : ℕ). eqb (get_or table (at + i) 0 / 2 ^ j % 2) 1) (omega arith) (omega arith))

-- the first bits of a run, where they stay in one byte, and those after them
pub first_in_byte : (table : List ℕ) (at c n m : ℕ) → m ≤ n → c % 8 + m ≤ 8
    → set_bits (row_bit table at) c n
    ≡ ones (get_or table (at + c / 8) 0 / 2 ^ (8 - c % 8 - m) % 2 ^ m) + set_bits (row_bit table at) (c + m) (n - m)
first_in_byte table at c n m less fits =
    let b : ℕ → Bool = row_bit table at in
    ap (set_bits b c) (sym (add-sub_of_le less))
    ∙ set_bits_add b c m (n - m)
    ∙ ap (λ (x : ℕ). x + set_bits b (c + m) (n - m)) (run_in_row table at c m fits)

-- a shift of 1 by at most 8 is a power
pub one_shifted : (k : ℕ) → k ≤ 8 → (1 * 2 ^ k) % 2 ^ 32 ≡ 2 ^ k
one_shifted k h = shl_exact {a = 1} 1 k 32 (omega arith) (omega arith) ∙ one-mul (2 ^ k)

-- a byte masked to the n bits from bit l on has as many ones as those bits
pub masked : (x l n : ℕ) → l + n ≤ 8 → ones (bit_and x ((1 * 2 ^ (8 - l)) % 2 ^ 32 - (1 * 2 ^ (8 - l - n)) % 2 ^ 32)) ≡ ones (x / 2 ^ (8 - l - n) % 2 ^ n)
unfolding ones
masked x l n h =
    let k : ℕ = 8 - l - n in
    let high : (1 * 2 ^ (8 - l)) % 2 ^ 32 ≡ 2 ^ (n + k) = one_shifted (8 - l) (omega arith) ∙ ap (λ (j : ℕ). 2 ^ j) (omega arith) in
    ap₂ (λ (i j : ℕ). ones (bit_and x (i - j))) high (one_shifted k (omega arith))
    ∙ ap ones (and_high x n k ∙ sym (add-zero (x / 2 ^ k % 2 ^ n * 2 ^ k)))
    ∙ ones_cat k (x / 2 ^ k % 2 ^ n) zero (pow_pos k)
    ∙ add-zero (ones (x / 2 ^ k % 2 ^ n))
