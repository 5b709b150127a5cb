-- Reading a field is the way back from writing it out, and the bits of bytes are all that stands in them. Assumes nothing.
use mathlib.Core.Path.{◌≡◌, refl, sym, ap, ◌∙◌, subst}
use mathlib.Core.Logic.{◌↔◌}
use mathlib.Core.List.{List, [], ◌∷◌, ◌++◌}
use Prim.Native.Nat.{ℕ, zero, suc, ◌+◌, ◌-◌, ◌*◌, ◌/◌, ◌%◌, ◌^◌, ◌<◌, ◌≤◌}
use native.Mathlib.Nat.{pow-suc, add-zero, add-suc, mod-lt, div-one}
use native.Mathlib.Numerals.{add-one}
use native.Mathlib.Omega.{arith}
use lib.Arith.{digits_div, digits_mod}
use lib.Dec.{leb, lit<}
use lib.ListN.{replicate, replicate-append-replicate}
use lib.Pow.{shr-shr}
use borrow.Author.Tests.{leb-true}
use Rattle.bits.specs.Bits.{byte_bits, bit, bit_count, field, got, read_field}
use Rattle.bits.specs.Binary.{binary, bits_of}
use Rattle.bits.proofs.Reading.{field_there, field_lt, only_if_got}

-- From bit `at` on stand the bits xs, and then comes `next`.
pub data Spelled (s : List ℕ) : (at : ℕ) (xs : List ℕ) (next : ℕ) → Type 0 where
  ends : {at : ℕ} → at ≤ bit_count s → Spelled s at [] at
  goes : {at : ℕ} {x : ℕ} {xs : List ℕ} {next : ℕ} → bit s at ≡ x → Spelled s (suc at) xs next → Spelled s at (x ∷ xs) next

bit_lt : (s : List ℕ) (i : ℕ) → bit s i < 2
bit_lt s i = mod-lt _ (lit< tt)

module _ (s : List ℕ) where
  pub spelled_in : {xs : List ℕ} {at next : ℕ} → Spelled s at xs next → (at ≤ next) × (next ≤ bit_count s)
  spelled_in (ends h) = (omega arith, h)
  spelled_in (goes e p) = let q = spelled_in p in (omega (arith, q.0), q.1)

  pub spelled_append : {xs ys : List ℕ} {at mid next : ℕ} → Spelled s at xs mid → Spelled s mid ys next → Spelled s at (xs ++ ys) next
  spelled_append (ends h) q = q
  spelled_append (goes e p) q = goes e (spelled_append p q)

  pub spelled_split : (xs ys : List ℕ) {at next : ℕ} → Spelled s at (xs ++ ys) next → (mid : ℕ) × Spelled s at xs mid × Spelled s mid ys next
  spelled_split [] ys {at} p = let b = spelled_in p in (at, ends {at = at} (omega (arith, b.0, b.1)), p)
  spelled_split (x ∷ xs) ys (goes e p) = let q = spelled_split xs ys p in (q.0, goes e q.1, q.2)

  -- what stands between two places is one list
  spelled_between : {xs ys : List ℕ} {at at' next next' : ℕ} → Spelled s at xs next → Spelled s at' ys next' → at ≡ at' → next ≡ next' → xs ≡ ys
  spelled_between (ends h) (ends k) a n = refl
  spelled_between (ends h) (goes e q) a n = absurd (omega (arith, (spelled_in q).0))
  spelled_between (goes e p) (ends h) a n = absurd (omega (arith, (spelled_in p).0))
  spelled_between (goes d p) (goes e q) a n = rw (sym d, sym e, a, spelled_between p q (ap suc a) n)

  spelled_once : {xs ys : List ℕ} {at next : ℕ} → Spelled s at xs next → Spelled s at ys next → xs ≡ ys
  spelled_once p q = spelled_between p q refl refl

  one_bit : (at : ℕ) {b : ℕ} → at < bit_count s → bit s at ≡ b → Spelled s at (b ∷ []) (suc at)
  one_bit at h e = goes e (ends h)

  -- A field.

  pub field_is_spelled : (n at : ℕ) → at + n ≤ bit_count s → Spelled s at (binary n (field s at n)) (at + n)
  unfolding binary field
  field_is_spelled zero at h = rw (add-zero at) (ends {at = at} (omega arith))
  field_is_spelled (suc n) at h =
      rw (digits_div (field s at n) (bit_lt s (at + n)), digits_mod (field s at n) (bit_lt s (at + n)), add-suc at n)
      (spelled_append (field_is_spelled n at (omega arith)) (one_bit (at + n) (omega arith) refl))

  last_bit : {mid x next : ℕ} → Spelled s mid (x ∷ []) next → (bit s mid ≡ x) × (suc mid ≡ next) × (next ≤ bit_count s)
  last_bit (goes e (ends h)) = (e, refl, h)

  pub spelled_is_field : (n v at next : ℕ) → v < 2 ^ n → Spelled s at (binary n v) next → (field s at n ≡ v) × (at + n ≡ next) × (next ≤ bit_count s)
  unfolding binary field
  spelled_is_field zero v at next h (ends k) = (omega arith, add-zero at, k)
  spelled_is_field (suc n) v at next h p =
      let double : 2 ^ suc n ≡ 2 ^ n * 2 = pow-suc 2 n in
      let parts = spelled_split (binary n (v / 2)) (v % 2 ∷ []) p in
      let fore = spelled_is_field n (v / 2) at parts.0 (omega (arith, double)) parts.1 in
      let last = last_bit parts.2 in
      let odd : bit s (at + n) ≡ v % 2 = ap (λ (k : ℕ). bit s k) fore.1 ∙ last.0 in
      (rw (fore.0, odd) (omega arith), omega (arith, fore.1, last.1), last.2)

  field_there_spelled : (n at : ℕ) {v next : ℕ} → read_field n s at ≡ got v next → (v < 2 ^ n) × Spelled s at (binary n v) next
  unfolding read_field
  field_there_spelled n at {v} {next} e =
      let read = only_if_got (leb (at + n) (bit_count s)) (got (field s at n) (at + n)) e in
      let inside : at + n ≤ bit_count s = leb-true (at + n) (bit_count s) read.0 in
      let whole = read.1 in
      let value : field s at n ≡ v = cc in
      let end : at + n ≡ next = cc in
      rw (sym value, sym end) (field_lt s at n, field_is_spelled n at inside)

  -- A field is read exactly if its value fits and stands there, written out.
  pub field_exactly : (n at : ℕ) {v next : ℕ} → (read_field n s at ≡ got v next) ↔ ((v < 2 ^ n) × Spelled s at (binary n v) next)
  field_exactly n at {v} {next} = (field_there_spelled n at, back)
    where
      back : (v < 2 ^ n) × Spelled s at (binary n v) next → read_field n s at ≡ got v next
      back p =
          let f = spelled_is_field n v at next p.0 p.1 in
          field_there n s at (omega (arith, f.1, f.2)) ∙ rw (f.0, f.1)

  -- a number whose bits stand there one by one, whatever it has above them
  bits_are_spelled : (n v at : ℕ) → at + n ≤ bit_count s → ((i : ℕ) → i < n → bit s (at + i) ≡ v / 2 ^ (n - 1 - i) % 2)
      → Spelled s at (binary n v) (at + n)
  unfolding binary
  bits_are_spelled zero v at h each = rw (add-zero at) (ends {at = at} (omega arith))
  bits_are_spelled (suc n) v at h each =
      let fore : (i : ℕ) → i < n → bit s (at + i) ≡ v / 2 / 2 ^ (n - 1 - i) % 2 = λ i k.
      let e : suc n - 1 - i ≡ 1 + (n - 1 - i) = omega arith in
      each i (omega arith) ∙ ap (λ (j : ℕ). v / 2 ^ j % 2) e ∙ ap (λ (x : ℕ). x % 2) (sym (shr-shr v 1 (n - 1 - i))) in
      let none : suc n - 1 - n ≡ 0 = omega arith in
      let last : bit s (at + n) ≡ v % 2 = each n (omega arith) ∙ rw (none, div-one v) in
      rw (add-suc at n) (spelled_append (bits_are_spelled n (v / 2) at (omega arith) fore) (one_bit (at + n) (omega arith) last))

-- one byte more in front
byte_before : (b : ℕ) {s : List ℕ} {xs : List ℕ} {at next : ℕ} → Spelled s at xs next → Spelled (b ∷ s) (byte_bits + at) xs (byte_bits + next)
byte_before b {s} (ends {at} h) = ends {at = 8 + at} (omega arith)
byte_before b {s} (goes {at} {x} e p) =
    let byte : (8 + at) / 8 ≡ suc (at / 8) = omega arith in
    let place : (8 + at) % 8 ≡ at % 8 = omega arith in
    let same : bit (b ∷ s) (8 + at) ≡ x = rw (byte, place) e in
    goes same (rw (add-suc 8 at) at (byte_before b p))

bits_are_there : (s : List ℕ) → Spelled s 0 (bits_of s) (bit_count s)
unfolding bits_of
bits_are_there [] = ends {at = 0} (omega arith)
bits_are_there (b ∷ s) =
    let first : (i : ℕ) → i < 8 → bit (b ∷ s) (0 + i) ≡ b / 2 ^ (8 - 1 - i) % 2 = λ i h.
    let byte : (0 + i) / 8 ≡ 0 = omega arith in
    let place : (0 + i) % 8 ≡ i = omega arith in
    rw (byte, place) in
    let whole : byte_bits + bit_count s ≡ bit_count (b ∷ s) = omega arith in
    rw (sym whole) (spelled_append (b ∷ s) (bits_are_spelled (b ∷ s) 8 b 0 (omega arith) first) (byte_before b (bits_are_there s)))

-- The bits of bytes are what stands in them from the first bit to the last.
pub bits_exactly : (s xs : List ℕ) → Spelled s 0 xs (bit_count s) ↔ (bits_of s ≡ xs)
bits_exactly s xs = (λ p. spelled_once s (bits_are_there s) p, λ e. subst (λ (ys : List ℕ). Spelled s 0 ys (bit_count s)) e (bits_are_there s))

-- Zero, written out.
pub binary_zero : (n : ℕ) → binary n 0 ≡ replicate n 0
unfolding binary
binary_zero zero = refl
binary_zero (suc n) = ap (λ (xs : List ℕ). xs ++ (0 ∷ [])) (binary_zero n) ∙ replicate-append-replicate n 1 0 ∙ ap (λ (k : ℕ). replicate k 0) (add-one n)
