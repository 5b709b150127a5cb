-- The example's sheet is read as "any of: byte addr is val0; byte addr is val1", and what obeys it is `app_valid`, for every address of 16 bits and any two
-- bytes. Each field lies in at most three bytes, so it is a quotient and a remainder of their number. Assumes nothing.
use Prim.Native.Nat.{ℕ, zero, suc, ◌+◌, ◌-◌, ◌*◌, ◌/◌, ◌%◌, ◌^◌, ◌≤◌, ◌<◌}
use native.Mathlib.Decide.{dec_lt}
use native.Mathlib.Omega.{arith}
use mathlib.Core.Path.{◌≡◌, refl, ap, ◌∙◌}
use mathlib.Core.Bool.{Bool, true, false, ◌&&◌, ◌||◌, and-false}
use mathlib.Core.List.{List, [], ◌∷◌}
use mathlib.Core.Option.{some}
use lib.Dec.{leb, ltb, eqb}
use lib.ListN.{length, get_or}
use borrow.Author.Tests.{le-leb, lt-leb, eq-eqb, ne_eqb}
use Rattle.bits.specs.Bits.{got, byte_bits, bit_count, field, read_field}
use Rattle.bits.proofs.Window.{word, word_field}
use Rattle.bits.proofs.Reading.{field_there}
use Rattle.sheet.specs.Sheet.{address_bits, clause, range, clause_holds, empty_holds, join, holds, well_formed, obeys}
use Rattle.sheet.specs.Sheet.{read_tagged, read_entry, read_members, read_rest, read_rule, read_edition, filling, read_filling, read_whole, read_sheet}
use Rattle.sheet.proofs.Reading.{entry_range}
use Rattle.rounds.specs.Valid.{app_valid, app_rule, app_sheet}

-- a list of bytes, entry by entry
abbrev Bytes : List ℕ → Type 0
Bytes [] = 0 ≤ 0
Bytes (b ∷ s) = (b < 2 ^ byte_bits) × Bytes s

byte_at : (s : List ℕ) → Bytes s → (j : ℕ) → get_or s j 0 < 2 ^ byte_bits
byte_at [] h j = omega arith
byte_at (b ∷ s) h zero = h.0
byte_at (b ∷ s) h (suc j) = byte_at s h.1 j

-- what a range clause at a bit position is read from
module _ (s : List ℕ) where
  there : (n at : ℕ) {v : ℕ} → at + n ≤ bit_count s → field s at n ≡ v → read_field n s at ≡ got v (at + n)
  there n at h e = field_there n s at h ∙ ap (λ (x : ℕ). got x (at + n)) e

  range_read : (levels at : ℕ) {p₁ p₂ p₃ p₄ a low high : ℕ} → read_field 2 s at ≡ got 0 p₁
      → read_field 16 s p₁ ≡ got a p₂ → read_field 8 s p₂ ≡ got low p₃ → read_field 8 s p₃ ≡ got high p₄
      → read_rule (suc levels) s at ≡ got (clause (range a low high)) p₄
  unfolding read_rule read_rest
  range_read levels at tag a l h = rw (entry_range s at tag refl, a, l, h)

module _ (addr val0 val1 : ℕ) (fits : addr < 2 ^ address_bits) (byte0 : val0 < 2 ^ byte_bits) (byte1 : val1 < 2 ^ byte_bits) where
  abbrev s : List ℕ
  s = app_sheet addr val0 val1

  bytes : Bytes s
  bytes = omega arith

  by_word : (i m r n : ℕ) → r + n ≤ 8 * m → field s (8 * i + r) n ≡ word s i m / 2 ^ (8 * m - (r + n)) % 2 ^ n
  by_word = word_field s (byte_at s bytes)

  tag : field s 4 2 ≡ 3
  unfolding field
  tag = refl

  count : field s 6 6 ≡ 2
  unfolding word
  count = by_word 0 2 6 6 (omega arith) ∙ omega arith

  first_tag : field s 12 2 ≡ 0
  unfolding word
  first_tag = by_word 1 1 4 2 (omega arith) ∙ omega arith

  first_address : field s 14 16 ≡ addr
  unfolding word
  first_address = by_word 1 3 6 16 (omega arith) ∙ omega arith

  first_low : field s 30 8 ≡ val0
  unfolding word
  first_low =
      let shifted : word s 3 2 / 4 ≡ addr % 64 * 256 + val0 = omega arith in
      by_word 3 2 6 8 (omega arith) ∙ omega (arith, shifted)

  first_high : field s 38 8 ≡ val0
  unfolding word
  first_high = by_word 4 2 6 8 (omega arith) ∙ omega arith

  second_tag : field s 46 2 ≡ 0
  unfolding word
  second_tag = by_word 5 1 6 2 (omega arith) ∙ omega arith

  second_address : field s 48 16 ≡ addr
  unfolding word
  second_address = by_word 6 2 0 16 (omega arith) ∙ omega arith

  second_low : field s 64 8 ≡ val1
  unfolding word
  second_low = by_word 8 1 0 8 (omega arith) ∙ omega arith

  second_high : field s 72 8 ≡ val1
  unfolding word
  second_high = by_word 9 1 0 8 (omega arith) ∙ omega arith

  first_read : (levels : ℕ) → read_rule (suc levels) s 12 ≡ got (clause (range addr val0 val0)) 46
  first_read levels =
      range_read s levels 12 (there s 2 12 (omega arith) first_tag) (there s 16 14 (omega arith) first_address)
      (there s 8 30 (omega arith) first_low) (there s 8 38 (omega arith) first_high)

  second_read : (levels : ℕ) → read_rule (suc levels) s 46 ≡ got (clause (range addr val1 val1)) 80
  second_read levels =
      range_read s levels 46 (there s 2 46 (omega arith) second_tag) (there s 16 48 (omega arith) second_address)
      (there s 8 64 (omega arith) second_low) (there s 8 72 (omega arith) second_high)

  rule_read : read_rule 8 s 4 ≡ got (app_rule addr val0 val1) 80
  unfolding read_rule read_entry read_tagged read_rest read_members
  rule_read = rw (there s 2 4 {v = 3} (omega arith) tag, there s 6 6 (omega arith) count, first_read 6, second_read 6)

  pub app_sheet_read : read_sheet s ≡ some (app_rule addr val0 val1)
  unfolding read_sheet read_whole read_edition read_filling filling field
  app_sheet_read = rw (there s 4 0 {v = 1} (omega arith) refl, rule_read)

  pub app_sheet_formed : well_formed s ≡ true
  unfolding well_formed
  app_sheet_formed = rw app_sheet_read

  -- a byte from v to v is v
  between : (v b : ℕ) → (leb v b && leb b v) ≡ eqb b v
  between v b = go (dec_lt b v) (dec_lt v b)
    where
      go : Dec (b < v) → Dec (v < b) → (leb v b && leb b v) ≡ eqb b v
      go (yes below) d = rw (lt-leb v b below, ne_eqb b v (λ e. omega arith))
      go (no l) (yes above) = rw (lt-leb b v above, ne_eqb b v (λ e. omega arith)) (and-false (leb v b))
      go (no l) (no r) = rw (le-leb v b (omega arith), le-leb b v (omega arith), eq-eqb b v (omega arith))

  either : (t x y : Bool) → ((t && x) || ((t && y) || false)) ≡ (t && (x || y))
  either true true y = refl
  either true false true = refl
  either true false false = refl
  either false x y = refl

  pub sheet_says_valid : (before after : List ℕ) → obeys s before after ≡ app_valid addr val0 val1 after
  unfolding obeys holds clause_holds join empty_holds app_valid
  sheet_says_valid before after =
      let b = get_or after addr 0 in
      rw (app_sheet_read, between val0 b, between val1 b) (either (ltb addr (length after)) (eqb b val0) (eqb b val1))
