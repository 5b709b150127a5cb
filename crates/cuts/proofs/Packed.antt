-- A packed row, wherever it lies in a table, has the row's bits, zero filling, and only bytes. Assumes nothing.
use Prim.Native.Nat.{ℕ, zero, suc, ◌+◌, ◌-◌, ◌*◌, ◌/◌, ◌%◌, ◌^◌, ◌<◌}
use native.Mathlib.Decide.{dec_lt}
use native.Mathlib.Omega.{arith}
use mathlib.Core.Path.{◌≡◌, sym, ap, ◌∙◌}
use mathlib.Core.Bool.{Bool, true, false}
use mathlib.Core.List.{List, [], ◌∷◌, ◌++◌}
use lib.Dec.{lit<}
use lib.ListN.{length, get_or, get_or-append, get_or-eq_default}
use lib.Seq.{ext_get_or, get_or-append-add}
use Rattle.region.specs.Tab.{tab}
use Rattle.region.proofs.Tab.{length_tab, get_or_tab}
use Rattle.pieces.specs.Choice.{keeps_point}
use Rattle.pieces.specs.Rows.{byte_bits, row_bytes, row_bit, row_at, row_filled}
use Rattle.pieces.proofs.Filling.{filled_exactly}
use Rattle.cuts.specs.Packed.{packed_byte, packed_row, AreBytes}
use Rattle.cuts.proofs.Digits.{bit_of_top_bit_first, top_bit_first_lt}

bit_of_packed_byte : (row : List Bool) (c : ℕ) → keeps_point (packed_byte row (c / byte_bits)) (byte_bits - 1 - c % byte_bits) ≡ get_or row c false
unfolding packed_byte
bit_of_packed_byte row c =
    let e : c / byte_bits * byte_bits + c % byte_bits ≡ c = omega arith in
    bit_of_top_bit_first (λ i. get_or row i false) (c / byte_bits * byte_bits) byte_bits (c % byte_bits) (omega arith) ∙ ap (λ i. get_or row i false) e

pub length_packed_row : (K : ℕ) (row : List Bool) → length (packed_row K row) ≡ row_bytes K
unfolding packed_row
length_packed_row K row = length_tab (packed_byte row) (row_bytes K)

module _ (K : ℕ) (before : List ℕ) (row : List Bool) (after : List ℕ) where
  -- the table with the packed row in it
  abbrev table : List ℕ
  table = before ++ (packed_row K row ++ after)

  bit_of_packed_row : (c : ℕ) → c < row_bytes K * byte_bits → row_bit table (length before) c ≡ get_or row c false
  unfolding packed_row
  bit_of_packed_row c h =
      let k : c / 8 < row_bytes K = omega arith in
      ap (λ x. keeps_point x (byte_bits - 1 - c % byte_bits))
      (get_or-append-add before (packed_row K row ++ after) (c / byte_bits) 0
      ∙ get_or-append (packed_row K row) after 0 (c / byte_bits) (rw length_packed_row k) ∙ get_or_tab (packed_byte row) (row_bytes K) (c / byte_bits) 0 k)
      ∙ bit_of_packed_byte row c

  module _ (width : length row ≡ K) where
    pub row_at_packed : row_at K table (length before) ≡ row
    unfolding row_at
    row_at_packed =
        let long = length_tab (row_bit table (length before)) K in
        ext_get_or
        false
        (tab (row_bit table (length before)) K)
        row
        (long ∙ sym width)
        (λ c h. let k : c < K = rw long at h in
        get_or_tab (row_bit table (length before)) K c false k ∙ bit_of_packed_row c (omega arith))

    pub row_filled_packed : row_filled K table (length before) ≡ true
    row_filled_packed =
        (filled_exactly K table (length before)).1 (λ c l h. bit_of_packed_row c h ∙ get_or-eq_default row false (omega arith))

-- every byte of a packed row is one
bytes_of_tab : (f : ℕ → ℕ) (n : ℕ) → ((i : ℕ) → f i < 2 ^ byte_bits) → AreBytes (tab f n)
bytes_of_tab f n b i = go (dec_lt i n)
  where
    go : Dec (i < n) → get_or (tab f n) i 0 < 2 ^ byte_bits
    go (yes h) = rw (get_or_tab f n i 0 h) (b i)
    go (no h) = rw (get_or-eq_default (tab f n) 0 {n = i} (rw length_tab (omega arith))) (lit< tt)

pub bytes_of_packed_row : (K : ℕ) (row : List Bool) → AreBytes (packed_row K row)
unfolding packed_row packed_byte
bytes_of_packed_row K row = bytes_of_tab (packed_byte row) (row_bytes K) (λ k. top_bit_first_lt (λ c. get_or row c false) (k * byte_bits) byte_bits)

pub bytes_of_append : (xs ys : List ℕ) → AreBytes xs → AreBytes ys → AreBytes (xs ++ ys)
bytes_of_append [] ys a b i = b i
bytes_of_append (x ∷ xs) ys a b zero = a zero
bytes_of_append (x ∷ xs) ys a b (suc i) = bytes_of_append xs ys (λ j. a (suc j)) b i
