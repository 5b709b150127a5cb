-- A table of bytes is right exactly if it is the packing of the rows that it says, or of any rows of the right shape. So the test of a table's length
-- and filling lets no other bytes through, and refuses no packing. Assumes nothing.
use Prim.Native.Nat.{ℕ, zero, suc, ◌+◌, ◌-◌, ◌*◌, ◌/◌, ◌%◌, ◌≤◌, ◌<◌}
use native.Mathlib.Decide.{dec_lt}
use native.Mathlib.Omega.{arith}
use mathlib.Core.Path.{◌≡◌, sym, ap₂, subst, ◌∙◌}
use mathlib.Core.Logic.{◌↔◌, by_cases}
use mathlib.Core.Bool.{true, false}
use mathlib.Core.List.{List, [], ◌++◌}
use lib.ListN.{length, get_or, take, drop, length-drop, take-append-drop, get_or-eq_default}
use lib.Seq.{ext_get_or, get_or-take, get_or-drop, drop-drop, length-take-le}
use borrow.Author.Tests.{eqb-true}
use Rattle.region.proofs.Booleans.{both}
use Rattle.region.proofs.Tab.{length_tab, get_or_tab}
use Rattle.pieces.specs.Rows.{byte_bits, row_bytes, row_bit, row_at, rows_at, row_filled, rows_filled, rows_right}
use Rattle.pieces.specs.Choice.{keeps_point}
use Rattle.pieces.proofs.RowBits.{row_at_bit}
use Rattle.pieces.proofs.Filling.{filled_exactly}
use Rattle.cuts.specs.Packed.{packed_byte, packed_row, packed, AreBytes, PacksItsRows, PacksSomeRows}
use Rattle.cuts.proofs.Digits.{top_bit_first_of_number}
use Rattle.cuts.proofs.Packed.{length_packed_row}
use Rattle.cuts.proofs.Tables.{rows_at_shape, packed_is_right}

module _ (K : ℕ) (table : List ℕ) (bytes : AreBytes table) where
  -- a filled row packed again: its bits are those of the table, and behind them both have zeros
  module _ (at : ℕ) (filled : row_filled K table at ≡ true) where
    bit_again : (c : ℕ) → c < row_bytes K * byte_bits → get_or (row_at K table at) c false ≡ row_bit table at c
    unfolding row_at
    bit_again c h =
        by_cases (dec_lt c K)
        (λ in_row. row_at_bit K table at c in_row)
        (λ past.
        get_or-eq_default (row_at K table at) false {n = c} (rw (length_tab (row_bit table at) K) (omega arith))
        ∙ sym ((filled_exactly K table at).0 filled c (omega arith) h))

    byte_again : (k : ℕ) → k < row_bytes K → packed_byte (row_at K table at) k ≡ get_or table (at + k) 0
    unfolding packed_byte
    byte_again k h =
        top_bit_first_of_number (λ c. get_or (row_at K table at) c false) (k * byte_bits) byte_bits (get_or table (at + k) 0) (bytes (at + k))
        (λ p l.
        let byte : (k * byte_bits + p) / byte_bits ≡ k = omega arith in
        let place : (k * byte_bits + p) % byte_bits ≡ p = omega arith in
        bit_again (k * byte_bits + p) (omega arith)
        ∙ ap₂ (λ (i j : ℕ). keeps_point (get_or table (at + i) 0) (byte_bits - 1 - j)) byte place)

    row_again : at + row_bytes K ≤ length table → packed_row K (row_at K table at) ≡ take (row_bytes K) (drop at table)
    unfolding packed_row
    row_again there =
        let rest : length (drop at table) ≡ length table - at = length-drop at table in
        let long = length_packed_row K (row_at K table at) in
        ext_get_or
        0
        (packed_row K (row_at K table at))
        (take (row_bytes K) (drop at table))
        (long ∙ sym (length-take-le (row_bytes K) (drop at table) (omega arith)))
        (λ k h. let inside : k < row_bytes K = rw long at h in
        get_or_tab (packed_byte (row_at K table at)) (row_bytes K) k 0 inside
        ∙ byte_again k inside ∙ sym (get_or-take (row_bytes K) (drop at table) k 0 inside ∙ get_or-drop at table k 0))

  -- the rows from a place on, packed again, are the table from there on
  rows_again : (n at : ℕ) → length table ≡ at + n * row_bytes K → rows_filled K n table at ≡ true → packed K (rows_at K n table at) ≡ drop at table
  unfolding rows_filled rows_at packed
  rows_again zero at long filled =
      ext_get_or 0 [] (drop at table) (sym (length-drop at table ∙ omega arith)) (λ i h. absurd (omega arith))
  rows_again (suc n) at long filled =
      let each = both (row_filled K table at) (rows_filled K n table (at + row_bytes K)) filled in
      ap₂ (◌++◌)
      (row_again at each.0 (omega arith))
      (rows_again n (at + row_bytes K) (omega arith) each.1 ∙ sym (drop-drop (row_bytes K) at table))
      ∙ take-append-drop (row_bytes K) (drop at table)

  right_is_packed : (n : ℕ) → rows_right K n table ≡ true → table ≡ packed K (rows_at K n table 0)
  right_is_packed n right =
      let parts = both _ (rows_filled K n table 0) right in
      sym (rows_again n 0 (eqb-true (length table) (n * row_bytes K) parts.0 ∙ omega arith) parts.1)

  -- so a table that is right is the packing of its rows, and nothing else is right
  pub right_exactly : (n : ℕ) → rows_right K n table ≡ true ↔ PacksItsRows K n table
  right_exactly n = (
    right_is_packed n,
    λ again. subst (λ t. rows_right K n t ≡ true) (sym again) (packed_is_right K n (rows_at K n table 0) (rows_at_shape K n table 0)).1,
  )

  -- nor need the rows be read off the table: any of the right shape will do
  pub right_is_some_packing : (n : ℕ) → rows_right K n table ≡ true ↔ PacksSomeRows K n table
  right_is_some_packing n = (
    λ right. (rows_at K n table 0, rows_at_shape K n table 0, right_is_packed n right),
    λ (rows, shape, e). subst (λ t. rows_right K n t ≡ true) (sym e) (packed_is_right K n rows shape).1,
  )
