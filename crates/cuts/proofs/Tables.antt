-- Row tables and rows speak of the same cuts: the rows of a right table have the shape that a cut wants, and rows of that shape are those of their
-- packed table, which is right. Assumes nothing.
use Prim.Native.Nat.{ℕ, zero, suc, ◌+◌, ◌*◌, ◌<◌}
use native.Mathlib.Nat.{not-suc-le-zero, le_of_suc-le-suc, zero-lt-suc}
use native.Mathlib.Omega.{arith}
use mathlib.Core.Path.{◌≡◌, refl, sym, ap, ap₂, subst, ◌∙◌}
use mathlib.Core.Logic.{◌↔◌}
use mathlib.Core.Bool.{Bool, true}
use mathlib.Core.List.{List, [], ◌∷◌, ◌++◌, append_assoc}
use lib.Dec.{lit<}
use lib.ListN.{length, get_or, length-append}
use borrow.Author.Tests.{eq-eqb}
use Rattle.region.proofs.Tab.{length_tab}
use Rattle.pieces.specs.AsyncSpec.{AsyncView, flush_selective, CanCrash}
use Rattle.pieces.specs.Rows.{row_bytes, row_at, rows_at, rows_filled, rows_right}
use Rattle.cuts.specs.Bits.{view_chunks}
use Rattle.cuts.specs.Shape.{HasShape}
use Rattle.cuts.specs.Packed.{packed_row, packed, AreBytes}
use Rattle.cuts.proofs.Shape.{shaped_rows_crash, crash_rows_shaped}
use Rattle.cuts.proofs.Packed.{length_packed_row, row_at_packed, row_filled_packed, bytes_of_packed_row, bytes_of_append}

-- the rows of any table have the shape: its length and filling only matter for which table it is
pub rows_at_shape : (K n : ℕ) (table : List ℕ) (at : ℕ) → HasShape K n (rows_at K n table at)
unfolding rows_at row_at
rows_at_shape K n table at = record { row_for_each_write = count n at; bit_for_each_chunk = width n at }
  where
    count : (n at : ℕ) → length (rows_at K n table at) ≡ n
    count zero at = refl
    count (suc n) at = ap suc (count n (at + row_bytes K))

    width : (n at j : ℕ) → j < length (rows_at K n table at) → length (get_or (rows_at K n table at) j []) ≡ K
    width zero at j h = absurd (not-suc-le-zero h)
    width (suc n) at zero h = length_tab _ K
    width (suc n) at (suc j) h = width n (at + row_bytes K) j (le_of_suc-le-suc h)

module _ (K : ℕ) where
  tail_shape : (row : List Bool) (rows : List (List Bool)) → HasShape K (suc (length rows)) (row ∷ rows) → HasShape K (length rows) rows
  tail_shape row rows h = record { row_for_each_write = refl; bit_for_each_chunk = λ j k. h.bit_for_each_chunk (suc j) (omega arith) }

  -- the packed rows behind other bytes: read back, they are the rows, and their filling is zero
  packed_behind : (before : List ℕ) (rows : List (List Bool)) → HasShape K (length rows) rows
      → (rows_at K (length rows) (before ++ packed K rows) (length before) ≡ rows)
      × (rows_filled K (length rows) (before ++ packed K rows) (length before) ≡ true)
  unfolding rows_at rows_filled packed
  packed_behind before [] h = (refl, refl)
  packed_behind before (row ∷ rows) h =
      let width : length row ≡ K = h.bit_for_each_chunk 0 (zero-lt-suc (length rows)) in
      let here = row_at_packed K before row (packed K rows) width in
      let filled = row_filled_packed K before row (packed K rows) width in
      let long : length (before ++ packed_row K row) ≡ length before + row_bytes K = simp (length-append, length_packed_row) in
      let rest = rw (append_assoc before (packed_row K row) (packed K rows), long) at (packed_behind (before ++ packed_row K row) rows (tail_shape row rows h)) in
      (ap₂ (◌∷◌) here rest.0, rw filled rest.1)

  length_packed : (rows : List (List Bool)) → length (packed K rows) ≡ length rows * row_bytes K
  unfolding packed
  length_packed [] = omega arith
  length_packed (row ∷ rows) = rw (length-append (packed_row K row) (packed K rows), length_packed_row, length_packed rows) (omega arith)

  bytes_of_packed : (rows : List (List Bool)) → AreBytes (packed K rows)
  unfolding packed
  bytes_of_packed [] = λ i. lit< tt
  bytes_of_packed (row ∷ rows) = bytes_of_append (packed_row K row) (packed K rows) (bytes_of_packed_row K row) (bytes_of_packed rows)

  -- rows of the right shape are the rows of a right table
  pub packed_is_right : (n : ℕ) (rows : List (List Bool)) → HasShape K n rows
      → AreBytes (packed K rows) × (rows_right K n (packed K rows) ≡ true) × (rows_at K n (packed K rows) 0 ≡ rows)
  packed_is_right n rows h = subst (λ x. AreBytes (packed K rows) × (rows_right K x (packed K rows) ≡ true) × (rows_at K x (packed K rows) 0 ≡ rows)) h.row_for_each_write exact
    where
      read : (rows_at K (length rows) (packed K rows) 0 ≡ rows) × (rows_filled K (length rows) (packed K rows) 0 ≡ true)
      read = packed_behind [] rows (record { row_for_each_write = refl; bit_for_each_chunk = h.bit_for_each_chunk })

      exact : AreBytes (packed K rows) × (rows_right K (length rows) (packed K rows) ≡ true) × (rows_at K (length rows) (packed K rows) 0 ≡ rows)
      exact = (bytes_of_packed rows, rw (eq-eqb (length (packed K rows)) (length rows * row_bytes K) (length_packed rows)) read.1, read.0)

-- a cut by a right table leaves what some rows leave, and the other way round
pub tables_cover : (C : ℕ) (v : AsyncView) (x : List ℕ)
    → CanCrash C v x
    ↔ ((table : List ℕ)
    × AreBytes table
    × (rows_right (view_chunks C v) (length v.outstanding_writes) table ≡ true)
    × (x ≡ flush_selective C v (rows_at (view_chunks C v) (length v.outstanding_writes) table 0)))
tables_cover C v x = (to, from)
  where
    K : ℕ
    K = view_chunks C v

    n : ℕ
    n = length v.outstanding_writes

    to : CanCrash C v x → (table : List ℕ) × AreBytes table × (rows_right K n table ≡ true) × (x ≡ flush_selective C v (rows_at K n table 0))
    to (rows, h) =
        let right = packed_is_right K n rows (crash_rows_shaped C v x rows h) in
        (packed K rows, right.0, right.1, h.leaves ∙ ap (flush_selective C v) (sym right.2))

    from : ((table : List ℕ) × AreBytes table × (rows_right K n table ≡ true) × (x ≡ flush_selective C v (rows_at K n table 0))) → CanCrash C v x
    from (table, b, r, e) = (rows_at K n table 0, rw e (shaped_rows_crash C v (rows_at K n table 0) (rows_at_shape K n table 0)))
