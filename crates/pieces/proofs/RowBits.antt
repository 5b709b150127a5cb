-- A row of the table as a list of bits, and the rows from a place on, one at a time. A loop counts down the rows that are left, so `one_less` and
-- `rows_at_more` take one row off a number that is above 0. Assumes nothing.
use Prim.Native.Nat.{ℕ, zero, suc, ◌+◌, ◌-◌, ◌*◌, ◌<◌}
use native.Mathlib.Nat.{suc-mul, add_comm, not-suc-le-zero}
use native.Mathlib.Numerals.{add-one, sub-one}
use native.Mathlib.Omega.{arith}
use mathlib.Core.Path.{◌≡◌, refl, ap, ◌∙◌}
use mathlib.Core.Bool.{Bool, false, ◌&&◌}
use mathlib.Core.List.{List, ◌∷◌}
use lib.ListN.{get_or}
use Rattle.std.specs.List.{list_all, range_with_len}
use Rattle.region.proofs.Tab.{get_or_tab}
use Rattle.pieces.specs.Rows.{row_at, row_bit, row_bytes, rows_at, row_filled, rows_filled}

pub row_at_bit : (K : ℕ) (table : List ℕ) (at c : ℕ) → c < K → get_or (row_at K table at) c false ≡ row_bit table at c
unfolding row_at
row_at_bit K table at c h = get_or_tab (row_bit table at) K c false h

-- one width less for one row less
pub one_less : (n width : ℕ) → 0 < n → n * width ≡ width + (n - 1) * width
one_less zero width h = absurd (not-suc-le-zero h)
one_less (suc n) width h = rw (sub-one (suc n), suc-mul n width) (add_comm (n * width) width)

-- a test of the rows one by one, from row k on
pub each_row_filled : (K n : ℕ) (table : List ℕ) (at k : ℕ)
    → list_all (λ i. row_filled K table (at + i * row_bytes K)) (range_with_len k n) ≡ rows_filled K n table (at + k * row_bytes K)
unfolding rows_filled
each_row_filled K zero table at k = refl
each_row_filled K (suc n) table at k =
    let width = row_bytes K in
    let next : at + (k + 1) * width ≡ at + k * width + width = rw add-one (omega (arith, suc-mul k width)) in
    ap (λ (b : Bool). row_filled K table (at + k * width) && b) (each_row_filled K n table at (k + 1) ∙ ap (rows_filled K n table) next)

pub rows_at_more : (K n : ℕ) (table : List ℕ) (at : ℕ) → 0 < n → rows_at K n table at ≡ row_at K table at ∷ rows_at K (n - 1) table (at + row_bytes K)
unfolding rows_at
rows_at_more K zero table at h = absurd (not-suc-le-zero h)
rows_at_more K (suc n) table at h = rw (sub-one (suc n))
