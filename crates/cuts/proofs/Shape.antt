-- Rows of the right shape are what CanCrashAs speaks of: each leaves its own replay. Assumes nothing.
use Prim.Native.Nat.{ℕ, suc, ◌<◌}
use native.Mathlib.Decide.{dec_lt}
use native.Mathlib.Omega.{arith}
use mathlib.Core.Path.{◌≡◌, refl, sym, ap, ◌∙◌}
use mathlib.Core.Bool.{Bool}
use mathlib.Core.List.{List, [], ◌∷◌, ◌++◌}
use native.Mathlib.Numerals.{add-one}
use lib.ListN.{length, get_or, take, length-append, get_or-append}
use lib.Seq.{get_or_at, get_or-take, take-suc, take_all, length-take-le}
use Rattle.pieces.specs.AsyncSpec.{AsyncView, flush_selective, CanCrashAs}
use Rattle.cuts.specs.Bits.{view_chunks}
use Rattle.cuts.specs.Shape.{HasShape}
use Rattle.cuts.proofs.Lengths.{length_flush_selective}

pub shaped_rows_crash : (C : ℕ) (v : AsyncView) (rows : List (List Bool)) → HasShape (view_chunks C v) (length v.outstanding_writes) rows
    → CanCrashAs C v (flush_selective C v rows) rows
shaped_rows_crash C v rows h =
    record {
      same_length = length_flush_selective C v rows;
      row_for_each_write = h.row_for_each_write;
      bit_for_each_chunk = h.bit_for_each_chunk;
      leaves = refl;
    }

pub crash_rows_shaped : (C : ℕ) (v : AsyncView) (x : List ℕ) (rows : List (List Bool)) → CanCrashAs C v x rows
    → HasShape (view_chunks C v) (length v.outstanding_writes) rows
crash_rows_shaped C v x rows h = record { row_for_each_write = h.row_for_each_write; bit_for_each_chunk = h.bit_for_each_chunk }

module _ (K n : ℕ) where
  -- one row more
  pub shape_of_one_more : (rows : List (List Bool)) (row : List Bool) → HasShape K n rows → length row ≡ K → HasShape K (suc n) (rows ++ (row ∷ []))
  shape_of_one_more rows row h l =
      record { row_for_each_write = long ∙ ap suc h.row_for_each_write; bit_for_each_chunk = λ j b. each j (rw long at b) (dec_lt j (length rows)) }
    where
      long : length (rows ++ (row ∷ [])) ≡ suc (length rows)
      long = length-append rows (row ∷ []) ∙ add-one (length rows)

      each : (j : ℕ) → j < suc (length rows) → Dec (j < length rows) → length (get_or (rows ++ (row ∷ [])) j []) ≡ K
      each j b (yes k) = rw get_or-append (h.bit_for_each_chunk j k)
      each j b (no k) = rw (get_or_at rows row [] [] j (omega arith)) l

  -- one row less: the rows before the last, and the last
  pub last_row : (rows : List (List Bool)) → HasShape K (suc n) rows → rows ≡ take n rows ++ (get_or rows n [] ∷ [])
  last_row rows h =
      let l : length rows ≡ suc n = h.row_for_each_write in
      sym (take_all (suc n) rows (omega arith)) ∙ take-suc rows n [] (omega arith)

  pub shape_of_one_less : (rows : List (List Bool)) → HasShape K (suc n) rows → HasShape K n (take n rows)
  shape_of_one_less rows h =
      let l : length rows ≡ suc n = h.row_for_each_write in
      let long : length (take n rows) ≡ n = length-take-le n rows (omega arith) in
      record {
        row_for_each_write = long;
        bit_for_each_chunk = λ j b. rw (get_or-take n rows j [] (omega arith)) (h.bit_for_each_chunk j (omega arith));
      }
