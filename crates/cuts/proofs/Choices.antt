-- What the rows of a choice number are, bit by bit, and their shape. Assumes nothing.
use Prim.Native.Nat.{ℕ, zero, suc, ◌+◌, ◌-◌, ◌/◌, ◌^◌, ◌<◌}
use native.Mathlib.Nat.{zero-add, add-zero, add_assoc, not-suc-le-zero, le_of_suc-le-suc, div-one}
use native.Mathlib.Decide.{dec_lt}
use native.Mathlib.Omega.{arith}
use mathlib.Core.Path.{◌≡◌, refl, sym, ap, ◌∙◌}
use mathlib.Core.Bool.{true, false, ◌&&◌, false≢true}
use mathlib.Core.List.{List, [], ◌∷◌, ◌++◌}
use lib.ListN.{length, get_or, take}
use lib.Pow.{shr-shr}
use Rattle.region.proofs.Tab.{length_tab, get_or_tab, inside_below, inside_above}
use Rattle.pieces.specs.AsyncSpec.{Write, no_write, addr_to_chunk}
use Rattle.pieces.specs.Choice.{touched, points, keeps_point, row_of, rows_of}
use Rattle.cuts.specs.Bits.{write_at, row_bit_at, touches_chunk}
use Rattle.cuts.specs.Shape.{HasShape}
use Rattle.cuts.proofs.Digits.{bit_of_shift}

-- past the end of the log nothing is touched
pub nothing_touched : (C c : ℕ) → touches_chunk C no_write c ≡ false
unfolding touched
nothing_touched C c = go (dec_lt c (addr_to_chunk C 0))
  where
    go : Dec (c < addr_to_chunk C 0) → touches_chunk C no_write c ≡ false
    go (yes h) = inside_below (addr_to_chunk C 0) 0 c h
    go (no h) = inside_above (addr_to_chunk C 0) 0 c (omega arith)

-- a write that touches a chunk is in the log
pub touching_write_is_logged : (C : ℕ) (ws : List Write) (j c : ℕ) → touches_chunk C (write_at ws j) c ≡ true → j < length ws
touching_write_is_logged C [] j c k = absurd (false≢true (sym (nothing_touched C c) ∙ k))
touching_write_is_logged C (w ∷ ws) zero c k = omega arith
touching_write_is_logged C (w ∷ ws) (suc j) c k = omega (arith, touching_write_is_logged C ws j c k)

-- one write more has the points above those of the log
pub points_of_one_more : (C : ℕ) (ws : List Write) (w : Write) → points C (ws ++ (w ∷ [])) ≡ points C ws + touched C w.addr (length w.bytes)
unfolding points
points_of_one_more C [] w = add-zero _ ∙ sym (zero-add _)
points_of_one_more C (x ∷ ws) w = ap (λ p. touched C x.addr (length x.bytes) + p) (points_of_one_more C ws w) ∙ sym (add_assoc _ (points C ws) _)

module _ (C K : ℕ) where
  -- bit c of row j: the chunk is touched, and its point is kept. The points before it are those of the writes before and of the chunks below.
  pub bit_of_choice : (ws : List Write) (m j c : ℕ) → c < K
      → row_bit_at (rows_of C K ws m) j c
      ≡ (touches_chunk C (write_at ws j) c && keeps_point m (points C (take j ws) + (c - addr_to_chunk C (write_at ws j).addr)))
  unfolding rows_of row_of points
  bit_of_choice [] m j c h = rw (nothing_touched C c)
  bit_of_choice (w ∷ ws) m zero c h = get_or_tab _ K c false h ∙ rw zero-add
  bit_of_choice (w ∷ ws) m (suc j) c h =
      let t = touched C w.addr (length w.bytes) in
      let at = points C (take j ws) in
      let d = c - addr_to_chunk C (write_at ws j).addr in
      bit_of_choice ws (m / 2 ^ t) j c h
      ∙ ap (λ b. touches_chunk C (write_at ws j) c && b) (bit_of_shift m t (at + d) ∙ ap (keeps_point m) (sym (add_assoc t at d)))

  pub rows_of_shape : (ws : List Write) (m : ℕ) → HasShape K (length ws) (rows_of C K ws m)
  unfolding rows_of row_of
  rows_of_shape ws m = record { row_for_each_write = count ws m; bit_for_each_chunk = width ws m }
    where
      count : (ws : List Write) (m : ℕ) → length (rows_of C K ws m) ≡ length ws
      count [] m = refl
      count (w ∷ ws) m = ap suc (count ws (m / 2 ^ touched C w.addr (length w.bytes)))

      width : (ws : List Write) (m j : ℕ) → j < length (rows_of C K ws m) → length (get_or (rows_of C K ws m) j []) ≡ K
      width [] m j h = absurd (not-suc-le-zero h)
      width (w ∷ ws) m zero h = length_tab _ K
      width (w ∷ ws) m (suc j) h = width ws (m / 2 ^ touched C w.addr (length w.bytes)) j (le_of_suc-le-suc h)

  pub rows_of_one_more : (ws : List Write) (w : Write) (m : ℕ) → rows_of C K (ws ++ (w ∷ [])) m ≡ rows_of C K ws m ++ (row_of C K w (m / 2 ^ points C ws) ∷ [])
  unfolding rows_of points
  rows_of_one_more [] w m = rw div-one
  rows_of_one_more (x ∷ ws) w m =
      let t = touched C x.addr (length x.bytes) in
      ap (λ r. row_of C K x m ∷ r) (rows_of_one_more ws w (m / 2 ^ t) ∙ rw shr-shr)
