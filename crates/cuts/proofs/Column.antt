-- Byte i of a replay depends only on the bits of column i / C of the rows, for the writes that cover it. Assumes nothing.
use Prim.Native.Nat.{ℕ, suc, ◌-◌, ◌/◌, ◌<◌}
use native.Mathlib.Decide.{dec_lt}
use native.Mathlib.Omega.{arith}
use mathlib.Core.Path.{◌≡◌, refl, sym, ◌∙◌}
use mathlib.Core.Bool.{Bool, true, false, cond, ◌&&◌}
use mathlib.Core.List.{List, [], ◌∷◌}
use lib.ListN.{length, get_or, drop, get_or-eq_default}
use Rattle.region.specs.Pmemspec.{update_bytes}
use Rattle.region.proofs.Tab.{get_or_tab}
use Rattle.pieces.specs.AsyncSpec.{Write, apply_write, apply_write_selective, flush_writes_selective}
use Rattle.cuts.specs.Bits.{write_at, row_bit_at, covers}
use Rattle.cuts.proofs.Lengths.{length_apply_write_selective, length_flush_writes_selective}
use Rattle.cuts.proofs.Basics.{get_or_tail}

-- what stands at byte i after one write, whole or by its row
pub byte_of_write : (s : List ℕ) (w : Write) (i : ℕ) → i < length s
    → get_or (apply_write s w) i 0 ≡ cond (covers w i) (get_or w.bytes (i - w.addr) 0) (get_or s i 0)
unfolding update_bytes
byte_of_write s w i h = get_or_tab _ (length s) i 0 h

pub byte_of_selective : (C : ℕ) (s : List ℕ) (w : Write) (row : List Bool) (i : ℕ) → i < length s
    → get_or (apply_write_selective C s w row) i 0
    ≡ cond (covers w i && get_or row (i / C) false) (get_or w.bytes (i - w.addr) 0) (get_or s i 0)
unfolding apply_write_selective
byte_of_selective C s w row i h = get_or_tab _ (length s) i 0 h

same_choice : (t a b : Bool) (x y z : ℕ) → (t ≡ true → a ≡ b) → y ≡ z → cond (t && a) x y ≡ cond (t && b) x z
same_choice false a b x y z h e = e
same_choice true a b x y z h e = rw (h refl, e)

module _ (C i : ℕ) where
  column_step : (s s' : List ℕ) (w : Write) (row row' : List Bool) → i < length s → length s ≡ length s' → get_or s i 0 ≡ get_or s' i 0
      → (covers w i ≡ true → get_or row (i / C) false ≡ get_or row' (i / C) false)
      → get_or (apply_write_selective C s w row) i 0 ≡ get_or (apply_write_selective C s' w row') i 0
  column_step s s' w row row' h l e b =
      byte_of_selective C s w row i h ∙ same_choice (covers w i) (get_or row (i / C) false) (get_or row' (i / C) false) _ _ _ b e
      ∙ sym (byte_of_selective C s' w row' i (omega arith))

  column_inside : (s s' : List ℕ) (ws : List Write) (rows rows' : List (List Bool)) → i < length s → length s ≡ length s' → get_or s i 0 ≡ get_or s' i 0
      → ((j : ℕ) → covers (write_at ws j) i ≡ true → row_bit_at rows j (i / C) ≡ row_bit_at rows' j (i / C))
      → get_or (flush_writes_selective C s ws rows) i 0 ≡ get_or (flush_writes_selective C s' ws rows') i 0
  unfolding flush_writes_selective
  column_inside s s' [] rows rows' h l e b = e
  column_inside s s' (w ∷ ws) rows rows' h l e b =
      column_inside
      (apply_write_selective C s w (get_or rows 0 []))
      (apply_write_selective C s' w (get_or rows' 0 []))
      ws
      (drop 1 rows)
      (drop 1 rows')
      (rw length_apply_write_selective h)
      (length_apply_write_selective C s w _ ∙ l ∙ sym (length_apply_write_selective C s' w _))
      (column_step s s' w (get_or rows 0 []) (get_or rows' 0 []) h l e (b 0))
      (λ j k. rw (get_or_tail rows j [], get_or_tail rows' j []) (b (suc j) k))

  -- the two images may differ elsewhere, and the rows in other columns
  pub column_alone : (s s' : List ℕ) (ws : List Write) (rows rows' : List (List Bool)) → length s ≡ length s' → get_or s i 0 ≡ get_or s' i 0
      → ((j : ℕ) → covers (write_at ws j) i ≡ true → row_bit_at rows j (i / C) ≡ row_bit_at rows' j (i / C))
      → get_or (flush_writes_selective C s ws rows) i 0 ≡ get_or (flush_writes_selective C s' ws rows') i 0
  column_alone s s' ws rows rows' l e b = go (dec_lt i (length s))
    where
      go : Dec (i < length s) → get_or (flush_writes_selective C s ws rows) i 0 ≡ get_or (flush_writes_selective C s' ws rows') i 0
      go (yes h) = column_inside s s' ws rows rows' h l e b
      go (no h) =
          get_or-eq_default (flush_writes_selective C s ws rows) 0 (rw length_flush_writes_selective (omega arith))
          ∙ sym (get_or-eq_default (flush_writes_selective C s' ws rows') 0 (rw length_flush_writes_selective (omega arith)))
