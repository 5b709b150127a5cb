-- The kept count: how it goes by the touched bits alone, and its two ends. Assumes nothing.
use Prim.Native.Nat.{ℕ, suc, ◌+◌, ◌≤◌}
use native.Mathlib.Nat.{le_refl, add-le-add}
use mathlib.Core.Path.{◌≡◌, refl, ap₂}
use mathlib.Core.Bool.{Bool, true}
use mathlib.Core.List.{List, [], ◌∷◌}
use lib.ListN.{length, drop}
use Rattle.region.proofs.Tab.{inside_in}
use Rattle.pieces.specs.AsyncSpec.{Write, addr_to_chunk}
use Rattle.pieces.specs.Choice.{touched, points}
use Rattle.pieces.specs.Kept.{kept, kept_of}
use Rattle.pieces.proofs.ByteBits.{set_bits_le, set_bits_agree, all_set_bits}
use Rattle.cuts.specs.Bits.{write_at, row_bit_at, touches_chunk}
use Rattle.cuts.proofs.Basics.{get_or_tail}

module _ (C : ℕ) where
  pub kept_at_most_points : (ws : List Write) (rows : List (List Bool)) → kept C ws rows ≤ points C ws
  unfolding kept kept_of points
  kept_at_most_points [] rows = le_refl 0
  kept_at_most_points (w ∷ ws) rows = add-le-add (set_bits_le _ _ _) (kept_at_most_points ws (drop 1 rows))

  -- rows that agree in the touched chunks keep the same count
  pub kept_by_touched_bits : (ws : List Write) (rows rows' : List (List Bool))
      → ((j c : ℕ) → touches_chunk C (write_at ws j) c ≡ true → row_bit_at rows j c ≡ row_bit_at rows' j c) → kept C ws rows ≡ kept C ws rows'
  unfolding kept kept_of
  kept_by_touched_bits [] rows rows' a = refl
  kept_by_touched_bits (w ∷ ws) rows rows' a =
      ap₂ (◌+◌)
      (set_bits_agree _ _ _ _ (λ c l h. a 0 c (inside_in (addr_to_chunk C w.addr) (touched C w.addr (length w.bytes)) c l h)))
      (kept_by_touched_bits ws (drop 1 rows) (drop 1 rows') (λ j c k. rw (get_or_tail rows j [], get_or_tail rows' j []) (a (suc j) c k)))

  pub kept_of_all_touched : (ws : List Write) (rows : List (List Bool))
      → ((j c : ℕ) → touches_chunk C (write_at ws j) c ≡ true → row_bit_at rows j c ≡ true) → kept C ws rows ≡ points C ws
  unfolding kept kept_of points
  kept_of_all_touched [] rows a = refl
  kept_of_all_touched (w ∷ ws) rows a =
      ap₂ (◌+◌)
      (all_set_bits _ _ _ (λ c l h. a 0 c (inside_in (addr_to_chunk C w.addr) (touched C w.addr (length w.bytes)) c l h)))
      (kept_of_all_touched ws (drop 1 rows) (λ j c k. rw (get_or_tail rows j []) (a (suc j) c k)))
