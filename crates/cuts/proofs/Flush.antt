-- The flush is the cut that keeps everything, and the read image is what it leaves. Assumes nothing.
use Prim.Native.Nat.{ℕ, suc, ◌/◌, ◌<◌}
use mathlib.Core.Path.{◌≡◌, refl, sym, ap, ◌∙◌}
use mathlib.Core.Bool.{Bool, true, false, cond, ◌&&◌}
use mathlib.Core.List.{List, [], ◌∷◌}
use lib.ListN.{length, get_or, drop}
use lib.Seq.{ext_get_or}
use Rattle.pieces.specs.AsyncSpec.{Write, AsyncView, apply_write, apply_write_selective, flush_writes, flush_writes_selective, flush, flush_selective, readable}
use Rattle.pieces.proofs.Touched.{chunk_below}
use Rattle.cuts.specs.Bits.{write_at, row_bit_at, covers, KeepsAll, view_chunks}
use Rattle.cuts.proofs.Lengths.{length_apply_write, length_apply_write_selective}
use Rattle.cuts.proofs.Basics.{get_or_tail, covered_is_touched}
use Rattle.cuts.proofs.Column.{byte_of_write, byte_of_selective}

emptied : (s : List ℕ) (ws : List Write) → flush_writes s ws ≡ record { state_at_last_flush = (flush_writes s ws).state_at_last_flush; outstanding_writes = [] }
unfolding flush_writes
emptied s [] = refl
emptied s (w ∷ ws) = emptied (apply_write s w) ws

-- a flush empties the log and makes the read image the image
pub flush_leaves_the_read_image : (v : AsyncView) → flush v ≡ record { state_at_last_flush = readable v; outstanding_writes = [] }
flush_leaves_the_read_image v = emptied v.state_at_last_flush v.outstanding_writes

all_chosen : (t a : Bool) (x y : ℕ) → (t ≡ true → a ≡ true) → cond (t && a) x y ≡ cond t x y
all_chosen false a x y h = refl
all_chosen true a x y h = rw (h refl)

module _ (C : ℕ) (C⁺ : 0 < C) where
  -- a write all of whose bytes are in kept chunks is the whole write
  pub kept_write_is_the_write : (s : List ℕ) (w : Write) (row : List Bool) → ((i : ℕ) → i < length s → covers w i ≡ true → get_or row (i / C) false ≡ true)
      → apply_write_selective C s w row ≡ apply_write s w
  kept_write_is_the_write s w row b =
      let long = length_apply_write_selective C s w row in
      ext_get_or
      0
      (apply_write_selective C s w row)
      (apply_write s w)
      (long ∙ sym (length_apply_write s w))
      (λ i k. let h : i < length s = rw long at k in
      byte_of_selective C s w row i h ∙ all_chosen (covers w i) (get_or row (i / C) false) _ _ (b i h) ∙ sym (byte_of_write s w i h))

  kept_writes_are_the_flush : (s : List ℕ) (ws : List Write) (rows : List (List Bool))
      → ((j i : ℕ) → i < length s → covers (write_at ws j) i ≡ true → row_bit_at rows j (i / C) ≡ true)
      → flush_writes_selective C s ws rows ≡ (flush_writes s ws).state_at_last_flush
  unfolding flush_writes flush_writes_selective
  kept_writes_are_the_flush s [] rows b = refl
  kept_writes_are_the_flush s (w ∷ ws) rows b =
      ap (λ x. flush_writes_selective C x ws (drop 1 rows)) (kept_write_is_the_write s w (get_or rows 0 []) (b 0))
      ∙ kept_writes_are_the_flush (apply_write s w) ws (drop 1 rows) (λ j i h k. rw get_or_tail (b (suc j) i (rw length_apply_write at h) k))

  pub flush_is_the_cut_that_keeps_everything : (v : AsyncView) (rows : List (List Bool)) → KeepsAll C (view_chunks C v) v.outstanding_writes rows
      → flush_selective C v rows ≡ readable v
  flush_is_the_cut_that_keeps_everything v rows k =
      kept_writes_are_the_flush
      v.state_at_last_flush
      v.outstanding_writes
      rows
      (λ j i h b. k j (i / C) (chunk_below C C⁺ i (length v.state_at_last_flush) h) (covered_is_touched C C⁺ (write_at v.outstanding_writes j) i b))
