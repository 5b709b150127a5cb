-- A write inside the image touches only the image's own chunks, so that a log inside the image has no point that rows of the right shape lack.
-- Assumes nothing.
use Prim.Native.Nat.{ℕ, ◌<◌}
use mathlib.Core.Path.{◌≡◌}
use mathlib.Core.Bool.{Bool, true}
use mathlib.Core.List.{List}
use Rattle.pieces.specs.AsyncSpec.{AsyncView, len, WritesValid}
use Rattle.pieces.specs.Choice.{points}
use Rattle.pieces.specs.Kept.{kept}
use Rattle.pieces.proofs.Touched.{touched_below}
use Rattle.cuts.specs.Bits.{write_at, touches_chunk, KeepsAll, AgreeOnTouched, view_chunks}
use Rattle.cuts.proofs.Choices.{touching_write_is_logged}
use Rattle.cuts.proofs.Kept.{kept_by_touched_bits, kept_of_all_touched}

module _ (C : ℕ) (C⁺ : 0 < C) where
  module _ (v : AsyncView) (inside : WritesValid v) where
    pub touched_chunk_below : (j c : ℕ) → touches_chunk C (write_at v.outstanding_writes j) c ≡ true → c < view_chunks C v
    touched_chunk_below j c k = touched_below C C⁺ _ _ (len v) c (inside j (touching_write_is_logged C v.outstanding_writes j c k)) k

    -- rows that keep every point keep as many as there are points
    pub kept_of_everything : (rows : List (List Bool)) → KeepsAll C (view_chunks C v) v.outstanding_writes rows
        → kept C v.outstanding_writes rows ≡ points C v.outstanding_writes
    kept_of_everything rows a = kept_of_all_touched C v.outstanding_writes rows (λ j c k. a j c (touched_chunk_below j c k) k)

    pub same_touched_bits_same_kept : (rows rows' : List (List Bool)) → AgreeOnTouched C (view_chunks C v) v.outstanding_writes rows rows'
        → kept C v.outstanding_writes rows ≡ kept C v.outstanding_writes rows'
    same_touched_bits_same_kept rows rows' a = kept_by_touched_bits C v.outstanding_writes rows rows' (λ j c k. a j c (touched_chunk_below j c k) k)
