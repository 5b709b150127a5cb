-- Rows that agree in the chunks that the writes touch leave the same image: only those bits choose anything. Assumes nothing.
use Prim.Native.Nat.{ℕ, ◌/◌, ◌<◌}
use mathlib.Core.Path.{◌≡◌, refl, sym, ◌∙◌}
use mathlib.Core.Bool.{Bool}
use mathlib.Core.List.{List}
use lib.ListN.{length}
use lib.Seq.{ext_get_or}
use Rattle.region.specs.Pmemspec.{ChunkCorresponds}
use Rattle.pieces.specs.AsyncSpec.{Write, AsyncView, flush_writes_selective, flush_selective, size_to_chunks}
use Rattle.pieces.proofs.Touched.{chunk_below}
use Rattle.cuts.specs.Bits.{write_at, row_bit_at, AgreeOnTouched, view_chunks}
use Rattle.cuts.proofs.Lengths.{length_flush_writes_selective}
use Rattle.cuts.proofs.Basics.{covered_is_touched}
use Rattle.cuts.proofs.Column.{column_alone}

module _ (C : ℕ) (C⁺ : 0 < C) where
  pub same_touched_bits_same_replay : (s : List ℕ) (ws : List Write) (rows rows' : List (List Bool))
      → AgreeOnTouched C (size_to_chunks C (length s)) ws rows rows' → flush_writes_selective C s ws rows ≡ flush_writes_selective C s ws rows'
  same_touched_bits_same_replay s ws rows rows' a =
      let long = length_flush_writes_selective C s ws rows in
      ext_get_or
      0
      (flush_writes_selective C s ws rows)
      (flush_writes_selective C s ws rows')
      (long ∙ sym (length_flush_writes_selective C s ws rows'))
      (λ i h. column_alone
      C
      i
      s
      s
      ws
      rows
      rows'
      refl
      refl
      (λ j k. a j (i / C) (chunk_below C C⁺ i (length s) (rw long at h)) (covered_is_touched C C⁺ (write_at ws j) i k)))

  -- "Bits of untouched chunks change nothing."
  pub untouched_bits_change_nothing : (v : AsyncView) (rows rows' : List (List Bool)) → AgreeOnTouched C (view_chunks C v) v.outstanding_writes rows rows'
      → flush_selective C v rows ≡ flush_selective C v rows'
  untouched_bits_change_nothing v rows rows' a = same_touched_bits_same_replay v.state_at_last_flush v.outstanding_writes rows rows' a

-- the bytes of a chunk go by its own column of the rows
pub chunk_goes_by_its_column : (C : ℕ) (v : AsyncView) (rows rows' : List (List Bool)) (chunk : ℕ)
    → ((j : ℕ) → row_bit_at rows j chunk ≡ row_bit_at rows' j chunk) → ChunkCorresponds C (flush_selective C v rows) (flush_selective C v rows') chunk
chunk_goes_by_its_column C v rows rows' chunk a i h e =
    column_alone C i v.state_at_last_flush v.state_at_last_flush v.outstanding_writes rows rows' refl refl (λ j k. rw e (a j))
