-- The prophecy view keeps to pmemspec_t.rs: a write takes it where `CanResultFromWrite` allows, a flush may come where it is foretold or where all
-- is kept, and its durable image is one that a cut could leave. Assumes nothing.
use Prim.Native.Nat.{ℕ, ◌<◌}
use mathlib.Core.Path.{◌≡◌, refl, sym, ap, ◌∙◌}
use mathlib.Core.Bool.{Bool, true, false}
use mathlib.Core.List.{List, [], ◌∷◌, ◌++◌}
use lib.ListN.{length}
use Rattle.region.specs.View.{Valid, CanResultFromWrite, FlushPredicted}
use Rattle.pieces.specs.AsyncSpec.{Write, AsyncView, flush_writes, flush_writes_selective, flush_selective, readable, write, CanCrashAs, CanCrash}
use Rattle.cuts.specs.Bits.{KeepsAll, view_chunks}
use Rattle.cuts.specs.Shape.{HasShape}
use Rattle.cuts.specs.Prophecy.{prophecy}
use Rattle.cuts.proofs.Lengths.{length_flush, length_flush_selective}
use Rattle.cuts.proofs.Flush.{flush_is_the_cut_that_keeps_everything}
use Rattle.cuts.proofs.Shape.{shaped_rows_crash}
use Rattle.cuts.proofs.OneMore.{cut_of_a_write, read_of_a_write}
use Rattle.cuts.proofs.PartWrites.{whole_write_is_part_write, row_lays_part_write}
use Rattle.cuts.proofs.Always.{cut_could_leave_the_read_image}

pub prophecy_is_valid : (C : ℕ) (flushed : Bool) (v : AsyncView) (rows : List (List Bool)) → Valid (prophecy C flushed v rows)
prophecy_is_valid C true v rows = refl
prophecy_is_valid C false v rows = length_flush v ∙ sym (length_flush_selective C v rows)

-- on an empty log nothing is left to foretell
pub prophecy_of_nothing : (C : ℕ) (flushed : Bool) (s : List ℕ) (rows : List (List Bool))
    → prophecy C flushed (record { state_at_last_flush = s; outstanding_writes = [] }) rows ≡ record { read_state = s; durable_state = s }
unfolding flush_writes flush_writes_selective
prophecy_of_nothing C true s rows = refl
prophecy_of_nothing C false s rows = refl

-- one write and one row more
pub prophecy_of_a_write : (C : ℕ) (flushed : Bool) (v : AsyncView) (w : Write) (rows : List (List Bool)) (row : List Bool)
    → length rows ≡ length v.outstanding_writes
    → CanResultFromWrite C (prophecy C flushed (write v w) (rows ++ (row ∷ []))) (prophecy C flushed v rows) w.addr w.bytes
prophecy_of_a_write C true v w rows row l =
    let whole = read_of_a_write v w in
    record { reads = whole; durables = rw whole (whole_write_is_part_write C (readable v) w) }
prophecy_of_a_write C false v w rows row l =
    record {
      reads = read_of_a_write v w;
      durables = rw (cut_of_a_write C v w rows row l) (row_lays_part_write C (flush_selective C v rows) w row);
    }

module _ (C : ℕ) (C⁺ : 0 < C) (v : AsyncView) (rows : List (List Bool)) where
  -- a flush that is foretold is the cut that keeps everything
  pub foretold_flush_keeps_everything : KeepsAll C (view_chunks C v) v.outstanding_writes rows → prophecy C false v rows ≡ prophecy C true v rows
  foretold_flush_keeps_everything k =
      ap (λ x. record { read_state = readable v; durable_state = x }) (flush_is_the_cut_that_keeps_everything C C⁺ v rows k)

  pub flush_predicted_if_all_kept : KeepsAll C (view_chunks C v) v.outstanding_writes rows → FlushPredicted (prophecy C false v rows)
  flush_predicted_if_all_kept k = flush_is_the_cut_that_keeps_everything C C⁺ v rows k

  pub cut_could_leave_the_prophecy : (flushed : Bool) → HasShape (view_chunks C v) (length v.outstanding_writes) rows
      → CanCrash C v (prophecy C flushed v rows).durable_state
  cut_could_leave_the_prophecy true h = cut_could_leave_the_read_image C C⁺ v
  cut_could_leave_the_prophecy false h = (rows, shaped_rows_crash C v rows h)

  -- `crash` of the original: the cut comes as foretold, and the image found is the durable one
  pub crash_leaves_the_prophecy : (x : List ℕ) → CanCrashAs C v x rows → x ≡ (prophecy C false v rows).durable_state
  crash_leaves_the_prophecy x h = h.leaves
