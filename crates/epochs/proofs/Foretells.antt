-- What a tape foretells of a log, step by step: nothing of an empty one; with one write more, a part-write by the new row, or the whole write under
-- header 80. So the predictor is right at every step and not only at the cut. Assumes nothing.
use Prim.Native.Nat.{ℕ, ◌+◌, ◌<◌}
use native.Mathlib.Numerals.{add-one}
use mathlib.Core.Path.{◌≡◌, sym, ap, subst⁻¹, ◌∙◌}
use mathlib.Core.Bool.{Bool, true, false}
use mathlib.Core.List.{List, [], ◌∷◌, ◌++◌}
use lib.ListN.{length, length-append}
use Rattle.region.specs.View.{Valid, CanResultFromWrite, FlushPredicted}
use Rattle.pieces.specs.AsyncSpec.{Write, AsyncView, size_to_chunks, write, apply_write, flush_selective, apply_write_selective, CanCrashAs, CanCrash}
use Rattle.pieces.specs.Rows.{row_at}
use Rattle.cuts.specs.Bits.{view_chunks}
use Rattle.cuts.proofs.OneMore.{cut_of_a_write, read_of_a_write}
use Rattle.cuts.proofs.Shape.{shaped_rows_crash}
use Rattle.cuts.proofs.Tables.{rows_at_shape}
use Rattle.cuts.proofs.Prophecy.{prophecy_is_valid, prophecy_of_nothing, prophecy_of_a_write, cut_could_leave_the_prophecy}
use Rattle.epochs.specs.Epoch.{flush_foretold, epoch_rows, row_place}
use Rattle.epochs.specs.Foretold.{foretold, predicted_image}
use Rattle.epochs.proofs.PredictLaws.{predicted_flush, predicted_cut}
use Rattle.epochs.proofs.RowsLaws.{rows_at_last}

module _ (C : ℕ) (tape : List ℕ) (start : ℕ) where
  -- on an empty log, as after a flush or a cut, the image itself is predicted
  pub foretold_of_nothing : (s : List ℕ)
      → foretold C tape start (record { state_at_last_flush = s; outstanding_writes = [] }) ≡ record { read_state = s; durable_state = s }
  foretold_of_nothing s = prophecy_of_nothing C (flush_foretold tape start) s (epoch_rows (size_to_chunks C (length s)) 0 tape start)

  pub predicted_of_nothing : (s : List ℕ) → predicted_image C tape start (record { state_at_last_flush = s; outstanding_writes = [] }) ≡ s
  predicted_of_nothing s = ap (λ v. v.durable_state) (foretold_of_nothing s)

  module _ (v : AsyncView) where
    abbrev K : ℕ
    K = view_chunks C v

    abbrev n : ℕ
    n = length v.outstanding_writes

    pub foretold_is_valid : Valid (foretold C tape start v)
    foretold_is_valid = prophecy_is_valid C (flush_foretold tape start) v (epoch_rows K n tape start)

    -- a flush happens only where it was foretold, and there the original's `flush_predicted` holds
    pub foretold_flush_is_predicted : flush_foretold tape start ≡ true → FlushPredicted (foretold C tape start v)
    foretold_flush_is_predicted e = predicted_flush C tape start v e

    -- a cut by this tape is a crash of the original with the epoch's rows
    pub foretold_cut_is_a_crash : flush_foretold tape start ≡ false → CanCrashAs C v (predicted_image C tape start v) (epoch_rows K n tape start)
    foretold_cut_is_a_crash e =
        subst⁻¹ (λ x. CanCrashAs C v x (epoch_rows K n tape start)) (predicted_cut C tape start v e)
        (shaped_rows_crash C v (epoch_rows K n tape start) (rows_at_shape K n tape (start + 1)))

    -- under either header the predicted image is one that a cut could leave
    pub predicted_could_be_left : 0 < C → CanCrash C v (predicted_image C tape start v)
    predicted_could_be_left C⁺ =
        cut_could_leave_the_prophecy C C⁺ v (epoch_rows K n tape start) (flush_foretold tape start) (rows_at_shape K n tape (start + 1))

    module _ (w : Write) where
      -- the new write's row lies behind those before it
      abbrev new_row : List Bool
      new_row = row_at K tape (row_place K start n)

      rows_with_the_new : epoch_rows K (length (write v w).outstanding_writes) tape start ≡ epoch_rows K n tape start ++ (new_row ∷ [])
      rows_with_the_new =
          ap (λ k. epoch_rows K k tape start) (length-append v.outstanding_writes (w ∷ []) ∙ add-one n) ∙ rows_at_last K n tape (start + 1)

      -- `write` of the original keeps to `can_result_from_write`, by the same tape
      pub foretold_of_a_write : CanResultFromWrite C (foretold C tape start (write v w)) (foretold C tape start v) w.addr w.bytes
      foretold_of_a_write =
          rw rows_with_the_new
          (prophecy_of_a_write C (flush_foretold tape start) v w (epoch_rows K n tape start) new_row (rows_at_shape K n tape (start + 1)).row_for_each_write)

      -- "an accepted write changes it by the row's kept chunks (header 00) or whole (80)"
      pub predicted_changes_by_the_row : flush_foretold tape start ≡ false
          → predicted_image C tape start (write v w) ≡ apply_write_selective C (predicted_image C tape start v) w new_row
      predicted_changes_by_the_row e =
          predicted_cut C tape start (write v w) e ∙ ap (flush_selective C (write v w)) rows_with_the_new
          ∙ cut_of_a_write C v w (epoch_rows K n tape start) new_row (rows_at_shape K n tape (start + 1)).row_for_each_write
          ∙ ap (λ x. apply_write_selective C x w new_row) (sym (predicted_cut C tape start v e))

      pub predicted_changes_whole : flush_foretold tape start ≡ true
          → predicted_image C tape start (write v w) ≡ apply_write (predicted_image C tape start v) w
      predicted_changes_whole e =
          predicted_flush C tape start (write v w) e ∙ read_of_a_write v w
          ∙ ap (λ x. apply_write x w) (sym (predicted_flush C tape start v e))
