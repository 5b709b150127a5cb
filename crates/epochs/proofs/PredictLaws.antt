-- The predicted image is what the log's own replay leaves over a copy of the image. Assumes nothing.
use Prim.Native.Nat.{ℕ, ◌≤◌}
use mathlib.Core.Path.{◌≡◌, sym, ap, ◌∙◌}
use mathlib.Core.Bool.{true, false}
use mathlib.Core.List.{List}
use lib.ListN.{length}
use Rattle.region.proofs.Booleans.{cond_when, cond_unless}
use Rattle.pieces.specs.AsyncSpec.{AsyncView, size_to_chunks, readable, flush_selective}
use Rattle.desk.specs.Desk.{Desk, desk, chunk_size, chunks, view}
use Rattle.desk.proofs.Views.{writes_counted}
use Rattle.epochs.specs.Epoch.{flush_foretold, epoch_rows}
use Rattle.epochs.specs.Foretold.{predicted_image, predicted_now}

-- the two headers
pub predicted_flush : (C : ℕ) (tape : List ℕ) (start : ℕ) (v : AsyncView) → flush_foretold tape start ≡ true → predicted_image C tape start v ≡ readable v
predicted_flush C tape start v e = cond_when (flush_foretold tape start) (readable v) _ e

pub predicted_cut : (C : ℕ) (tape : List ℕ) (start : ℕ) (v : AsyncView) → flush_foretold tape start ≡ false
    → predicted_image C tape start v
    ≡ flush_selective C v (epoch_rows (size_to_chunks C (length v.state_at_last_flush)) (length v.outstanding_writes) tape start)
predicted_cut C tape start v e = cond_unless (flush_foretold tape start) (readable v) _ e

-- the replay of the log over a copy s of the image
module _ (d : Desk) (tape : List ℕ) (start : ℕ) {s : List ℕ} (same : s ≡ d.image) where
  abbrev C : ℕ
  C = chunk_size d

  -- the desk with that copy for its image
  abbrev copied : Desk
  copied = desk s d.state d.log

  pub selected_replay_is_predicted : d.state.count ≤ length d.state.records → flush_foretold tape start ≡ false
      → flush_selective C (view copied) (epoch_rows (chunks copied) d.state.count tape start) ≡ predicted_now d tape start
  selected_replay_is_predicted few e =
      ap (λ (s : List ℕ). flush_selective C (view (desk s d.state d.log)) (epoch_rows (size_to_chunks C (length s)) d.state.count tape start)) same
      ∙ ap (λ (n : ℕ). flush_selective C (view d) (epoch_rows (chunks d) n tape start)) (sym (writes_counted d few))
      ∙ sym (predicted_cut C tape start (view d) e)
