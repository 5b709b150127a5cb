-- The promise of a done tape call, and of a refused one. Assumes nothing.
use Prim.Native.Nat.{ℕ, ◌+◌}
use mathlib.Core.Path.{◌≡◌, sym, ap, ◌∙◌}
use mathlib.Core.Bool.{true}
use mathlib.Core.List.{List}
use Rattle.std.specs.Prelude.{Err, Ok}
use Rattle.region.specs.Answer.{refusal_number, done}
use Rattle.region.specs.declared.Refusal.{Refusal}
use Rattle.region.proofs.AnswerLaws.{done_changed, refused_left}
use Rattle.pieces.specs.AsyncSpec.{Write, readable}
use Rattle.desk.specs.Desk.{chunk_size, view}
use Rattle.writelog.specs.Cut.{kept_by_rows}
use Rattle.writelog.proofs.CutLaws.{kept_told}
use Rattle.epochs.specs.Foretold.{predicted_now}
use Rattle.epochs.proofs.PredictLaws.{predicted_flush}
use Rattle.tape.specs.Memory.{TapeDesk}
use Rattle.tape.specs.Write.{tape_write_number, tape_written, TapeWrites}
use Rattle.tape.specs.Ending.{tape_ending_number, epoch_ended, Settles}
use Rattle.tape.specs.Flush.{tape_flush_number, TapeFlushes}
use Rattle.tape.specs.Cut.{tape_cut_number, TapeCuts}
use Rattle.tape.proofs.NumberLaws.{ending_done}

-- a done flush was foretold, so that the predicted image is the read image
pub flushed_is_predicted : (t : TapeDesk) (tape : List ℕ) → tape_ending_number true t tape ≡ 0
    → predicted_now t.memory tape t.start ≡ readable (view t.memory)
flushed_is_predicted t tape none =
    predicted_flush (chunk_size t.memory) tape t.start (view t.memory) (ending_done true t tape none).foretold

module _ {t : TapeDesk} {tape : List ℕ} where
  module _ {w : Write} where
    pub tape_writes_done : tape_write_number t tape w ≡ 0 → {t' : TapeDesk} → t' ≡ tape_written t tape w → TapeWrites t tape w done t'
    tape_writes_done none left = record { answers = sym none; leaves = left ∙ done_changed t none }

    pub tape_writes_refused : (why : Refusal) → tape_write_number t tape w ≡ refusal_number why → TapeWrites t tape w (Err why) t
    tape_writes_refused why some = record { answers = sym some; leaves = refused_left why _ some }

  module _ {t' : TapeDesk} (settled : Settles t tape t') where
    pub tape_flushes_done : tape_flush_number t tape ≡ 0 → TapeFlushes t tape done t'
    tape_flushes_done none =
        record { answers = sym none; leaves = settled ∙ ap (epoch_ended t) (flushed_is_predicted t tape none) ∙ done_changed t none }

    pub tape_cuts_done : tape_cut_number t tape ≡ 0 → {k : ℕ} → k ≡ kept_by_rows t.memory tape (t.start + 1) → TapeCuts t tape (Ok k) t'
    tape_cuts_done none kept = record { answers = kept_told kept none; leaves = settled ∙ done_changed t none }
