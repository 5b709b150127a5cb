-- What a step by tape does to the view and to the prediction, from the calls' promises: the form that a run of calls is made of. Each law takes a
-- promise of a call that was done. Assumes nothing.
use Prim.Native.Nat.{ℕ}
use native.Mathlib.Omega.{arith}
use mathlib.Core.Path.{◌≡◌, refl, sym, ap, subst⁻¹, ◌∙◌}
use mathlib.Core.List.{List, []}
use mathlib.Core.Bool.{Bool, true, false}
use lib.ListN.{length}
use Rattle.region.specs.Limits.{writes_limit}
use Rattle.region.specs.View.{CanResultFromWrite, FlushPredicted}
use Rattle.region.proofs.AnswerLaws.{changed}
use Rattle.region.specs.Answer.{Answer, Counted}
use Rattle.pieces.specs.AsyncSpec.{Write, AsyncView, flush, write, CanCrashAs}
use Rattle.cuts.specs.Bits.{view_chunks}
use Rattle.cuts.proofs.Flush.{flush_leaves_the_read_image}
use Rattle.desk.specs.Desk.{chunk_size, view}
use Rattle.desk.proofs.Views.{view_of_recorded, view_of_settled, writes_counted}
use Rattle.epochs.specs.Epoch.{epoch_rows, row_place}
use Rattle.epochs.specs.Foretold.{foretold, predicted_image, predicted_now}
use Rattle.epochs.proofs.Foretells.{predicted_of_nothing, foretold_of_a_write, foretold_flush_is_predicted, foretold_cut_is_a_crash}
use Rattle.tape.specs.Memory.{TapeDesk}
use Rattle.tape.specs.Write.{tape_write_number, TapeWrites}
use Rattle.tape.specs.Ending.{epoch_ended}
use Rattle.tape.specs.Flush.{tape_flush_number, TapeFlushes}
use Rattle.tape.specs.Cut.{tape_cut_number, TapeCuts}
use Rattle.tape.proofs.NumberLaws.{Ending, tape_write_done, ending_done}
use Rattle.tape.proofs.PromiseLaws.{flushed_is_predicted}

abbrev C : TapeDesk → ℕ
C t = chunk_size t.memory

abbrev v : TapeDesk → AsyncView
v t = view t.memory

module _ (t : TapeDesk) (tape : List ℕ) where
  -- a write: the view is the original's `write`, the prediction goes with it, and the durable state has got some of the write's chunks
  pub record StepOfWrite (w : Write) (t' : TapeDesk) : Type 0 where
    pub view_after : view t'.memory ≡ write (v t) w
    pub start_after : t'.start ≡ t.start
    pub predicted_after : t'.predicted ≡ predicted_image (C t) tape t.start (write (v t) w)
    pub foretold_after :
        CanResultFromWrite (C t) (foretold (C t) tape t.start (view t'.memory)) (foretold (C t) tape t.start (v t)) w.addr w.bytes

  -- an ending: the image is the predicted one, the log is empty, the start lies behind the epoch's rows, and in the next epoch the image itself is
  -- predicted
  pub record StepOfEnding (t' : TapeDesk) : Type 0 where
    pub view_after : view t'.memory ≡ record { state_at_last_flush = predicted_now t.memory tape t.start; outstanding_writes = [] }
    pub image_after : t'.memory.image ≡ predicted_now t.memory tape t.start
    pub start_after : t'.start ≡ row_place (view_chunks (C t) (v t)) t.start (length (v t).outstanding_writes)
    pub predicted_after : t'.predicted ≡ predicted_now t'.memory tape t'.start

  -- a flush: it was foretold, so that the predicted image is the read image
  pub record StepOfFlush (t' : TapeDesk) : Type 0 where
    pub was_predicted : FlushPredicted (foretold (C t) tape t.start (v t))
    pub flushed : view t'.memory ≡ flush (v t)
    pub ending : StepOfEnding t'

  -- a cut: a crash of the original by the epoch's rows
  pub record StepOfCut (t' : TapeDesk) : Type 0 where
    pub crashed : CanCrashAs (C t) (v t) t'.memory.image (epoch_rows (view_chunks (C t) (v t)) (length (v t).outstanding_writes) tape t.start)
    pub ending : StepOfEnding t'

module _ {t : TapeDesk} {tape : List ℕ} (sized : length t.memory.state.records ≡ writes_limit) {t' : TapeDesk} where
  pub step_of_write : {w : Write} {answer : Answer} → TapeWrites t tape w answer t' → tape_write_number t tape w ≡ 0 → StepOfWrite t tape w t'
  step_of_write {w} p none =
      let told = tape_write_done none in
      let after = view_of_recorded t.memory w sized told.facts told.room in
      subst⁻¹ (StepOfWrite t tape w) (changed t p.leaves none)
      (record {
        view_after = after;
        start_after = refl;
        predicted_after = ap (predicted_image (C t) tape t.start) after;
        foretold_after =
            subst⁻¹ (λ x. CanResultFromWrite (C t) (foretold (C t) tape t.start x) (foretold (C t) tape t.start (v t)) w.addr w.bytes) after
            (foretold_of_a_write (C t) tape t.start (v t) w);
      })

  ended : {flushing : Bool} → Ending flushing t tape → t' ≡ epoch_ended t (predicted_now t.memory tape t.start) → StepOfEnding t tape t'
  ended e after =
      let x = predicted_now t.memory tape t.start in
      let next = epoch_ended t x in
      let empty = view_of_settled t.memory x in
      subst⁻¹ (StepOfEnding t tape) after
      (record {
        view_after = empty;
        image_after = refl;
        start_after = ap (row_place (view_chunks (C t) (v t)) t.start) (sym (writes_counted t.memory (omega (arith, sized, e.facts.few))));
        predicted_after = sym (ap (predicted_image (C t) tape next.start) empty ∙ predicted_of_nothing (C t) tape next.start x);
      })

  pub step_of_flush : {answer : Answer} → TapeFlushes t tape answer t' → tape_flush_number t tape ≡ 0 → StepOfFlush t tape t'
  step_of_flush p none =
      let told = ending_done true t tape none in
      let read = flushed_is_predicted t tape none in
      let end = ended told (changed t p.leaves none ∙ ap (epoch_ended t) (sym read)) in
      record {
        was_predicted = foretold_flush_is_predicted (C t) tape t.start (v t) told.foretold;
        flushed =
            end.view_after ∙ ap (λ x. record { state_at_last_flush = x; outstanding_writes = [] }) read ∙ sym (flush_leaves_the_read_image (v t));
        ending = end;
      }

  pub step_of_cut : {answer : Counted} → TapeCuts t tape answer t' → tape_cut_number t tape ≡ 0 → StepOfCut t tape t'
  step_of_cut p none =
      let told = ending_done false t tape none in
      let after = changed t p.leaves none in
      record {
        crashed = rw after (foretold_cut_is_a_crash (C t) tape t.start (v t) told.foretold);
        ending = ended told after;
      }
