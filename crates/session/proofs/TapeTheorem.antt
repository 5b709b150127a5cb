-- Demand 3 by tape. A run by tape is a run, so its view is the replay of its history. The calls' promises predict by the header and the rows, and that
-- is what the replay gives if the epoch ends as the header says. Assumes nothing.
use Prim.Native.Nat.{ℕ, ◌+◌}
use native.Mathlib.Nat.{suc-ne-zero}
use native.Mathlib.Omega.{arith}
use mathlib.Core.Path.{◌≡◌, refl, sym, ap, ap₂, subst, ◌∙◌}
use mathlib.Core.Bool.{Bool, true, false, cond}
use mathlib.Core.List.{List, [], ◌∷◌, ◌++◌}
use lib.ListN.{length, get_or}
use Rattle.std.specs.Prelude.{Err, Ok}
use Rattle.region.proofs.AnswerLaws.{refusal_not_done, left}
use Rattle.region.specs.Answer.{Answer, Counted}
use Rattle.pieces.specs.AsyncSpec.{Write, AsyncView, committed, flush_writes_selective}
use Rattle.cuts.specs.Prophecy.{prophecy}
use Rattle.desk.specs.Desk.{Desk, chunk_size, view}
use Rattle.desk.proofs.Views.{writes_counted}
use Rattle.gate.proofs.Gives.{Holds}
use Rattle.epochs.specs.Epoch.{flush_foretold}
use Rattle.epochs.specs.Foretold.{predicted_image, predicted_now}
use Rattle.tape.specs.Memory.{TapeDesk, by_tape}
use Rattle.tape.specs.Write.{TapeWrites}
use Rattle.tape.specs.Flush.{TapeFlushes}
use Rattle.tape.specs.Cut.{TapeCuts}
use Rattle.tape.proofs.NumberLaws.{ending_done}
use Rattle.tape.proofs.Steps.{step_of_write, step_of_flush, step_of_cut}
use Rattle.session.specs.History.{Event, nothing, written, flushed, cut_by, reopened, History, opening, ◌then◌, if_answered, if_cut, rows_there, happen, replay}
use Rattle.session.specs.Run as run
use Rattle.session.specs.Run.{Step, Run}
use Rattle.session.specs.TapeRun.{shows, TapeStep, judged_write, flush, cut, reopen, restart, other, TapeRun, opened, ◌and◌, TapeThroughout}
use Rattle.session.specs.TapeTheorem.{foretold_end, start_after, GoesBy, epoch_start, ChosenBy, prediction, predictions, TapeSession}
use Rattle.session.proofs.Steps.{numbered}
use Rattle.session.proofs.Theorem.{invariant, session}

-- the prophecy that header and rows are, and the end that the header says
by_header : (C : ℕ) (v : AsyncView) (tape : List ℕ) (start : ℕ) (flushing : Bool)
    → (prophecy C flushing v (rows_there C v tape (start + 1))).durable_state ≡ committed (happen C v (cond flushing flushed (cut_by tape (start + 1))))
unfolding happen
by_header C v tape start true = refl
by_header C v tape start false = refl

-- The image that a call by tape predicts is the one that the event makes of the view by which the epoch will end.
pub predicted_is_the_end : (C : ℕ) (v : AsyncView) (tape : List ℕ) (start : ℕ) → predicted_image C tape start v ≡ committed (happen C v (foretold_end tape start))
predicted_is_the_end C v tape start = by_header C v tape start (flush_foretold tape start)

-- on an empty log a reopening changes nothing of the view
nothing_lost : (C : ℕ) (s : List ℕ) (ws : List Write) → length ws ≡ 0
    → happen C (record { state_at_last_flush = s; outstanding_writes = ws }) reopened ≡ record { state_at_last_flush = s; outstanding_writes = ws }
unfolding happen flush_writes_selective
nothing_lost C s [] none = refl
nothing_lost C s (w ∷ ws) none = absurd (suc-ne-zero (length ws) none)

module _ (C : ℕ) (image tape : List ℕ) where
  -- The last image predicted stands until the epoch ends: nothing else changes the view.
  stands : (h : History) → ChosenBy C image tape h → (last : List ℕ) (before : List (List ℕ)) → predictions C image tape h ≡ last ∷ before
      → last ≡ prediction C image tape h
  unfolding replay happen start_after epoch_start GoesBy ChosenBy shows predictions
  stands opening c last before e = absurd (suc-ne-zero (length before) (sym (ap length e)))
  stands (h then nothing) c last before e = stands h c.0 last before e
  stands (h then written w) c last before e = sym (ap (λ (l : List (List ℕ)). get_or l 0 []) e)
  stands (h then flushed) c last before e = sym (ap (λ (l : List (List ℕ)). get_or l 0 []) e)
  stands (h then cut_by table at) c last before e = sym (ap (λ (l : List (List ℕ)). get_or l 0 []) e)
  stands (h then reopened) c last before e =
      let v = replay C image h in
      stands h c.0 last before e
      ∙ ap (λ (v : AsyncView). committed (happen C v (foretold_end tape (epoch_start C image h))))
      (sym (nothing_lost C v.state_at_last_flush v.outstanding_writes c.1))

-- a refused call leaves the start as it was
kept_start : {t t' : TapeDesk} → t' ≡ t → t'.start ≡ t.start
kept_start same = ap (λ (t : TapeDesk). t.start) same

module _ (sheet tape : List ℕ) where
  -- a step by tape is a step, and a run by tape a run
  forget_step : {d : Desk} {start : ℕ} {e : Event} {t' : TapeDesk} → TapeStep sheet tape d start e t' → Step sheet d e t'.memory
  forget_step (judged_write j p) = run.judged_tape_write j p
  forget_step (flush p) = run.tape_flush p
  forget_step (cut p) = run.tape_cut p
  forget_step (reopen e p) = run.reopen p
  forget_step (restart e same p) = run.restart same p
  forget_step (other s) = s

  pub forget : {image : List ℕ} {h : History} {d : Desk} {start : ℕ} {shown : List (List ℕ)} → TapeRun sheet tape image h d start shown → Run sheet image h d
  forget (opened same o) = run.opened same o
  forget (r and s) = run.◌and◌ (forget r) (forget_step s)

  -- What a step does by the tape: the start moves past an epoch that ends, the end is the one foretold, and an accepted call predicts.
  record Follows (d : Desk) (start : ℕ) (e : Event) (t' : TapeDesk) : Type 0 where
    starts : t'.start ≡ start_after (chunk_size d) (view d) start e
    goes : GoesBy tape (view d) start e
    predicts : shows e t'.predicted ≡ shows e (predicted_now t'.memory tape t'.start)

  module _ {d : Desk} (h : Holds d sheet) {start : ℕ} where
    -- where nothing happened
    idle : {t' : TapeDesk} → t'.start ≡ start → Follows d start nothing t'
    unfolding start_after GoesBy shows
    idle same = record { starts = same; goes = tt; predicts = refl }

    writes_follow : {predicted : List ℕ} {w : Write} (a : Answer) {t' : TapeDesk} → TapeWrites (by_tape d start predicted) tape w a t'
        → Follows d start (if_answered a (written w)) t'
    unfolding start_after GoesBy shows
    writes_follow {w = w} (Ok unit) p =
        let s = step_of_write h.sized p (sym p.answers) in
        record {
          starts = s.start_after;
          goes = tt;
          predicts =
              ap (λ (x : List ℕ). x ∷ [])
              (s.predicted_after ∙ sym (ap₂ (λ (a : ℕ) (v : AsyncView). predicted_image (chunk_size d) tape a v) s.start_after s.view_after));
        }
    writes_follow (Err why) p = idle (kept_start (left _ p.leaves (refusal_not_done why) (sym p.answers)))

    flushes_follow : {predicted : List ℕ} (a : Answer) {t' : TapeDesk} → TapeFlushes (by_tape d start predicted) tape a t'
        → Follows d start (if_answered a flushed) t'
    unfolding start_after GoesBy shows
    flushes_follow {predicted} (Ok unit) p =
        let s = (step_of_flush h.sized p (sym p.answers)).ending in
        let as_said = (ending_done true (by_tape d start predicted) tape (sym p.answers)).foretold in
        record {
          starts = s.start_after;
          goes = ap (λ (b : Bool). cond b flushed (cut_by tape (start + 1))) as_said;
          predicts = ap (λ (x : List ℕ). x ∷ []) s.predicted_after;
        }
    flushes_follow (Err why) p = idle (kept_start (left _ p.leaves (refusal_not_done why) (sym p.answers)))

    cuts_follow : {predicted : List ℕ} (a : Counted) {t' : TapeDesk} → TapeCuts (by_tape d start predicted) tape a t'
        → Follows d start (if_cut a (cut_by tape (start + 1))) t'
    unfolding start_after GoesBy shows
    cuts_follow {predicted} (Ok k) p =
        let s = (step_of_cut h.sized p (numbered p.answers)).ending in
        let as_said = (ending_done false (by_tape d start predicted) tape (numbered p.answers)).foretold in
        record {
          starts = s.start_after;
          goes = ap (λ (b : Bool). cond b flushed (cut_by tape (start + 1))) as_said;
          predicts = ap (λ (x : List ℕ). x ∷ []) s.predicted_after;
        }
    cuts_follow (Err why) p = idle (kept_start (left _ p.leaves (refusal_not_done why) (numbered p.answers)))

    reopened_follows : {d' : Desk} {predicted : List ℕ} → d.state.count ≡ 0 → Follows d start reopened (by_tape d' start predicted)
    unfolding start_after GoesBy shows
    reopened_follows empty = record { starts = refl; goes = writes_counted d (omega (arith, h.sized, h.facts.few)) ∙ empty; predicts = refl }

    openings_follow : {d' : Desk} {predicted : List ℕ} (a : Answer) → d.state.count ≡ 0
        → Follows d start (if_answered a reopened) (by_tape d' start predicted)
    openings_follow (Ok unit) empty = reopened_follows empty
    openings_follow (Err why) empty = idle refl

    follows : {e : Event} {t' : TapeDesk} → TapeStep sheet tape d start e t' → Follows d start e t'
    follows (judged_write {answer = a} j p) = writes_follow a p
    follows (flush {answer = a} p) = flushes_follow a p
    follows (cut {answer = a} p) = cuts_follow a p
    follows (reopen {answer = a} empty p) = openings_follow a empty
    follows (restart empty same p) = reopened_follows empty
    follows (other s) = idle refl

  module _ (image : List ℕ) where
    -- what holds along a run by tape, beside what holds along every run
    record Along (h : History) (d : Desk) (start : ℕ) (shown : List (List ℕ)) : Type 0 where
      start_told : start ≡ epoch_start (chunk_size d) image h
      chosen : ChosenBy (chunk_size d) image tape h
      shown_told : shown ≡ predictions (chunk_size d) image tape h

    -- the image predicted for a desk whose view and start the history tells
    foretells : (h : History) (d : Desk) {start : ℕ} → view d ≡ replay (chunk_size d) image h → start ≡ epoch_start (chunk_size d) image h
        → predicted_now d tape start ≡ prediction (chunk_size d) image tape h
    unfolding replay
    foretells h d {start} seen starts =
        predicted_is_the_end (chunk_size d) (view d) tape start
        ∙ ap₂ (λ (v : AsyncView) (a : ℕ). committed (happen (chunk_size d) v (foretold_end tape a))) seen starts

    along : {h : History} {d : Desk} {start : ℕ} {shown : List (List ℕ)} → TapeRun sheet tape image h d start shown → Along h d start shown
    unfolding epoch_start ChosenBy predictions
    along (opened same o) = record { start_told = refl; chosen = tt; shown_told = refl }
    along (◌and◌ {h = h} {d} {start} {e = e} {t'} r s) =
        let i = invariant sheet image (forget r) in
        let before = along r in
        let f = follows i.holds s in
        let starts = f.starts ∙ ap₂ (λ (v : AsyncView) (a : ℕ). start_after (chunk_size d) v a e) i.replayed before.start_told in
        let seen = (invariant sheet image (run.◌and◌ (forget r) (forget_step s))).replayed in
        record {
          start_told = starts;
          chosen = (
            before.chosen,
            subst (λ (a : ℕ). GoesBy tape (replay (chunk_size d) image h) a e) before.start_told
                (subst (λ (v : AsyncView). GoesBy tape v start e) i.replayed f.goes),
          );
          shown_told =
              ap₂ (λ (a b : List (List ℕ)). a ++ b)
              (f.predicts ∙ ap (shows e) (foretells (h then e) t'.memory seen starts))
              before.shown_told;
        }

  -- the theorem
  pub tape_session : {image : List ℕ} {h : History} {d : Desk} {start : ℕ} {shown : List (List ℕ)} → TapeRun sheet tape image h d start shown
      → TapeSession sheet tape image h d start shown
  tape_session {image} {h} {d} {start} r =
      let i = invariant sheet image (forget r) in
      let a = along image r in
      let predicted_told = foretells image h d i.replayed a.start_told in
      record {
        session = session sheet image (forget r);
        choices_are_the_tapes = a.chosen;
        start_is_told = a.start_told;
        predictions_are_told = a.shown_told;
        last_one_stands = λ last before e. stands (chunk_size d) image tape h a.chosen last before (sym a.shown_told ∙ e);
        flush_leaves_the_prediction = λ {predicted} {t'} p. (step_of_flush i.holds.sized p (sym p.answers)).ending.image_after ∙ predicted_told;
        cut_leaves_the_prediction = λ {predicted} {k} {t'} p. (step_of_cut i.holds.sized p (numbered p.answers)).ending.image_after ∙ predicted_told;
      }

  -- and at every prefix
  pub tape_session_throughout : {image : List ℕ} {h : History} {d : Desk} {start : ℕ} {shown : List (List ℕ)} (r : TapeRun sheet tape image h d start shown)
      → TapeThroughout sheet tape (TapeSession sheet tape image) r
  unfolding TapeThroughout
  tape_session_throughout (opened same o) = tape_session (opened same o)
  tape_session_throughout (r and s) = (tape_session_throughout r, tape_session (r and s))
