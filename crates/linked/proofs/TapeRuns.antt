-- A run of linked calls by tape is a run of the library's by tape, so the theorem of a session by tape holds of it. Assumes nothing.
use Prim.Native.Nat.{ℕ}
use mathlib.Core.Path.{◌≡◌, subst}
use mathlib.Core.List.{List}
use lib.ListN.{length}
use Rattle.region.specs.Limits.{log_limit}
use Rattle.desk.specs.Desk.{Desk, chunk_size}
use Rattle.gate.specs.Meaning.{CouldBeLeft}
use Rattle.tape.specs.Memory.{TapeDesk}
use Rattle.boundary.specs.Lent.{Lent, desk_of, TapeLent, lent_by_tape, tape_desk_of, plainly, on_tape}
use Rattle.boundary.specs.Gate.{SkaldriftOpen}
use Rattle.boundary.specs.Tape.{SkaldriftTapeFlush, SkaldriftTapeCut}
use Rattle.boundary.proofs.CallLaws.{StateSized}
use Rattle.session.specs.History.{Event, History}
use Rattle.session.specs.TapeRun.{TapeStep, TapeRun, TapeThroughout}
use Rattle.session.specs.TapeRun as run
use Rattle.session.specs.TapeTheorem.{prediction, TapeSession}
use Rattle.session.proofs.TapeTheorem.{tape_session, tape_session_throughout}
use Rattle.linked.proofs.Promises.{linked_open, sized_after_open, linked_tape_write, sized_after_tape_write, linked_tape_flush, sized_after_tape_flush, linked_tape_cut, sized_after_tape_cut}
use Rattle.linked.proofs.Runs.{answer_event, cut_event, done_of, kept_of, opens, admits, call_is_a_step, opening_answers_0}
use Rattle.linked.specs.TapeCalls.{TapeCall, judged_write, flush, cut, reopen, restart, other, TapeCalls, opened, ◌and◌}

module _ (sheet tape : List ℕ) where
  renamed : {d : Desk} {start : ℕ} {t' : TapeDesk} {e e' : Event} → e ≡ e' → TapeStep sheet tape d start e t' → TapeStep sheet tape d start e' t'
  renamed {d} {start} {t'} same s = subst (λ (e : Event). TapeStep sheet tape d start e t') same s

  -- each call leaves words that say a state again, and is a step of the library
  pub tape_call_is_a_step : {m : Lent} {start : ℕ} {e : Event} {t' : TapeLent} → StateSized plainly m → TapeCall sheet tape m start e t'
      → StateSized on_tape t' × TapeStep sheet tape (desk_of m) start e (tape_desk_of t')
  tape_call_is_a_step sized (judged_write j p) =
      let (a, same, w) = linked_tape_write sized p in
      (sized_after_tape_write sized p, renamed (answer_event a _ same) (run.judged_write (admits sized j).1 w))
  tape_call_is_a_step sized (flush p) =
      let (a, same, f) = linked_tape_flush sized p in
      (sized_after_tape_flush sized p, renamed (answer_event a _ same) (run.flush f))
  tape_call_is_a_step sized (cut p) =
      let (a, same, told, c) = linked_tape_cut sized p in
      (sized_after_tape_cut sized p, renamed (cut_event a _ same) (run.cut c))
  tape_call_is_a_step sized (reopen empty p) =
      let (a, same, o) = linked_open sized p in
      (sized_after_open sized p, renamed (answer_event a _ same) (run.reopen empty o))
  tape_call_is_a_step sized (restart empty image p) = let (again, o) = opens p in (again, run.restart empty image o)
  tape_call_is_a_step sized (other c) = let (again, s) = call_is_a_step sheet sized c in (again, run.other s)

  module _ (image : List ℕ) where
    linked_both : {h : History} {m : Lent} {start : ℕ} {shown : List (List ℕ)} → TapeCalls sheet tape image h m start shown
        → StateSized plainly m × TapeRun sheet tape image h (desk_of m) start shown
    linked_both (opened same p) = let (sized, o) = opens p in (sized, run.opened same o)
    linked_both (calls and c) =
        let (sized, r) = linked_both calls in
        let (again, s) = tape_call_is_a_step sized c in
        (again, run.◌and◌ r s)

    module _ {h : History} {m : Lent} {start : ℕ} {shown : List (List ℕ)} (calls : TapeCalls sheet tape image h m start shown) where
      pub tape_calls_are_a_run : TapeRun sheet tape image h (desk_of m) start shown
      tape_calls_are_a_run = (linked_both calls).1

      -- the image predicted at each step is the replay with the tape's choices, at every prefix too
      pub linked_tape_session : TapeSession sheet tape image h (desk_of m) start shown
      linked_tape_session = tape_session sheet tape tape_calls_are_a_run

      pub linked_tape_session_throughout : TapeThroughout sheet tape (TapeSession sheet tape image) tape_calls_are_a_run
      linked_tape_session_throughout = tape_session_throughout sheet tape tape_calls_are_a_run

      -- the next opening is answered 0, whatever of the outstanding writes was lost
      pub linked_tape_next_opening : (found : Lent) → CouldBeLeft (desk_of m) found.image → StateSized plainly found → length found.log ≡ log_limit
          → {number : ℕ} {m' : Lent} → SkaldriftOpen found sheet number m' → number ≡ 0
      linked_tape_next_opening = opening_answers_0 linked_tape_session.session

      sized : StateSized plainly m
      sized = (linked_both calls).0

      -- and the flush or the cut by tape that answers 0 leaves the image predicted, whatever buffer it is lent
      pub linked_flush_leaves_the_prediction : {predicted : List ℕ} {t' : TapeLent} → SkaldriftTapeFlush (lent_by_tape m start predicted) tape 0 t'
          → t'.memory.image ≡ prediction (chunk_size (desk_of m)) image tape h
      linked_flush_leaves_the_prediction p =
          let (a, same, f) = linked_tape_flush sized p in
          linked_tape_session.flush_leaves_the_prediction (rw (done_of a same) at f)

      pub linked_cut_leaves_the_prediction : {predicted : List ℕ} {report : ℕ} {t' : TapeLent} {report' : ℕ}
          → SkaldriftTapeCut (lent_by_tape m start predicted) tape report 0 t' report'
          → t'.memory.image ≡ prediction (chunk_size (desk_of m)) image tape h
      linked_cut_leaves_the_prediction p =
          let (a, same, told, c) = linked_tape_cut sized p in
          let (k, is) = kept_of a same in
          linked_tape_session.cut_leaves_the_prediction (rw is at c)
