-- A run of the library's is a run of linked calls: a desk that links the functions can make every run that the theorems speak of. Its openings are carried
-- over to the words of a fresh state, since an opening looks at none; that they may be handed other words is said beside it. Assumes nothing.
use Prim.Native.Nat.{ℕ, zero, suc, ◌<◌}
use native.Mathlib.Omega.{arith}
use mathlib.Core.Path.{◌≡◌, refl, sym, subst, ◌∙◌}
use mathlib.Core.List.{List, []}
use lib.ListN.{length}
use Rattle.std.specs.Prelude.{Err}
use Rattle.region.specs.Limits.{writes_limit}
use Rattle.region.specs.Answer.{refusal_number, done}
use Rattle.region.specs.declared.Refusal.{Refusal}
use Rattle.region.proofs.AnswerLaws.{refusal_not_done, changed, done_changed, refused_left}
use Rattle.desk.specs.State.{fresh}
use Rattle.desk.specs.Desk.{Desk, desk}
use Rattle.writelog.specs.Read.{Fills}
use Rattle.gate.specs.Opening.{open_number, Opens}
use Rattle.tape.specs.Memory.{TapeDesk}
use Rattle.boundary.specs.Words.{state_of}
use Rattle.boundary.specs.Lent.{Lent, lent, TapeLent, lent_of, tape_lent_of, plainly}
use Rattle.boundary.specs.Gate.{SkaldriftOpen}
use Rattle.boundary.proofs.WordLaws.{state_back, words_length}
use Rattle.boundary.proofs.CallLaws.{StateSized, wrong}
use Rattle.boundary.proofs.FunctionLaws.{read_right, judge_right, gate_right, write_right, flush_right, open_right, cut_right, tape_write_right, tape_flush_right, tape_cut_right}
use Rattle.session.specs.History.{Event, nothing, History}
use Rattle.session.specs.Run.{Step, Run}
use Rattle.session.specs.Run as run
use Rattle.session.specs.TapeRun.{TapeStep, TapeRun}
use Rattle.session.specs.TapeRun as tape_run
use Rattle.session.proofs.Theorem.{invariant}
use Rattle.session.proofs.TapeTheorem.{forget}
use Rattle.worked.proofs.Calls.{zeros, eight_is_nine, any_log, image_with, written_down, tape}
use Rattle.session.proofs.Worked.{the_history, the_run, the_tape_history, the_images, the_tape_run}
use Rattle.linked.proofs.Numbers.{read_answers}
use Rattle.linked.proofs.Runs.{answer_event, verdict_event, cut_event}
use Rattle.linked.specs.Calls.{Call, Calls}
use Rattle.linked.specs.Calls as calls
use Rattle.linked.specs.TapeCalls.{TapeCall, TapeCalls}
use Rattle.linked.specs.TapeCalls as tape_calls

-- a refusal's number is one more than another
pub one_more : (why : Refusal) → (k : ℕ) × (suc k ≡ refusal_number why)
one_more why = go (refusal_number why) (refusal_not_done why)
  where
    go : (n : ℕ) → 0 < n → (k : ℕ) × (suc k ≡ n)
    go zero h = absurd (omega (arith, h))
    go (suc n) h = (n, refl)

-- an opening looks at no state: over the words of a fresh one it does the same
abbrev with_fresh_state : Desk → Desk
with_fresh_state found = desk found.image fresh found.log

module _ {sheet : List ℕ} {found d' : Desk} where
  opens_alike : Opens found sheet done d' → Opens (with_fresh_state found) sheet done d'
  unfolding open_number
  opens_alike p = record { answers = p.answers; leaves = changed _ p.leaves (sym p.answers) ∙ done_changed _ (sym p.answers) }

  refused_alike : {why : Refusal} → Opens found sheet (Err why) d' → Opens (with_fresh_state found) sheet (Err why) (with_fresh_state found)
  unfolding open_number
  refused_alike {why} p = record { answers = p.answers; leaves = refused_left why _ (sym p.answers) }

abbrev Full : Desk → Type 0
Full d = length d.state.records ≡ writes_limit

there : (d : Desk) → Full d → StateSized plainly (lent_of d)
there d full = words_length d.state full

loaded : (d : Desk) → d.state ≡ state_of (lent_of d).words
loaded d = sym (state_back d.state)

module _ (sheet : List ℕ) where
  renamed : {m m' : Lent} {e e' : Event} → e ≡ e' → Call sheet m e' m' → Call sheet m e m'
  renamed {m} {m'} same c = subst (λ (e : Event). Call sheet m e m') (sym same) c

  refused_opening_is_a_call : {found d' : Desk} {why : Refusal} {number : ℕ} → number ≡ refusal_number why → Opens found sheet (Err why) d'
      → SkaldriftOpen (lent_of (with_fresh_state found)) sheet number (lent_of (with_fresh_state found))
  refused_opening_is_a_call told p = open_right (words_length fresh refl) (sym (state_back fresh)) refl told (refused_alike p)

  opening_is_a_call : {found d' : Desk} → Opens found sheet done d' → SkaldriftOpen (lent_of (with_fresh_state found)) sheet 0 (lent_of d')
  opening_is_a_call p = open_right (words_length fresh refl) (sym (state_back fresh)) refl refl (opens_alike p)

  pub step_is_a_call : (d : Desk) → Full d → {e : Event} {d' : Desk} → Step sheet d e d' → Call sheet (lent_of d) e (lent_of d')
  step_is_a_call d full (run.gate {answer = v} p) =
      renamed (verdict_event v _ refl) (calls.gate {report = 0} (gate_right (there d full) (loaded d) refl refl refl p))
  step_is_a_call d full (run.judge p) = calls.judge {report = 0} (judge_right (there d full) (loaded d) refl refl p)
  step_is_a_call d full (run.judged_write {answer = a} j p) =
      renamed (answer_event a _ refl)
      (calls.judged_write {report = 0} (judge_right (there d full) (loaded d) refl refl j) (write_right (there d full) (loaded d) refl refl p))
  step_is_a_call d full (run.judged_tape_write {answer = a} j p) =
      renamed (answer_event a _ refl)
      (calls.judged_tape_write {report = 0} (judge_right (there d full) (loaded d) refl refl j) (tape_write_right (there d full) (loaded d) refl refl p))
  step_is_a_call d full (run.refused_write {why = why} p) =
      let (k, number) = one_more why in
      calls.refused_write {why = k} (write_right (there d full) (loaded d) refl number p)
  step_is_a_call d full (run.refused_tape_write {why = why} p) =
      let (k, number) = one_more why in
      calls.refused_tape_write {why = k} (tape_write_right (there d full) (loaded d) refl number p)
  step_is_a_call d full (run.flush {answer = a} p) = renamed (answer_event a _ refl) (calls.flush (flush_right (there d full) (loaded d) refl refl p))
  step_is_a_call d full (run.tape_flush {answer = a} p) =
      renamed (answer_event a _ refl) (calls.tape_flush (tape_flush_right (there d full) (loaded d) refl refl p))
  step_is_a_call d full (run.cut {answer = a} p) =
      renamed (cut_event a _ refl) (calls.cut {report = 0} (cut_right (there d full) (loaded d) refl refl refl p))
  step_is_a_call d full (run.tape_cut {answer = a} p) =
      renamed (cut_event a _ refl) (calls.tape_cut {report = 0} (tape_cut_right (there d full) (loaded d) refl refl refl p))
  step_is_a_call d full (run.reopen {answer = a} p) = renamed (answer_event a _ refl) (calls.reopen (open_right (there d full) (loaded d) refl refl p))
  step_is_a_call d full (run.restart same p) = calls.restart same (opening_is_a_call p)
  step_is_a_call d full (run.refused_opening {why = why} p) =
      let (k, number) = one_more why in
      calls.refused_opening {why = k} (refused_opening_is_a_call number p)
  step_is_a_call d full (run.fill p) = calls.read (read_right (there d full) (loaded d) refl p)
  step_is_a_call d full (run.read {work = work} {addr = addr} {len} p) =
      let (a, same) = read_answers d work.now addr len in
      let fills : Fills d work.now addr len a _ = record { answers = same; fills = refl } in
      calls.read (read_right (there d full) (loaded d) refl fills)

  pub run_is_calls : {image : List ℕ} {h : History} {d : Desk} → Run sheet image h d → Calls sheet image h (lent_of d)
  run_is_calls (run.opened same p) = calls.opened same (opening_is_a_call p)
  run_is_calls {image} (run.◌and◌ r s) = calls.◌and◌ (run_is_calls r) (step_is_a_call _ (invariant sheet image r).holds.sized s)

-- and by tape
module _ (sheet tape : List ℕ) where
  renamed_by_tape : {m : Lent} {start : ℕ} {t' : TapeLent} {e e' : Event} → e ≡ e' → TapeCall sheet tape m start e' t' → TapeCall sheet tape m start e t'
  renamed_by_tape {m} {start} {t'} same c = subst (λ (e : Event). TapeCall sheet tape m start e t') (sym same) c

  pub tape_step_is_a_call : (d : Desk) → Full d → {start : ℕ} {e : Event} {t' : TapeDesk} → TapeStep sheet tape d start e t'
      → TapeCall sheet tape (lent_of d) start e (tape_lent_of t')
  tape_step_is_a_call d full (tape_run.judged_write {answer = a} j p) =
      renamed_by_tape (answer_event a _ refl)
      (tape_calls.judged_write {report = 0} (judge_right (there d full) (loaded d) refl refl j) (tape_write_right (there d full) (loaded d) refl refl p))
  tape_step_is_a_call d full (tape_run.flush {answer = a} p) =
      renamed_by_tape (answer_event a _ refl) (tape_calls.flush (tape_flush_right (there d full) (loaded d) refl refl p))
  tape_step_is_a_call d full (tape_run.cut {answer = a} p) =
      renamed_by_tape (cut_event a _ refl) (tape_calls.cut {report = 0} (tape_cut_right (there d full) (loaded d) refl refl refl p))
  tape_step_is_a_call d full (tape_run.reopen {answer = a} empty p) =
      renamed_by_tape (answer_event a _ refl) (tape_calls.reopen empty (open_right (there d full) (loaded d) refl refl p))
  tape_step_is_a_call d full (tape_run.restart empty same p) = tape_calls.restart empty same (opening_is_a_call sheet p)
  tape_step_is_a_call d full (tape_run.other s) = tape_calls.other (step_is_a_call sheet d full s)

  pub tape_run_is_calls : {image : List ℕ} {h : History} {d : Desk} {start : ℕ} {shown : List (List ℕ)} → TapeRun sheet tape image h d start shown
      → TapeCalls sheet tape image h (lent_of d) start shown
  tape_run_is_calls (tape_run.opened same p) = tape_calls.opened same (opening_is_a_call sheet p)
  tape_run_is_calls {image} (tape_run.◌and◌ r s) =
      tape_calls.◌and◌ (tape_run_is_calls r) (tape_step_is_a_call _ (invariant sheet image (forget sheet tape r)).holds.sized s)

-- the worked runs of `session`, with every kind of step, as a desk makes them that links the functions
pub the_calls : Calls eight_is_nine zeros the_history (lent_of (written_down (image_with 0xBB) 0xBB))
the_calls = run_is_calls eight_is_nine the_run

pub the_tape_calls : TapeCalls eight_is_nine tape (image_with 0xCC) the_tape_history (lent_of (written_down (image_with 0xBB) 0xBB)) 4 the_images
the_tape_calls = tape_run_is_calls eight_is_nine tape the_tape_run

-- an opening that is handed no words at all is refused with 1, and is a call of a run
pub the_opening_over_no_words : (m : Lent) → Call eight_is_nine m nothing m
the_opening_over_no_words m = calls.refused_opening {found = lent zeros [] any_log} {why = 0} (record { does = wrong (λ sized. absurd (omega (arith, sized))) refl })
