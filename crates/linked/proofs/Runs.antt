-- A run of linked calls is a run of the library's, so demand 3 holds of it. Assumes nothing.
use Prim.Native.Nat.{ℕ, suc}
use native.Mathlib.Nat.{suc-ne-zero}
use native.Mathlib.Omega.{arith}
use mathlib.Core.Path.{◌≡◌, refl, sym, ap, subst, ◌∙◌}
use mathlib.Core.Bool.{Bool, true, false}
use mathlib.Core.List.{List, []}
use lib.Dec.{eqb}
use lib.ListN.{length}
use borrow.Author.Tests.{eqb-true}
use Rattle.std.specs.Prelude.{Err, Ok}
use Rattle.region.specs.Limits.{log_limit}
use Rattle.region.specs.Answer.{answer_number, Answer, done, Counted, counted_report}
use Rattle.region.specs.declared.Refusal.{Refusal}
use Rattle.region.proofs.AnswerLaws.{answers_by_number, refusal_not_done, done_changed, refused_left}
use Rattle.pieces.specs.AsyncSpec.{Write}
use Rattle.cuts.specs.Packed.{AreBytes}
use Rattle.desk.specs.State.{fresh}
use Rattle.desk.specs.Desk.{Desk, desk, settled_desk}
use Rattle.gate.specs.Opening.{open_number, Opens}
use Rattle.gate.specs.Judgement.{verdict_report, Judges, Judged}
use Rattle.gate.specs.Meaning.{CouldBeLeft}
use Rattle.gate.specs.declared.Verdict.TheVariants as verdict
use Rattle.gate.proofs.OpeningLaws.{opens_other_log}
use Rattle.boundary.specs.Words.{state_words}
use Rattle.boundary.specs.Lent.{Lent, desk_of, lent_of, plainly}
use Rattle.boundary.specs.Gate.{SkaldriftOpen, SkaldriftJudge}
use Rattle.boundary.proofs.CallLaws.{StateSized, sized_if_done}
use Rattle.boundary.proofs.FunctionLaws.{cut_right}
use Rattle.session.specs.History.{Event, nothing, cut_by, reopened, History, opening, ◌then◌, if_answered, if_admitted, if_cut}
use Rattle.session.specs.Run.{Step, Run, Throughout}
use Rattle.session.specs.Run as run
use Rattle.session.specs.Theorem.{Session}
use Rattle.session.proofs.Theorem.{power_loss_cuts, session, session_throughout}
use Rattle.linked.proofs.Promises.{linked_open, sized_after_open, linked_write, sized_after_write, linked_read, linked_flush, sized_after_flush, linked_cut, sized_after_cut, linked_judge, linked_gate, sized_after_gate, linked_tape_write, sized_after_tape_write, linked_tape_flush, sized_after_tape_flush, linked_tape_cut, sized_after_tape_cut}
use Rattle.linked.specs.Calls.{if_0, Call, gate, judge, judged_write, judged_tape_write, refused_write, refused_tape_write, flush, tape_flush, cut, tape_cut, reopen, restart, refused_opening, read, Calls, opened, ◌and◌}

-- the event goes by the number
pub answer_event : (a : Answer) (e : Event) {n : ℕ} → answer_number a ≡ n → if_answered a e ≡ if_0 n e
answer_event (Ok unit) e same = done_changed _ (sym same)
answer_event (Err why) e same = refused_left why _ (sym same)

pub verdict_event : (v : Judged) (e : Event) {n : ℕ} → (verdict_report v).number ≡ n → if_admitted v e ≡ if_0 n e
verdict_event (Ok (verdict.Admitted k)) e same = done_changed _ (sym same)
verdict_event (Ok (verdict.Denied m)) e same = ap (λ (n : ℕ). if_0 n e) same
verdict_event (Err why) e same = refused_left why _ (sym same)

pub cut_event : (c : Counted) (e : Event) {n : ℕ} → (counted_report c).number ≡ n → if_cut c e ≡ if_0 n e
cut_event (Ok k) e same = done_changed _ (sym same)
cut_event (Err why) e same = refused_left why _ (sym same)

-- number 0 is 'done', 'kept' and 'admitted', and an answer's other numbers are refusals
pub done_of : (a : Answer) → answer_number a ≡ 0 → a ≡ done
done_of a same = answers_by_number a done same

pub kept_of : (c : Counted) → (counted_report c).number ≡ 0 → (k : ℕ) × (c ≡ Ok k)
kept_of (Ok k) same = (k, refl)
kept_of (Err why) same = absurd (omega (arith, refusal_not_done why))

pub admitted_of : (v : Judged) → (verdict_report v).number ≡ 0 → (n : ℕ) × (v ≡ Ok (verdict.Admitted n))
admitted_of (Ok (verdict.Admitted n)) same = (n, refl)
admitted_of (Ok (verdict.Denied m)) same = absurd (suc-ne-zero 7 same)
admitted_of (Err why) same = absurd (omega (arith, refusal_not_done why))

refused_of : (a : Answer) {why : ℕ} → answer_number a ≡ suc why → (r : Refusal) × (a ≡ Err r)
refused_of (Ok unit) {why} same = absurd (suc-ne-zero why (sym same))
refused_of (Err r) same = (r, refl)

-- a good opening is the library's, and leaves words that say a state
pub opens : {m : Lent} {sheet : List ℕ} {m' : Lent} → SkaldriftOpen m sheet 0 m' → StateSized plainly m' × Opens (desk_of m) sheet done (desk_of m')
opens {m} {sheet} p =
    let sized = sized_if_done plainly m (λ d. open_number d sheet) (sym p.does.answers) in
    let (a, same, o) = linked_open sized p in
    (sized_after_open sized p, rw (done_of a same) at o)

-- a verdict of number 0 is the library's
pub admits : {m : Lent} {sheet work : List ℕ} {w : Write} {report : ℕ} {work' : List ℕ} {report' : ℕ} → StateSized plainly m
    → SkaldriftJudge m sheet work w report 0 work' report' → (n : ℕ) × Judges (desk_of m) sheet work w (Ok (verdict.Admitted n)) work'
admits sized p =
    let (v, same, told, j) = linked_judge sized p in
    let (n, is) = admitted_of v same in
    (n, rw is at j)

-- after a session the next skaldrift_open, handed as many words as a state has and a log buffer of its size, answers 0 over any image that a cut could leave
pub opening_answers_0 : {sheet image : List ℕ} {h : History} {d : Desk} → Session sheet image h d → (found : Lent) → CouldBeLeft d found.image
    → StateSized plainly found → length found.log ≡ log_limit → {number : ℕ} {m' : Lent} → SkaldriftOpen found sheet number m' → number ≡ 0
opening_answers_0 s found left sized buffer p =
    let (a, same, o) = linked_open sized p in
    sym same ∙ ap answer_number (s.next_opening_done (desk_of found) left buffer o)

module _ (sheet : List ℕ) where
  renamed : {d d' : Desk} {e e' : Event} → e ≡ e' → Step sheet d e d' → Step sheet d e' d'
  renamed {d} {d'} same s = subst (λ (e : Event). Step sheet d e d') same s

  -- A refused opening leaves the desk alone. Over words that say no state it is no call of the library's: there a call stands for it that is refused too,
  -- over an empty log buffer.
  refused_over_any : (d : Desk) {found found' : Lent} {why : ℕ} → SkaldriftOpen found sheet (suc why) found' → Step sheet d nothing d
  refused_over_any d {found} {found'} {why} p = go (eqb (length found.words) state_words) refl
    where
      go : (t : Bool) → eqb (length found.words) state_words ≡ t → Step sheet d nothing d
      go true e =
          let (a, same, o) = linked_open (eqb-true (length found.words) state_words e) p in
          let (r, is) = refused_of a same in
          run.refused_opening (rw is at o)
      go false e = run.refused_opening (opens_other_log {d = desk [] fresh []} (λ same. absurd (omega (arith, same))))

  -- each call leaves words that say a state again, and is a step of the library
  pub call_is_a_step : {m : Lent} {e : Event} {m' : Lent} → StateSized plainly m → Call sheet m e m' → StateSized plainly m' × Step sheet (desk_of m) e (desk_of m')
  call_is_a_step sized (gate p) = let (v, same, told, g) = linked_gate sized p in (sized_after_gate sized p, renamed (verdict_event v _ same) (run.gate g))
  call_is_a_step sized (judge p) = let (v, same, told, j) = linked_judge sized p in (sized, run.judge j)
  call_is_a_step sized (judged_write j p) =
      let (a, same, w) = linked_write sized p in
      (sized_after_write sized p, renamed (answer_event a _ same) (run.judged_write (admits sized j).1 w))
  call_is_a_step sized (judged_tape_write j p) =
      let (a, same, w) = linked_tape_write sized p in
      (sized_after_tape_write sized p, renamed (answer_event a _ same) (run.judged_tape_write (admits sized j).1 w))
  call_is_a_step sized (refused_write p) =
      let (a, same, w) = linked_write sized p in
      let (r, is) = refused_of a same in
      (sized_after_write sized p, run.refused_write (rw is at w))
  call_is_a_step sized (refused_tape_write p) =
      let (a, same, w) = linked_tape_write sized p in
      let (r, is) = refused_of a same in
      (sized_after_tape_write sized p, run.refused_tape_write (rw is at w))
  call_is_a_step sized (flush p) = let (a, same, f) = linked_flush sized p in (sized_after_flush sized p, renamed (answer_event a _ same) (run.flush f))
  call_is_a_step sized (tape_flush p) =
      let (a, same, f) = linked_tape_flush sized p in
      (sized_after_tape_flush sized p, renamed (answer_event a _ same) (run.tape_flush f))
  call_is_a_step sized (cut p) = let (a, same, told, c) = linked_cut sized p in (sized_after_cut sized p, renamed (cut_event a _ same) (run.cut c))
  call_is_a_step sized (tape_cut p) =
      let (a, same, told, c) = linked_tape_cut sized p in
      (sized_after_tape_cut sized p, renamed (cut_event a _ same) (run.tape_cut c))
  call_is_a_step sized (reopen p) = let (a, same, o) = linked_open sized p in (sized_after_open sized p, renamed (answer_event a _ same) (run.reopen o))
  call_is_a_step sized (restart image p) = let (again, o) = opens p in (again, run.restart image o)
  call_is_a_step sized (refused_opening {m = m} p) = (sized, refused_over_any (desk_of m) p)
  call_is_a_step sized (read p) = let (a, same, f) = linked_read sized p in (sized, run.fill f)

  module _ (image : List ℕ) where
    linked_both : {h : History} {m : Lent} → Calls sheet image h m → StateSized plainly m × Run sheet image h (desk_of m)
    linked_both (opened same p) = let (sized, o) = opens p in (sized, run.opened same o)
    linked_both (calls and c) =
        let (sized, r) = linked_both calls in
        let (again, s) = call_is_a_step sized c in
        (again, run.◌and◌ r s)

    -- the desk's words stay a state's, and the calls are a run of the library's
    pub linked_words : {h : History} {m : Lent} → Calls sheet image h m → StateSized plainly m
    linked_words calls = (linked_both calls).0

    pub calls_are_a_run : {h : History} {m : Lent} → Calls sheet image h m → Run sheet image h (desk_of m)
    calls_are_a_run calls = (linked_both calls).1

    -- so demand 3 holds of them
    pub linked_session : {h : History} {m : Lent} → Calls sheet image h m → Session sheet image h (desk_of m)
    linked_session calls = session sheet image (calls_are_a_run calls)

    -- at every prefix too
    pub linked_session_throughout : {h : History} {m : Lent} (calls : Calls sheet image h m) → Throughout sheet (Session sheet image) (calls_are_a_run calls)
    linked_session_throughout calls = session_throughout sheet image (calls_are_a_run calls)

    module _ {h : History} {m : Lent} (calls : Calls sheet image h m) (found : Lent) (left : CouldBeLeft (desk_of m) found.image)
        (sized : StateSized plainly found) (buffer : length found.log ≡ log_limit) {number : ℕ} {m' : Lent} (p : SkaldriftOpen found sheet number m') where
      -- the next opening is answered 0, over any image that a cut could leave,
      pub linked_next_opening : number ≡ 0
      linked_next_opening = opening_answers_0 (linked_session calls) found left sized buffer p

      reopens : SkaldriftOpen found sheet 0 m'
      reopens = subst (λ (n : ℕ). SkaldriftOpen found sheet n m') linked_next_opening p

      -- and goes on with the history: a cut by some table, and a reopening over other memory.
      pub linked_power_loss_goes_on : (table : List ℕ) × AreBytes table × Calls sheet image (h then cut_by table 0 then reopened) m'
      linked_power_loss_goes_on =
          let lost = power_loss_cuts sheet image (calls_are_a_run calls) found.image left in
          let loses : Call sheet m (cut_by lost.0 0) (lent_of (settled_desk (desk_of m) found.image)) =
          cut {report = 0} (cut_right (linked_words calls) refl refl refl refl lost.2) in
          (lost.0, lost.1, calls and loses and restart refl reopens)

      -- It begins a run of its own too: what the original assumes as `held_before_crash`.
      pub linked_held_before_crash : Calls sheet found.image opening m'
      linked_held_before_crash = opened refl reopens
