-- `main_first_time` of power_sound_t.rs, which promises nothing: a session under the example's sheet has the example's history, an opening and in each round
-- four admitted writes and two flushes, and ends with the image and the log buffer that `Runs` promises; so what the session theorem says holds after
-- every one of these calls. That `run` makes just these calls is its text; that it ends as they do is `ends_alike`. Assumes nothing.
use Prim.Native.Nat.{ℕ, zero, suc, ◌^◌, ◌<◌}
use native.Mathlib.Numerals.{add-one}
use native.Mathlib.Omega.{arith}
use mathlib.Core.Path.{◌≡◌, refl, sym, ap, ap₂, subst⁻¹, ◌∙◌}
use mathlib.Core.List.{List, []}
use lib.ListN.{length}
use Rattle.region.proofs.AnswerLaws.{done_changed, changed}
use Rattle.region.specs.Answer.{done}
use Rattle.bits.specs.Bits.{byte_bits}
use Rattle.pieces.specs.AsyncSpec.{AsyncView}
use Rattle.cuts.proofs.Flush.{flush_leaves_the_read_image}
use Rattle.sheet.specs.Sheet.{obeys}
use Rattle.desk.specs.State.{fresh}
use Rattle.desk.specs.Desk.{Desk, desk, chunk_size, view}
use Rattle.desk.specs.declared.state.State.{State}
use Rattle.desk.proofs.Soundness.{facts_sound}
use Rattle.writelog.proofs.FlushLaws.{flushes_done}
use Rattle.gate.specs.Opening.{Opens}
use Rattle.gate.proofs.Meaning.{admitting}
use Rattle.rounds.specs.Valid.{app_valid, app_sheet}
use Rattle.example.specs.Run.{run_number, Runs}
use Rattle.rounds.specs.Steps.{Under, Goes}
use Rattle.example.specs.Run.{Repeats}
use Rattle.example.proofs.NumberLaws.{Fit, run_0_fits, opening_decides}
use Rattle.rounds.proofs.SheetLaws.{app_sheet_formed, sheet_says_valid}
use Rattle.rounds.proofs.StepLaws.{once_admissible, once, twice_admissible, twice, logged_both, pair_goes, first_value, second_value}
use Rattle.rounds.proofs.StepLaws.{under_after, under_turned, goes_on}
use Rattle.example.proofs.RepeatLaws.{repeats_none, repeats_more}
use Rattle.boundary.specs.Lent.{Lent, desk_of, lent_of}
use Rattle.boundary.specs.Example.{SkaldriftRun}
use Rattle.session.specs.History.{History, opening, happen, replay}
use Rattle.session.specs.Run.{Run, opened, ◌and◌, gate, flush, Throughout}
use Rattle.session.specs.Theorem.{Session}
use Rattle.session.proofs.Theorem.{session, session_throughout}
use Rattle.linked.specs.Calls.{Calls}
use Rattle.linked.proofs.Runs.{linked_session}
use Rattle.linked.proofs.Linking.{run_is_calls}
pub use Rattle.audit.proofs.Round.{pair_of, round_of}

-- the history of the rounds
pub rounds_of : (addr val0 val1 rounds : ℕ) → History
rounds_of addr val0 val1 zero = opening
rounds_of addr val0 val1 (suc n) = round_of addr val0 val1 (rounds_of addr val0 val1 n)

-- the last call of a round is a flush
rounds_settle : (C : ℕ) (image : List ℕ) (addr val0 val1 rounds : ℕ) → (replay C image (rounds_of addr val0 val1 rounds)).outstanding_writes ≡ []
unfolding rounds_of replay happen
rounds_settle C image addr val0 val1 zero = refl
rounds_settle C image addr val0 val1 (suc n) = ap (λ (v : AsyncView). v.outstanding_writes) (flush_leaves_the_read_image _)

module _ (sheet opened_image : List ℕ) where
  -- a session that goes on with this history, after which the two values have been written and flushed
  record Went (h : History) (d : Desk) (addr first second : ℕ) : Type 0 where
    now : Desk
    work_now : List ℕ
    goes : Goes d addr first second done now work_now
    run : Run sheet opened_image h now

  module _ {d : Desk} {work : List ℕ} {addr a b : ℕ} (u : Under d sheet work addr a b) {h : History} (r : Run sheet opened_image h d) where
    pair_goes_on : Went (pair_of addr a b h) d addr a b
    pair_goes_on =
        let fits₁ = once_admissible u in
        let g₁ = admitting fits₁.0 fits₁.1 in
        let there₁ = once u g₁ in
        let fits₂ = twice_admissible u there₁ in
        let g₂ = admitting fits₂.0 fits₂.1 in
        let f = flushes_done (facts_sound _ _ _ (logged_both u).facts) refl in
        record { now = _; work_now = _; goes = pair_goes u (twice u there₁ g₂) f; run = r and gate g₁ and gate g₂ and flush f }

  round_goes_on : {d : Desk} {work : List ℕ} {addr a b : ℕ} → Under d sheet work addr a b → {h : History} → Run sheet opened_image h d
      → Went (round_of addr a b h) d addr b a
  round_goes_on {a = a} {b} u r =
      let there = pair_goes_on u r in
      let back = pair_goes_on (under_turned (under_after u there.goes (second_value a b))) there.run in
      record { now = _; work_now = _; goes = goes_on there.goes back.goes; run = back.run }

  -- the rounds, each on an empty log
  record Gone (d : Desk) (work : List ℕ) (addr val0 val1 rounds : ℕ) : Type 0 where
    now : Desk
    work_now : List ℕ
    repeats : Repeats d.image d.log work addr val0 val1 rounds done now.image now.log work_now
    under : Under now sheet work_now addr val0 val1
    run : Run sheet opened_image (rounds_of addr val0 val1 rounds) now

  rounds_go_on : {d : Desk} {work : List ℕ} {addr val0 val1 : ℕ} → Under d sheet work addr val0 val1 → Run sheet opened_image opening d
      → (rounds : ℕ) → Gone d work addr val0 val1 rounds
  unfolding rounds_of
  rounds_go_on {d} {work} u r zero = record { now = d; work_now = work; repeats = repeats_none; under = u; run = r }
  rounds_go_on {val0 = val0} {val1} u r (suc n) =
      let before = rounds_go_on u r n in
      let more = round_goes_on before.under before.run in
      record {
        now = more.now;
        work_now = more.work_now;
        repeats = rw (sym (add-one n)) (repeats_more before.repeats more.goes);
        under = under_after before.under more.goes (first_value val0 val1);
        run = more.run;
      }

module _ (image log work : List ℕ) (addr val0 val1 rounds : ℕ) (byte0 : val0 < 2 ^ byte_bits) (byte1 : val1 < 2 ^ byte_bits)
    {image' log' work' : List ℕ} (p : Runs image log work addr val0 val1 rounds done image' log' work') where
  abbrev sheet : List ℕ
  sheet = app_sheet addr val0 val1

  abbrev first : Desk
  first = desk image fresh log

  none : run_number image log work addr val0 val1 rounds ≡ 0
  none = sym p.answers

  fit : Fit (length image) (length log) (length work) addr rounds
  fit = (run_0_fits image log work addr val0 val1 rounds none).0

  says : (before after : List ℕ) → obeys sheet before after ≡ app_valid addr val0 val1 after
  says = sheet_says_valid addr val0 val1 (omega (arith, fit.lies, fit.short)) byte0 byte1

  opens : Opens first sheet done first
  opens =
      let formed = app_sheet_formed addr val0 val1 (omega (arith, fit.lies, fit.short)) byte0 byte1 in
      let decides = opening_decides first sheet work addr val0 val1 rounds fit formed says ∙ none in
      record { answers = sym decides; leaves = done_changed first decides }

  under : Under first sheet work addr val0 val1
  under =
      let good = (run_0_fits image log work addr val0 val1 rounds none).1 in
      record { idle = record { sized = refl; empty = refl }; short = fit.short; buffer = fit.buffer; same = fit.same; good = good; says = says }

  pub first_time_is_a_run : (st : State) × Run sheet image (rounds_of addr val0 val1 rounds) (desk image' st log')
  first_time_is_a_run =
      let gone = rounds_go_on sheet image under (opened refl opens) rounds in
      let st = gone.now.state in
      let image_same = changed _ p.image_after none ∙ sym gone.repeats.image_after in
      let log_same = changed _ p.log_after none ∙ sym gone.repeats.log_after in
      (st, subst⁻¹ (Run sheet image (rounds_of addr val0 val1 rounds)) (ap₂ (λ (x l : List ℕ). desk x st l) image_same log_same) gone.run)

  -- the three sentences of demand 3, after the opening and after every write and flush of the rounds
  pub first_time_holds : Throughout sheet (Session sheet image) first_time_is_a_run.1
  first_time_holds = session_throughout sheet image first_time_is_a_run.1

-- what a session ends with: this image, and no write outstanding
abbrev pub EndedWith : Lent → (image : List ℕ) → Type 0
EndedWith m image = (m.image ≡ image) × ((view (desk_of m)).outstanding_writes ≡ [])

-- skaldrift_run, and a session of linked calls that makes its calls, end alike.
module _ (image log work : List ℕ) (addr val0 val1 rounds : ℕ) (byte0 : val0 < 2 ^ byte_bits) (byte1 : val1 < 2 ^ byte_bits)
    {image' log' work' : List ℕ} (p : SkaldriftRun image log work addr val0 val1 rounds 0 image' log' work') where
  its_run : (st : State) × Run (app_sheet addr val0 val1) image (rounds_of addr val0 val1 rounds) (desk image' st log')
  its_run =
      first_time_is_a_run image log work addr val0 val1 rounds byte0 byte1
      (record { answers = p.answers; image_after = p.image_after; log_after = p.log_after; work_after = p.work_after })

  -- There is such a session, which ends with the image and the log buffer that skaldrift_run leaves,
  pub linked_first_time : (st : State) × Calls (app_sheet addr val0 val1) image (rounds_of addr val0 val1 rounds) (lent_of (desk image' st log'))
  linked_first_time = (its_run.0, run_is_calls (app_sheet addr val0 val1) its_run.1)

  -- and every one ends with that image and no write outstanding.
  pub ends_alike : {m : Lent} → Calls (app_sheet addr val0 val1) image (rounds_of addr val0 val1 rounds) m → EndedWith m image'
  ends_alike {m} calls =
      let theirs = linked_session (app_sheet addr val0 val1) image calls in
      let its = session (app_sheet addr val0 val1) image its_run.1 in (
        theirs.image_is_the_replay ∙ sym its.image_is_the_replay,
        theirs.outstanding_are_the_replay ∙ rounds_settle (chunk_size (desk_of m)) image addr val0 val1 rounds,
      )
