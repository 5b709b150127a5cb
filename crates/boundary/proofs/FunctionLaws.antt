-- Each function that a desk links, from the promise of the call under it: words of another number are refused, and the others were loaded, called with and
-- stored. Assumes nothing.
use Prim.Native.Nat.{ℕ, zero, suc, ◌+◌}
use mathlib.Core.Path.{◌≡◌, refl, ap, subst, ◌∙◌}
use mathlib.Core.List.{List}
use Rattle.region.specs.Answer.{Report, answer_number, if_done, Answer, Counted, counted_report}
use Rattle.pieces.specs.AsyncSpec.{Write, readable}
use Rattle.desk.specs.Desk.{Desk, desk, view}
use Rattle.desk.specs.declared.state.State.{State}
use Rattle.writelog.specs.Write.{Writes}
use Rattle.writelog.specs.Read.{read_number, Fills}
use Rattle.writelog.specs.Flush.{Flushes}
use Rattle.writelog.specs.Cut.{cut_told, cut_number, kept_by_rows, Cuts}
use Rattle.gate.specs.Opening.{Opens}
use Rattle.gate.specs.Judgement.{verdict_report, judge_report, judge_number, judge_work, Judges, Gates, Judged}
use Rattle.tape.specs.Memory.{TapeDesk, by_tape}
use Rattle.tape.specs.Write.{TapeWrites}
use Rattle.tape.specs.Flush.{TapeFlushes}
use Rattle.tape.specs.Cut.{tape_cut_number, TapeCuts}
use Rattle.example.specs.Setup.{SetsUp}
use Rattle.rounds.specs.Answer.{run_answer_number, RunAnswer}
use Rattle.example.specs.Run.{Runs}
use Rattle.boundary.specs.Words.{state_of, words_of, reported}
use Rattle.boundary.specs.Lent.{Lent, lent, desk_of, TapeLent, lent_by_tape, Crossing, plainly, on_tape, at_desk}
use Rattle.boundary.specs.Log.{SkaldriftWrite, SkaldriftRead, SkaldriftFlush, SkaldriftCut}
use Rattle.boundary.specs.Gate.{SkaldriftOpen, SkaldriftJudge, SkaldriftGate}
use Rattle.boundary.specs.Tape.{SkaldriftTapeWrite, SkaldriftTapeFlush, SkaldriftTapeCut}
use Rattle.boundary.specs.Example.{SkaldriftSetup, SkaldriftRun}
use Rattle.boundary.proofs.CallLaws.{StateSized, plain_laws, tape_laws, refused_at, refused_by, called_at, called_by, wrong, right}

-- a desk with this state, and one that lends these words
abbrev pub desk_with : Lent → State → Desk
desk_with m st = desk m.image st m.log

abbrev lent_with : Lent → (words : List ℕ) → Lent
lent_with m words = lent m.image words m.log

abbrev pub tape_desk_with : TapeLent → State → TapeDesk
tape_desk_with t st = by_tape (desk_with t.memory st) t.start t.predicted

abbrev tape_lent_with : TapeLent → (words : List ℕ) → TapeLent
tape_lent_with t words = lent_by_tape (lent_with t.memory words) t.start t.predicted

abbrev number_told : Report → ℕ
number_told r = r.number

-- the report of a cut
pub report_by : (n kept held : ℕ) → reported (cut_told kept n) held ≡ if_done n kept held
report_by zero kept held = refl
report_by (suc why) kept held = refl

module _ {M D : Type 0} (X : Crossing M D) (m : M) (sized : StateSized X m) (number_of kept_of : D → ℕ) where
  reports_kept : (answer : Counted) (held : ℕ) {d : D} {report : ℕ} → d ≡ X.inward m → counted_report answer ≡ cut_told (kept_of d) (number_of d)
      → report ≡ reported (counted_report answer) held → report ≡ if_done (at_desk X m 1 number_of) (kept_of (X.inward m)) held
  reports_kept answer held loaded answers reports =
      let here = X.inward m in
      let answers_here = subst (λ (e : D). counted_report answer ≡ cut_told (kept_of e) (number_of e)) loaded answers in
      reports ∙ ap (λ (r : Report). reported r held) answers_here ∙ report_by (number_of here) (kept_of here) held
      ∙ called_by X m sized number_of (kept_of here) held

-- words of another number: what write, flush and opening do, with a tape or without, is `wrong` itself
module _ {m : Lent} (other : StateSized plainly m → ⊥) {number : ℕ} (told : number ≡ 1) where
  pub read_wrong : {work : List ℕ} {addr len : ℕ} → SkaldriftRead m work addr len number work
  read_wrong {work} {addr} {len} =
      let number_of : Desk → ℕ = λ d. read_number d work addr len in
      record { answers = told ∙ refused_at plainly m other 1 number_of; fills = refused_by plainly m other number_of (readable (view (desk_of m))) work }

  pub cut_wrong : {rows : List ℕ} {report : ℕ} → SkaldriftCut m rows report number m report
  cut_wrong {rows} {report} =
      record { does = wrong other told; reports = refused_by plainly m other (λ d. cut_number d rows) (kept_by_rows (desk_of m) rows 0) report }

  module _ {sheet work : List ℕ} {w : Write} {report : ℕ} where
    pub judge_wrong : SkaldriftJudge m sheet work w report number work report
    judge_wrong =
        record {
          answers = told ∙ refused_at plainly m other 1 (λ d. judge_number d sheet work w);
          fills = refused_at plainly m other work (λ d. judge_work d sheet work w);
          reports = refused_at plainly m other report (λ d. reported (judge_report d sheet work w) report);
        }

    pub gate_wrong : SkaldriftGate m sheet work w report number m work report
    gate_wrong = record { judges = judge_wrong; does = wrong other told }

pub tape_cut_wrong : {t : TapeLent} {tape : List ℕ} {report number : ℕ} → (StateSized on_tape t → ⊥) → number ≡ 1
    → SkaldriftTapeCut t tape report number t report
tape_cut_wrong {t} {tape} {report} other told =
    record {
      does = wrong other told;
      reports = refused_by on_tape t other (λ d. tape_cut_number d tape) (kept_by_rows (desk_of t.memory) tape (t.start + 1)) report;
    }

-- words of the right number, without a tape
module _ {m : Lent} (sized : StateSized plainly m) {st : State} (loaded : st ≡ state_of m.words) where
  pub read_right : {work work' : List ℕ} {addr len number : ℕ} {answer : Answer} → number ≡ answer_number answer
      → Fills (desk_with m st) work addr len answer work' → SkaldriftRead m work addr len number work'
  read_right {work} {work'} {addr} {len} {answer = answer} told call =
      let number_of : Desk → ℕ = λ d. read_number d work addr len in
      let here = subst (λ (s : State). Fills (desk_with m s) work addr len answer work') loaded call in
      record {
        answers = told ∙ here.answers ∙ called_at plainly m sized 1 number_of;
        fills = here.fills ∙ called_by plainly m sized number_of (readable (view (desk_of m))) work;
      }

  module _ {sheet work work' : List ℕ} {w : Write} {held report number : ℕ} {verdict : Judged}
      (told : number ≡ (verdict_report verdict).number) (reports : report ≡ reported (verdict_report verdict) held) where
    pub judge_right : Judges (desk_with m st) sheet work w verdict work' → SkaldriftJudge m sheet work w held number work' report
    judge_right call =
        let here = subst (λ (s : State). Judges (desk_with m s) sheet work w verdict work') loaded call in
        record {
          answers = told ∙ ap number_told here.answers ∙ called_at plainly m sized 1 (λ d. judge_number d sheet work w);
          fills = here.fills ∙ called_at plainly m sized work (λ d. judge_work d sheet work w);
          reports =
              reports ∙ ap (λ (r : Report). reported r held) here.answers
              ∙ called_at plainly m sized held (λ d. reported (judge_report d sheet work w) held);
        }

    pub gate_right : {m' : Lent} {st' : State} → m'.words ≡ words_of st' → Gates (desk_with m st) sheet work w verdict (desk_with m' st') work'
        → SkaldriftGate m sheet work w held number m' work' report
    gate_right {m'} stored call =
        record {
          judges = judge_right call.judges;
          does =
              right plain_laws sized (ap (desk_with m) loaded) (told ∙ ap number_told call.judges.answers) call.leaves
              (ap (lent_with m') stored);
        }

  module _ {m' : Lent} {st' : State} (stored : m'.words ≡ words_of st') {number : ℕ} where
    module _ {answer : Answer} (told : number ≡ answer_number answer) where
      pub write_right : {w : Write} → Writes (desk_with m st) w answer (desk_with m' st') → SkaldriftWrite m w number m'
      write_right call = record { does = right plain_laws sized (ap (desk_with m) loaded) (told ∙ call.answers) call.leaves (ap (lent_with m') stored) }

      pub flush_right : Flushes (desk_with m st) answer (desk_with m' st') → SkaldriftFlush m number m'
      flush_right call = record { does = right plain_laws sized (ap (desk_with m) loaded) (told ∙ call.answers) call.leaves (ap (lent_with m') stored) }

      pub open_right : {sheet : List ℕ} → Opens (desk_with m st) sheet answer (desk_with m' st') → SkaldriftOpen m sheet number m'
      open_right call = record { does = right plain_laws sized (ap (desk_with m) loaded) (told ∙ call.answers) call.leaves (ap (lent_with m') stored) }

    pub cut_right : {rows : List ℕ} {answer : Counted} {held report : ℕ} → number ≡ (counted_report answer).number → report ≡ reported (counted_report answer) held
        → Cuts (desk_with m st) rows answer (desk_with m' st') → SkaldriftCut m rows held number m' report
    cut_right {rows} {answer} {held} told reports call =
        let there = ap (desk_with m) loaded in
        record {
          does = right plain_laws sized there (told ∙ ap number_told call.answers) call.leaves (ap (lent_with m') stored);
          reports = reports_kept plainly m sized (λ d. cut_number d rows) (λ d. kept_by_rows d rows 0) answer held there call.answers reports;
        }

-- and with one
module _ {t t' : TapeLent} {tape : List ℕ} {number : ℕ} (sized : StateSized on_tape t)
    {st st' : State} (loaded : st ≡ state_of t.memory.words) (stored : t'.memory.words ≡ words_of st') where
  module _ {answer : Answer} (told : number ≡ answer_number answer) where
    pub tape_write_right : {w : Write} → TapeWrites (tape_desk_with t st) tape w answer (tape_desk_with t' st') → SkaldriftTapeWrite t tape w number t'
    tape_write_right call = record { does = right tape_laws sized (ap (tape_desk_with t) loaded) (told ∙ call.answers) call.leaves (ap (tape_lent_with t') stored) }

    pub tape_flush_right : TapeFlushes (tape_desk_with t st) tape answer (tape_desk_with t' st') → SkaldriftTapeFlush t tape number t'
    tape_flush_right call = record { does = right tape_laws sized (ap (tape_desk_with t) loaded) (told ∙ call.answers) call.leaves (ap (tape_lent_with t') stored) }

  pub tape_cut_right : {answer : Counted} {held report : ℕ} → number ≡ (counted_report answer).number → report ≡ reported (counted_report answer) held
      → TapeCuts (tape_desk_with t st) tape answer (tape_desk_with t' st') → SkaldriftTapeCut t tape held number t' report
  tape_cut_right {answer} {held} told reports call =
      let there = ap (tape_desk_with t) loaded in
      let kept_of : TapeDesk → ℕ = λ d. kept_by_rows d.memory tape (d.start + 1) in
      record {
        does = right tape_laws sized there (told ∙ ap number_told call.answers) call.leaves (ap (tape_lent_with t') stored);
        reports = reports_kept on_tape t sized (λ d. tape_cut_number d tape) kept_of answer held there call.answers reports;
      }

-- the example's, which are handed no state
pub setup_right : {image : List ℕ} {addr val0 number : ℕ} {image' : List ℕ} {answer : Answer} → number ≡ answer_number answer
    → SetsUp image addr val0 answer image' → SkaldriftSetup image addr val0 number image'
setup_right told call = record { answers = told ∙ call.answers; image_after = call.image_after }

pub run_right : {image log work : List ℕ} {addr val0 val1 rounds number : ℕ} {image' log' work' : List ℕ} {answer : RunAnswer}
    → number ≡ run_answer_number answer → Runs image log work addr val0 val1 rounds answer image' log' work'
    → SkaldriftRun image log work addr val0 val1 rounds number image' log' work'
run_right told call = record { answers = told ∙ call.answers; image_after = call.image_after; log_after = call.log_after; work_after = call.work_after }
