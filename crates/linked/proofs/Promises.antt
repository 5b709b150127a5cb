-- What a function promises of words that say a state, the library's own call promises of the desk that they say: there is an answer with that number and
-- report, the promise goes from the desk that is lent before to the one that is lent afterwards, and the words say a state again. Assumes nothing.
use Prim.Native.Nat.{ℕ, ◌+◌}
use mathlib.Core.Path.{◌≡◌, refl, sym, ap, ◌∙◌}
use mathlib.Core.Bool.{true, false}
use mathlib.Core.List.{List}
use Rattle.region.specs.Answer.{Report, answer_number, Answer, Counted, counted_report}
use Rattle.pieces.specs.AsyncSpec.{Write, readable}
use Rattle.desk.specs.State.{record_of}
use Rattle.desk.specs.Desk.{Desk, view}
use Rattle.desk.proofs.Views.{sized_of_appended}
use Rattle.writelog.specs.Write.{Writes}
use Rattle.writelog.specs.Read.{read_number, Fills}
use Rattle.writelog.specs.Flush.{Flushes}
use Rattle.writelog.specs.Cut.{cut_number, kept_by_rows, Cuts}
use Rattle.gate.specs.Opening.{Opens}
use Rattle.gate.specs.Judgement.{verdict_report, judge_report, judge_number, judge_work, Judges, Gates, Judged}
use Rattle.tape.specs.Write.{TapeWrites}
use Rattle.tape.specs.Flush.{TapeFlushes}
use Rattle.tape.specs.Cut.{tape_cut_number, TapeCuts}
use Rattle.boundary.specs.Words.{reported}
use Rattle.boundary.specs.Lent.{Lent, desk_of, TapeLent, tape_desk_of, plainly, on_tape}
use Rattle.boundary.specs.Log.{SkaldriftWrite, SkaldriftRead, SkaldriftFlush, SkaldriftCut}
use Rattle.boundary.specs.Gate.{SkaldriftOpen, SkaldriftJudge, SkaldriftGate}
use Rattle.boundary.specs.Tape.{SkaldriftTapeWrite, SkaldriftTapeFlush, SkaldriftTapeCut}
use Rattle.boundary.proofs.CallLaws.{StateSized, plain_laws, tape_laws, called_at, called_by, number_there, leaves_there, sized_after}
use Rattle.boundary.proofs.FunctionLaws.{report_by}
use Rattle.linked.proofs.Numbers.{open_answers, write_answers, read_answers, flush_answers, cut_answers, cut_answered, judge_speaks, tape_write_answers, ending_answers}

module _ {m : Lent} (sized : StateSized plainly m) where
  module _ {sheet : List ℕ} {number : ℕ} {m' : Lent} (p : SkaldriftOpen m sheet number m') where
    pub linked_open : (a : Answer) × (answer_number a ≡ number) × Opens (desk_of m) sheet a (desk_of m')
    linked_open =
        let (a, same) = open_answers (desk_of m) sheet in
        (a, same ∙ sym (number_there plain_laws sized p.does), record { answers = same; leaves = leaves_there plain_laws sized p.does })

    pub sized_after_open : StateSized plainly m'
    sized_after_open = sized_after plain_laws sized p.does (λ full. refl)

  module _ {w : Write} {number : ℕ} {m' : Lent} (p : SkaldriftWrite m w number m') where
    pub linked_write : (a : Answer) × (answer_number a ≡ number) × Writes (desk_of m) w a (desk_of m')
    linked_write =
        let (a, same) = write_answers (desk_of m) w in
        (a, same ∙ sym (number_there plain_laws sized p.does), record { answers = same; leaves = leaves_there plain_laws sized p.does })

    pub sized_after_write : StateSized plainly m'
    sized_after_write = sized_after plain_laws sized p.does (sized_of_appended (desk_of m).state (record_of w))

  pub linked_read : {work : List ℕ} {addr len number : ℕ} {work' : List ℕ} → SkaldriftRead m work addr len number work'
      → (a : Answer) × (answer_number a ≡ number) × Fills (desk_of m) work addr len a work'
  linked_read {work} {addr} {len} p =
      let at : Desk → ℕ = λ d. read_number d work addr len in
      let (a, same) = read_answers (desk_of m) work addr len in (
        a,
        same ∙ called_at plainly m sized 1 at ∙ sym p.answers,
        record { answers = same; fills = p.fills ∙ sym (called_by plainly m sized at (readable (view (desk_of m))) work) },
      )

  module _ {number : ℕ} {m' : Lent} (p : SkaldriftFlush m number m') where
    pub linked_flush : (a : Answer) × (answer_number a ≡ number) × Flushes (desk_of m) a (desk_of m')
    linked_flush =
        let (a, same) = flush_answers (desk_of m) in
        (a, same ∙ sym (number_there plain_laws sized p.does), record { answers = same; leaves = leaves_there plain_laws sized p.does })

    pub sized_after_flush : StateSized plainly m'
    sized_after_flush = sized_after plain_laws sized p.does (λ full. full)

  module _ {rows : List ℕ} {report number : ℕ} {m' : Lent} {report' : ℕ} (p : SkaldriftCut m rows report number m' report') where
    pub linked_cut : (a : Counted) × ((counted_report a).number ≡ number) × (reported (counted_report a) report ≡ report') × Cuts (desk_of m) rows a (desk_of m')
    linked_cut =
        let at : Desk → ℕ = λ d. cut_number d rows in
        let kept = kept_by_rows (desk_of m) rows 0 in
        let (a, same) = cut_answered kept (at (desk_of m)) (cut_answers (desk_of m) rows) in (
          a,
          ap (λ (r : Report). r.number) same ∙ sym (number_there plain_laws sized p.does),
          ap (λ (r : Report). reported r report) same ∙ report_by (at (desk_of m)) kept report ∙ called_by plainly m sized at kept report ∙ sym p.reports,
          record { answers = same; leaves = leaves_there plain_laws sized p.does },
        )

    pub sized_after_cut : StateSized plainly m'
    sized_after_cut = sized_after plain_laws sized p.does (λ full. full)

  module _ {sheet work : List ℕ} {w : Write} {report number : ℕ} {work' : List ℕ} {report' : ℕ} where
    pub linked_judge : SkaldriftJudge m sheet work w report number work' report'
        → (v : Judged) × ((verdict_report v).number ≡ number) × (reported (verdict_report v) report ≡ report') × Judges (desk_of m) sheet work w v work'
    linked_judge p =
        let (v, same) = judge_speaks (desk_of m) sheet work w in (
          v,
          ap (λ (r : Report). r.number) same ∙ called_at plainly m sized 1 (λ d. judge_number d sheet work w) ∙ sym p.answers,
          ap (λ (r : Report). reported r report) same ∙ called_at plainly m sized report (λ d. reported (judge_report d sheet work w) report) ∙ sym p.reports,
          record { answers = same; fills = p.fills ∙ sym (called_at plainly m sized work (λ d. judge_work d sheet work w)) },
        )

    module _ {m' : Lent} (p : SkaldriftGate m sheet work w report number m' work' report') where
      pub linked_gate : (v : Judged) × ((verdict_report v).number ≡ number) × (reported (verdict_report v) report ≡ report') × Gates (desk_of m) sheet work w v (desk_of m') work'
      linked_gate =
          let (v, same, told, j) = linked_judge p.judges in
          (v, same, told, record { judges = j; leaves = leaves_there plain_laws sized p.does })

      pub sized_after_gate : StateSized plainly m'
      sized_after_gate = sized_after plain_laws sized p.does (sized_of_appended (desk_of m).state (record_of w))

-- by tape
module _ {t : TapeLent} {tape : List ℕ} (sized : StateSized on_tape t) where
  module _ {w : Write} {number : ℕ} {t' : TapeLent} (p : SkaldriftTapeWrite t tape w number t') where
    pub linked_tape_write : (a : Answer) × (answer_number a ≡ number) × TapeWrites (tape_desk_of t) tape w a (tape_desk_of t')
    linked_tape_write =
        let (a, same) = tape_write_answers (tape_desk_of t) tape w in
        (a, same ∙ sym (number_there tape_laws sized p.does), record { answers = same; leaves = leaves_there tape_laws sized p.does })

    pub sized_after_tape_write : StateSized on_tape t'
    sized_after_tape_write = sized_after tape_laws sized p.does (sized_of_appended (desk_of t.memory).state (record_of w))

  module _ {number : ℕ} {t' : TapeLent} (p : SkaldriftTapeFlush t tape number t') where
    pub linked_tape_flush : (a : Answer) × (answer_number a ≡ number) × TapeFlushes (tape_desk_of t) tape a (tape_desk_of t')
    linked_tape_flush =
        let (a, same) = ending_answers (tape_desk_of t) tape true in
        (a, same ∙ sym (number_there tape_laws sized p.does), record { answers = same; leaves = leaves_there tape_laws sized p.does })

    pub sized_after_tape_flush : StateSized on_tape t'
    sized_after_tape_flush = sized_after tape_laws sized p.does (λ full. full)

  module _ {report number : ℕ} {t' : TapeLent} {report' : ℕ} (p : SkaldriftTapeCut t tape report number t' report') where
    pub linked_tape_cut : (a : Counted) × ((counted_report a).number ≡ number) × (reported (counted_report a) report ≡ report')
        × TapeCuts (tape_desk_of t) tape a (tape_desk_of t')
    linked_tape_cut =
        let at = tape_cut_number (tape_desk_of t) tape in
        let kept = kept_by_rows (desk_of t.memory) tape (t.start + 1) in
        let (a, same) = cut_answered kept at (ending_answers (tape_desk_of t) tape false) in (
          a,
          ap (λ (r : Report). r.number) same ∙ sym (number_there tape_laws sized p.does),
          ap (λ (r : Report). reported r report) same ∙ report_by at kept report ∙ called_by on_tape t sized (λ d. tape_cut_number d tape) kept report ∙ sym p.reports,
          record { answers = same; leaves = leaves_there tape_laws sized p.does },
        )

    pub sized_after_tape_cut : StateSized on_tape t'
    sized_after_tape_cut = sized_after tape_laws sized p.does (λ full. full)
