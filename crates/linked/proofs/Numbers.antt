-- Every number that a promise can give is that of an answer, a verdict or a cut's answer, by the tests that give it. Assumes nothing.
use Prim.Native.Nat.{ℕ, zero, suc, ◌+◌}
use mathlib.Core.Path.{◌≡◌, refl, sym}
use mathlib.Core.Bool.{Bool, true, false, ◌&&◌}
use mathlib.Core.List.{List}
use lib.Dec.{leb, ltb, eqb}
use lib.ListN.{length}
use Rattle.std.specs.Prelude.{Err, Ok}
use Rattle.region.specs.Limits.{image_limit, writes_limit, log_limit, points_limit}
use Rattle.region.specs.Answer.{refusal_number, answer_number, unless, or_else, Answer, done, Counted, counted_report}
use Rattle.region.specs.declared.Refusal.{Refusal}
use Rattle.region.specs.declared.Refusal.TheVariants.{BadState, OutOfRange, TooManyWrites, TooManyBytes, BadSheet, BrokenImage, TooManyPoints, BadRows, BadTape, NotPredicted, TooManyRounds}
use Rattle.region.proofs.AnswerLaws.{done_changed}
use Rattle.pieces.specs.AsyncSpec.{Write}
use Rattle.pieces.specs.Rows.{rows_right, rows_filled}
use Rattle.cuts.specs.Search as search
use Rattle.sheet.specs.Sheet.{well_formed, allows}
use Rattle.desk.specs.State.{log_records, together, record_of, room_number}
use Rattle.desk.specs.Desk.{Desk, chunks, sound}
use Rattle.records.specs.declared.Record.{Record}
use Rattle.desk.specs.declared.state.State.{State}
use Rattle.writelog.specs.Write.{write_number}
use Rattle.writelog.specs.Read.{asked_number, read_number}
use Rattle.writelog.specs.Flush.{flush_number}
use Rattle.writelog.specs.Cut.{cut_told, cut_number}
use Rattle.writelog.proofs.CutLaws.{kept_told, refused_told}
use Rattle.engine.specs.Search.{sheet_finding}
use Rattle.gate.specs.Opening.{open_number}
use Rattle.gate.specs.Judgement.{verdict_report, finding_report, gate_points, judge_refusal, judge_report, Judged}
use Rattle.gate.specs.declared.Verdict.TheVariants as verdict
use Rattle.gate.proofs.JudgementLaws.{by_refusal, refusal_reported}
use Rattle.epochs.specs.Epoch.{epoch_there, epoch_number}
use Rattle.tape.specs.Memory.{TapeDesk, tape_sound_for}
use Rattle.tape.specs.Write.{tape_room_number, tape_write_number}
use Rattle.tape.specs.Ending.{as_foretold, ending_number, tape_ending_number}
use Rattle.rounds.specs.declared.RunError.TheVariants as run_error
use Rattle.example.specs.Setup.{setup_number}
use Rattle.rounds.specs.Valid.{app_valid}
use Rattle.rounds.specs.Answer.{run_answer_number, RunAnswer}
use Rattle.example.specs.Run.{rounds_limit, run_number}

-- an answer has this number
abbrev pub Answers : ℕ → Type 0
Answers n = (a : Answer) × (answer_number a ≡ n)

-- a test that refuses, and what comes after it
tested : (t : Bool) (why : Refusal) (rest : ℕ) → Answers rest → Answers (unless t (refusal_number why) rest)
tested true why rest a = a
tested false why rest a = (Err why, refl)

or_after : (n rest : ℕ) → Answers n → Answers rest → Answers (or_else n rest)
or_after zero rest a b = b
or_after (suc n) rest a b = a

all_done : Answers 0
all_done = (done, refl)

room_answers : (L : ℕ) (st : State) (r : Record) → Answers (room_number L st r)
room_answers L st r =
    tested (leb (r.addr + r.len) L) OutOfRange _
    (tested (ltb st.count writes_limit) TooManyWrites _
    (tested (leb (together (log_records st) + r.len) log_limit) TooManyBytes 0 all_done))

module _ (d : Desk) where
  pub open_answers : (sheet : List ℕ) → Answers (open_number d sheet)
  unfolding open_number
  open_answers sheet =
      tested (leb (length d.image) image_limit && eqb (length d.log) log_limit) BadState _
      (tested (well_formed sheet) BadSheet _
      (tested (allows sheet d.image) BrokenImage 0 all_done))

  pub write_answers : (w : Write) → Answers (write_number d w)
  unfolding write_number
  write_answers w = tested (sound d) BadState _ (room_answers (length d.image) d.state (record_of w))

  pub read_answers : (work : List ℕ) (addr len : ℕ) → Answers (read_number d work addr len)
  unfolding asked_number
  read_answers work addr len =
      tested (sound d && eqb (length work) (length d.image)) BadState _
      (tested (leb (addr + len) (length d.image)) OutOfRange 0 all_done)

  pub flush_answers : Answers (flush_number d)
  unfolding flush_number
  flush_answers = tested (sound d) BadState 0 all_done

  pub cut_answers : (rows : List ℕ) → Answers (cut_number d rows)
  unfolding cut_number
  cut_answers rows =
      tested (sound d) BadState _
      (tested (rows_right (chunks d) d.state.count rows) BadRows 0 all_done)

epoch_answers : (K n : ℕ) (tape : List ℕ) (start : ℕ) → Answers (epoch_number K n tape start)
unfolding epoch_number
epoch_answers K n tape start =
    tested (epoch_there K n tape start) BadTape _
    (tested (rows_filled K n tape (start + 1)) BadRows 0 all_done)

module _ (t : TapeDesk) (tape : List ℕ) where
  abbrev good : Bool
  good = tape_sound_for (length t.memory.image) t.memory.state (length t.memory.log) (length t.predicted)

  pub tape_write_answers : (w : Write) → Answers (tape_write_number t tape w)
  unfolding tape_write_number tape_room_number
  tape_write_answers w =
      tested good BadState _
      (or_after _ _ (room_answers (length t.memory.image) t.memory.state (record_of w))
      (epoch_answers (chunks t.memory) (t.memory.state.count + 1) tape t.start))

  pub ending_answers : (flushing : Bool) → Answers (tape_ending_number flushing t tape)
  unfolding ending_number
  ending_answers flushing =
      tested good BadState _
      (or_after _ _ (epoch_answers (chunks t.memory) t.memory.state.count tape t.start)
      (tested (as_foretold flushing tape t.start) NotPredicted 0 all_done))

pub setup_answers : (image : List ℕ) (addr : ℕ) → Answers (setup_number image addr)
unfolding setup_number
setup_answers image addr =
    tested (leb (length image) image_limit) BadState _
    (tested (leb (addr + 1) (length image)) OutOfRange 0 all_done)

pub run_answers : (image log work : List ℕ) (addr val0 val1 rounds : ℕ) → (a : RunAnswer) × (run_answer_number a ≡ run_number image log work addr val0 val1 rounds)
unfolding run_number
run_answers image log work addr val0 val1 rounds =
    of_run _
    (or_after _ _
    (tested (leb (length image) image_limit && eqb (length log) log_limit && eqb (length work) (length image)) BadState _
    (tested (leb (addr + 1) (length image)) OutOfRange _
    (tested (leb rounds rounds_limit) TooManyRounds 0 all_done)))
    (tested (app_valid addr val0 val1 image) BrokenImage 0 all_done))
  where
    of_run : (n : ℕ) → Answers n → (a : RunAnswer) × (run_answer_number a ≡ n)
    of_run n (Ok unit, e) = (done, e)
    of_run n (Err why, e) = (Err (run_error.Refused why), e)

-- what a cut answers with such a number
pub cut_answered : (kept n : ℕ) → Answers n → (a : Counted) × (counted_report a ≡ cut_told kept n)
cut_answered kept n (Ok unit, e) = (Ok kept, kept_told refl (sym e))
cut_answered kept n (Err why, e) = (Err why, refused_told why kept (sym e))

-- what a judging call answers with such a number, or with the finding where it is 0
verdict_answered : (n : ℕ) (r : search.Finding) (k : ℕ) → Answers k → (v : Judged) × (verdict_report v ≡ by_refusal k (finding_report n r))
verdict_answered n search.none_bad k (Ok unit, e) = (Ok (verdict.Admitted n), done_changed _ (sym e))
verdict_answered n (search.first_bad m) k (Ok unit, e) = (Ok (verdict.Denied m), done_changed _ (sym e))
verdict_answered n r k (Err why, e) = (Err why, refusal_reported why (finding_report n r) (sym e))

pub judge_speaks : (d : Desk) (sheet work : List ℕ) (w : Write) → (v : Judged) × (verdict_report v ≡ judge_report d sheet work w)
unfolding judge_refusal
judge_speaks d sheet work w =
    verdict_answered (gate_points d w) (sheet_finding d w sheet) _
    (tested (sound d && eqb (length work) (length d.image)) BadState _
    (tested (well_formed sheet) BadSheet _
    (or_after _ _ (room_answers (length d.image) d.state (record_of w))
    (tested (leb (gate_points d w) points_limit) TooManyPoints 0 all_done))))
