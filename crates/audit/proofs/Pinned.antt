-- No call of the library leaves a choice: of the answer with what it reports, nor of any memory that it is lent. The viewer's part is pinned in `region`
-- (`viewed_once`). Assumes nothing.
use Prim.Native.Nat.{ℕ}
use native.Mathlib.Omega.{arith}
use mathlib.Core.Path.{◌≡◌, refl, sym, ap, ◌∙◌}
use mathlib.Core.Bool.{false≢true}
use mathlib.Core.List.{List}
use denote.Ref.{MutBor}
use Rattle.std.specs.Prelude.{Result, Ok, Err}
use Rattle.region.specs.declared.Refusal.{Refusal}
use Rattle.region.specs.Answer.{Report, answer_number, Answer, Counted, counted_report}
use Rattle.region.proofs.AnswerLaws.{answers_by_number, refusals_by_number}
use Rattle.pieces.specs.AsyncSpec.{Write}
use Rattle.desk.specs.Desk.{Desk}
use Rattle.writelog.specs.Write.{Writes}
use Rattle.writelog.specs.Read.{Fills, HandsBack}
use Rattle.writelog.specs.Flush.{Flushes}
use Rattle.writelog.specs.Cut.{Cuts}
use Rattle.gate.specs.Opening.{Opens}
use Rattle.gate.specs.Judgement.{verdict_report, Judges, Gates, Judged}
use Rattle.gate.proofs.JudgementLaws.{same_number, same_values, nothing_reported, one_value}
use Rattle.gate.proofs.Meaning.{verdicts_by_report}
use Rattle.epochs.specs.End.{flushing, HeaderTells, ForetellsEnd}
use Rattle.epochs.specs.declared.epoch.End.{End}
use Rattle.epochs.specs.declared.epoch.End.TheVariants.{Flush, Cut}
use Rattle.tape.specs.Memory.{TapeDesk}
use Rattle.tape.specs.Write.{TapeWrites}
use Rattle.tape.specs.Flush.{TapeFlushes}
use Rattle.tape.specs.Cut.{TapeCuts}
use Rattle.example.specs.Setup.{SetsUp}
use Rattle.rounds.specs.Answer.{run_answer_number, RunAnswer}
use Rattle.example.specs.Run.{Runs}
use Rattle.rounds.proofs.AnswerNumbers.{run_answers_by_number}
use Rattle.audit.proofs.Pinning.{Pinned, same, pin}

-- the report of a call that counts settles its answer
counted_by_report : (a b : Counted) → counted_report a ≡ counted_report b → a ≡ b
counted_by_report (Ok k) (Ok j) e = ap Ok (one_value (same_values e))
counted_by_report (Ok k) (Err why) e = absurd (nothing_reported (sym (same_values e)))
counted_by_report (Err why) (Ok k) e = absurd (nothing_reported (same_values e))
counted_by_report (Err a) (Err b) e = ap Err (refusals_by_number a b (same_number e))

-- any call whose promise is its number alone
pub number_pinned : {n : ℕ} (a b : Answer) → answer_number a ≡ n → answer_number b ≡ n → a ≡ b
number_pinned a b p q = answers_by_number a b (same p q)

-- so what a sheet says of an image
pub sheet_pinned : {n : ℕ} (a b : Answer) → answer_number a ≡ n → answer_number b ≡ n → a ≡ b
sheet_pinned = number_pinned

-- and what a state is checked to be, by its report
pub check_pinned : {r : Report} (a b : Counted) → counted_report a ≡ r → counted_report b ≡ r → a ≡ b
check_pinned a b p q = counted_by_report a b (same p q)

-- and which end a header foretells, which is told by cases
pub header_pinned : (byte : ℕ) (a b : Result End Refusal) → HeaderTells byte a → HeaderTells byte b → a ≡ b
header_pinned byte (Ok Flush) (Ok Flush) p q = refl
header_pinned byte (Ok Flush) (Ok Cut) p q = absurd (omega (arith, p, q))
header_pinned byte (Ok Cut) (Ok Flush) p q = absurd (omega (arith, p, q))
header_pinned byte (Ok Cut) (Ok Cut) p q = refl
header_pinned byte (Ok Flush) (Err why) p q = absurd (q.1 p)
header_pinned byte (Ok Cut) (Err why) p q = absurd (q.2 p)
header_pinned byte (Err why) (Ok Flush) p q = absurd (p.1 q)
header_pinned byte (Err why) (Ok Cut) p q = absurd (p.2 q)
header_pinned byte (Err a) (Err b) p q = ap Err (p.0 ∙ sym q.0)

ends_by_flushing : (a b : End) → flushing a ≡ flushing b → a ≡ b
ends_by_flushing Flush Flush e = refl
ends_by_flushing Flush Cut e = absurd (false≢true (sym e))
ends_by_flushing Cut Flush e = absurd (false≢true e)
ends_by_flushing Cut Cut e = refl

pub foretold_pinned : (tape : List ℕ) (start : ℕ) (a b : Result End Refusal) → ForetellsEnd tape start a → ForetellsEnd tape start b → a ≡ b
foretold_pinned tape start (Ok a) (Ok b) p q = ap Ok (ends_by_flushing a b (sym p.1 ∙ q.1))
foretold_pinned tape start (Ok a) (Err why) p q = absurd (false≢true (sym q.1 ∙ p.0))
foretold_pinned tape start (Err why) (Ok b) p q = absurd (false≢true (sym p.1 ∙ q.0))
foretold_pinned tape start (Err a) (Err b) p q = ap Err (p.0 ∙ sym q.0)

module _ (d : Desk) where
  pub write_pinned : (w : Write) → Pinned (Writes d w)
  write_pinned w = pin answer_number answers_by_number (λ a l p. p.answers) (λ a l p. p.leaves)

  pub fill_pinned : (work : List ℕ) (addr len : ℕ) → Pinned (Fills d work addr len)
  fill_pinned work addr len = pin answer_number answers_by_number (λ a l p. p.answers) (λ a l p. p.fills)

  -- the part that a read hands back: its place and its bytes, which are all that a machine has of it
  pub read_pinned : (work : MutBor (List ℕ)) (addr len : ℕ) (r t : MutBor (List ℕ)) → HandsBack d work addr len r → HandsBack d work addr len t
      → ◌≡◌ {A = ℕ × ℕ × List ℕ} (r.ref_ptr.0, r.ref_ptr.1, r.now) (t.ref_ptr.0, t.ref_ptr.1, t.now)
  read_pinned work addr len r t p q = λ i. (same p.block q.block i, same p.offset q.offset i, same p.bytes q.bytes i)

  pub flush_pinned : Pinned (Flushes d)
  flush_pinned = pin answer_number answers_by_number (λ a l p. p.answers) (λ a l p. p.leaves)

  pub cut_pinned : (table : List ℕ) → Pinned (Cuts d table)
  cut_pinned table = pin counted_report counted_by_report (λ a l p. p.answers) (λ a l p. p.leaves)

  pub open_pinned : (sheet : List ℕ) → Pinned (Opens d sheet)
  open_pinned sheet = pin answer_number answers_by_number (λ a l p. p.answers) (λ a l p. p.leaves)

  module _ (sheet work : List ℕ) (w : Write) where
    pub judge_pinned : Pinned (Judges d sheet work w)
    judge_pinned = pin verdict_report verdicts_by_report (λ a l p. p.answers) (λ a l p. p.fills)

    -- what is left are the desk and the working image
    pub gate_pinned : Pinned (λ (v : Judged) (l : Desk × List ℕ). Gates d sheet work w v l.0 l.1)
    gate_pinned = pin verdict_report verdicts_by_report (λ a l p. p.judges.answers) (λ a l p i. (p.leaves i, p.judges.fills i))

module _ (t : TapeDesk) (tape : List ℕ) where
  pub tape_write_pinned : (w : Write) → Pinned (TapeWrites t tape w)
  tape_write_pinned w = pin answer_number answers_by_number (λ a l p. p.answers) (λ a l p. p.leaves)

  pub tape_flush_pinned : Pinned (TapeFlushes t tape)
  tape_flush_pinned = pin answer_number answers_by_number (λ a l p. p.answers) (λ a l p. p.leaves)

  pub tape_cut_pinned : Pinned (TapeCuts t tape)
  tape_cut_pinned = pin counted_report counted_by_report (λ a l p. p.answers) (λ a l p. p.leaves)

pub setup_pinned : (image : List ℕ) (addr val0 : ℕ) → Pinned (SetsUp image addr val0)
setup_pinned image addr val0 = pin answer_number answers_by_number (λ a l p. p.answers) (λ a l p. p.image_after)

-- what is left are the image, the log buffer and the working image
pub run_pinned : (image log work : List ℕ) (addr val0 val1 rounds : ℕ)
    → Pinned (λ (r : RunAnswer) (l : List ℕ × List ℕ × List ℕ). Runs image log work addr val0 val1 rounds r l.0 l.1 l.2)
run_pinned image log work addr val0 val1 rounds =
    pin run_answer_number run_answers_by_number (λ a l p. p.answers) (λ a l p i. (p.image_after i, p.log_after i, p.work_after i))
