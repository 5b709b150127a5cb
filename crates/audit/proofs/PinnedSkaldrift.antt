-- The functions that firmware links leave no choice: of the number, the state's words, any lent buffer, the tape's start or the report. Assumes nothing.
use Prim.Native.Nat.{ℕ}
use mathlib.Core.Path.{◌≡◌}
use mathlib.Core.List.{List}
use Rattle.pieces.specs.AsyncSpec.{Write}
use Rattle.boundary.specs.Lent.{Lent, TapeLent}
use Rattle.boundary.specs.Log.{SkaldriftWrite, SkaldriftRead, SkaldriftFlush, SkaldriftCut}
use Rattle.boundary.specs.Gate.{SkaldriftOpen, SkaldriftJudge, SkaldriftGate}
use Rattle.boundary.specs.Tape.{SkaldriftTapeWrite, SkaldriftTapeFlush, SkaldriftTapeCut}
use Rattle.boundary.specs.Example.{SkaldriftSetup, SkaldriftRun}
use Rattle.audit.proofs.Pinning.{Pinned, pin}

-- a number is its own report
itself : (n m : ℕ) → n ≡ m → n ≡ m
itself n m e = e

module _ (m : Lent) where
  pub skaldrift_write_pinned : (w : Write) → Pinned (SkaldriftWrite m w)
  skaldrift_write_pinned w = pin (λ n. n) itself (λ n l p. p.does.answers) (λ n l p. p.does.leaves)

  pub skaldrift_flush_pinned : Pinned (SkaldriftFlush m)
  skaldrift_flush_pinned = pin (λ n. n) itself (λ n l p. p.does.answers) (λ n l p. p.does.leaves)

  pub skaldrift_open_pinned : (sheet : List ℕ) → Pinned (SkaldriftOpen m sheet)
  skaldrift_open_pinned sheet = pin (λ n. n) itself (λ n l p. p.does.answers) (λ n l p. p.does.leaves)

  pub skaldrift_read_pinned : (work : List ℕ) (addr len : ℕ) → Pinned (SkaldriftRead m work addr len)
  skaldrift_read_pinned work addr len = pin (λ n. n) itself (λ n l p. p.answers) (λ n l p. p.fills)

  -- the words and the buffers, and the report
  pub skaldrift_cut_pinned : (rows : List ℕ) (report : ℕ) → Pinned (λ (n : ℕ) (l : Lent × ℕ). SkaldriftCut m rows report n l.0 l.1)
  skaldrift_cut_pinned rows report = pin (λ n. n) itself (λ n l p. p.does.answers) (λ n l p i. (p.does.leaves i, p.reports i))

  module _ (sheet work : List ℕ) (w : Write) (report : ℕ) where
    pub skaldrift_judge_pinned : Pinned (λ (n : ℕ) (l : List ℕ × ℕ). SkaldriftJudge m sheet work w report n l.0 l.1)
    skaldrift_judge_pinned = pin (λ n. n) itself (λ n l p. p.answers) (λ n l p i. (p.fills i, p.reports i))

    pub skaldrift_gate_pinned : Pinned (λ (n : ℕ) (l : Lent × List ℕ × ℕ). SkaldriftGate m sheet work w report n l.0 l.1 l.2)
    skaldrift_gate_pinned = pin (λ n. n) itself (λ n l p. p.does.answers) (λ n l p i. (p.does.leaves i, p.judges.fills i, p.judges.reports i))

pub skaldrift_tape_write_pinned : (t : TapeLent) (tape : List ℕ) (w : Write) → Pinned (SkaldriftTapeWrite t tape w)
skaldrift_tape_write_pinned t tape w = pin (λ n. n) itself (λ n l p. p.does.answers) (λ n l p. p.does.leaves)

pub skaldrift_tape_flush_pinned : (t : TapeLent) (tape : List ℕ) → Pinned (SkaldriftTapeFlush t tape)
skaldrift_tape_flush_pinned t tape = pin (λ n. n) itself (λ n l p. p.does.answers) (λ n l p. p.does.leaves)

pub skaldrift_tape_cut_pinned : (t : TapeLent) (tape : List ℕ) (report : ℕ)
    → Pinned (λ (n : ℕ) (l : TapeLent × ℕ). SkaldriftTapeCut t tape report n l.0 l.1)
skaldrift_tape_cut_pinned t tape report = pin (λ n. n) itself (λ n l p. p.does.answers) (λ n l p i. (p.does.leaves i, p.reports i))

pub skaldrift_setup_pinned : (image : List ℕ) (addr val0 : ℕ) → Pinned (SkaldriftSetup image addr val0)
skaldrift_setup_pinned image addr val0 = pin (λ n. n) itself (λ n l p. p.answers) (λ n l p. p.image_after)

pub skaldrift_run_pinned : (image log work : List ℕ) (addr val0 val1 rounds : ℕ)
    → Pinned (λ (n : ℕ) (l : List ℕ × List ℕ × List ℕ). SkaldriftRun image log work addr val0 val1 rounds n l.0 l.1 l.2)
skaldrift_run_pinned image log work addr val0 val1 rounds =
    pin (λ n. n) itself (λ n l p. p.answers) (λ n l p i. (p.image_after i, p.log_after i, p.work_after i))
