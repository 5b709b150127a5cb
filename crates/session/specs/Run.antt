-- The runs of a session under one sheet. A step is a call, or two, of which its own promise is given: the records are those that the calls of
-- `writelog`, `gate` and `tape` are proved to keep, on the desk's own bytes, whatever the answer. No step asks that anything holds of the desk. A
-- plain write, or one by tape, that no verdict on this very desk admitted is no step unless it is refused.
use Rattle.std.specs.Prelude.{ℕ, ◌+◌, ◌≡◌, List, Ok, Err}
use Rattle.std.specs.Borrow.{MutBor}
use Rattle.region.specs.declared.Refusal.{Refusal}
use Rattle.region.specs.Answer.{Answer, done, Counted}
use Rattle.pieces.specs.AsyncSpec.{Write}
use Rattle.desk.specs.Desk.{Desk}
use Rattle.writelog.specs.Write.{Writes}
use Rattle.writelog.specs.Read.{Fills, HandsBack}
use Rattle.writelog.specs.Flush.{Flushes}
use Rattle.writelog.specs.Cut.{Cuts}
use Rattle.gate.specs.Opening.{Opens}
use Rattle.gate.specs.Judgement.{Judges, Gates, Judged}
use Rattle.gate.specs.declared.Verdict.TheVariants.{Admitted}
use Rattle.tape.specs.Memory.{by_tape}
use Rattle.tape.specs.Write.{TapeWrites}
use Rattle.tape.specs.Flush.{TapeFlushes}
use Rattle.tape.specs.Cut.{TapeCuts}
use Rattle.session.specs.History.{Event, nothing, written, flushed, cut_by, reopened, History, opening, ◌then◌, if_answered, if_admitted, if_cut}

-- A session protects the desk. Working and predicted images are the caller's: every step leaves open what such a buffer held before.
module _ (sheet : List ℕ) where
  pub data Step : Desk → Event → Desk → Type 0 where
    -- the gate: admitted, denied or refused
    gate : {d d' : Desk} {w : Write} {work work' : List ℕ} {answer : Judged}
        → Gates d sheet work w answer d' work'
        → Step d (if_admitted answer (written w)) d'
    -- the judging call, whatever its verdict
    judge : {d : Desk} {w : Write} {work work' : List ℕ} {answer : Judged}
        → Judges d sheet work w answer work'
        → Step d nothing d
    -- a write that a verdict on that same desk admitted, whenever it was given: same image, state and log bytes, same write
    judged_write : {d d' : Desk} {w : Write} {work work' : List ℕ} {n : ℕ} {answer : Answer}
        → Judges d sheet work w (Ok (Admitted n)) work' → Writes d w answer d'
        → Step d (if_answered answer (written w)) d'
    judged_tape_write : {d d' : Desk} {w : Write} {work work' tape predicted predicted' : List ℕ} {n start start' : ℕ} {answer : Answer}
        → Judges d sheet work w (Ok (Admitted n)) work' → TapeWrites (by_tape d start predicted) tape w answer (by_tape d' start' predicted')
        → Step d (if_answered answer (written w)) d'
    -- a write that nobody judged, refused
    refused_write : {d d' : Desk} {w : Write} {why : Refusal}
        → Writes d w (Err why) d'
        → Step d nothing d'
    refused_tape_write : {d d' : Desk} {w : Write} {tape predicted predicted' : List ℕ} {start start' : ℕ} {why : Refusal}
        → TapeWrites (by_tape d start predicted) tape w (Err why) (by_tape d' start' predicted')
        → Step d nothing d'
    -- flushes and cuts, done or refused, by any rows or tape
    flush : {d d' : Desk} {answer : Answer}
        → Flushes d answer d'
        → Step d (if_answered answer flushed) d'
    tape_flush : {d d' : Desk} {tape predicted predicted' : List ℕ} {start start' : ℕ} {answer : Answer}
        → TapeFlushes (by_tape d start predicted) tape answer (by_tape d' start' predicted')
        → Step d (if_answered answer flushed) d'
    cut : {d d' : Desk} {table : List ℕ} {answer : Counted}
        → Cuts d table answer d'
        → Step d (if_cut answer (cut_by table 0)) d'
    tape_cut : {d d' : Desk} {tape predicted predicted' : List ℕ} {start start' : ℕ} {answer : Counted}
        → TapeCuts (by_tape d start predicted) tape answer (by_tape d' start' predicted')
        → Step d (if_cut answer (cut_by tape (start + 1))) d'
    -- a reopening under the same sheet, done or refused
    reopen : {d d' : Desk} {answer : Answer}
        → Opens d sheet answer d'
        → Step d (if_answered answer reopened) d'
    -- a good reopening of the same image that is handed other memory for the state and the log: after a power loss these hold anything
    restart : {d found d' : Desk}
        → found.image ≡ d.image → Opens found sheet done d'
        → Step d reopened d'
    -- a reopening that is refused over whatever memory it is handed
    refused_opening : {d found found' : Desk} {why : Refusal}
        → Opens found sheet (Err why) found'
        → Step d nothing d
    -- Reads, which fill the caller's buffer alone. The companion question and the viewer look, and promise nothing of memory afterwards.
    fill : {d : Desk} {work work' : List ℕ} {addr len : ℕ} {answer : Answer}
        → Fills d work addr len answer work'
        → Step d nothing d
    read : {d : Desk} {work part : MutBor (List ℕ)} {addr len : ℕ}
        → HandsBack d work addr len part
        → Step d nothing d

  -- A run over the image that it opens, oldest step first. The good opening asks nothing of the state and the log bytes that it is handed.
  pub data Run (image : List ℕ) : History → Desk → Type 0 where
    opened : {d d' : Desk} → d.image ≡ image → Opens d sheet done d' → Run image opening d'
    ◌and◌ : {h : History} {d : Desk} {e : Event} {d' : Desk} → Run image h d → Step d e d' → Run image (h then e) d'

  infixl 10 ◌and◌
  -- at the end of the run and of each of its prefixes, back to the opening
  unfoldable pub Throughout : {image : List ℕ} → (History → Desk → Type 0) → {h : History} {d : Desk} → Run image h d → Type 0
  Throughout P {h} {d} (opened same o) = P h d
  Throughout P {h} {d} (r and s) = Throughout P r × P h d
