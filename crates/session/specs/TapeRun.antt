-- The runs of a session by tape: the tape is fixed beforehand, the epoch's start is 0 at first and handed on as the calls leave it, and every recorded
-- write, flush and cut goes by the tape. "A write by tape doesn't judge; in a session the judging call comes first." The buffer for the predicted image is
-- the caller's: a call takes any, and what the accepted ones left in theirs is listed.
use Rattle.std.specs.Prelude.{ℕ, ◌+◌, ◌≡◌, List, [], ◌∷◌, ◌++◌, Ok}
use Rattle.region.specs.Answer.{Answer, done, Counted}
use Rattle.pieces.specs.AsyncSpec.{Write}
use Rattle.desk.specs.Desk.{Desk}
use Rattle.gate.specs.Opening.{Opens}
use Rattle.gate.specs.Judgement.{Judges}
use Rattle.gate.specs.declared.Verdict.TheVariants.{Admitted}
use Rattle.tape.specs.Memory.{TapeDesk, by_tape}
use Rattle.tape.specs.Write.{TapeWrites}
use Rattle.tape.specs.Flush.{TapeFlushes}
use Rattle.tape.specs.Cut.{TapeCuts}
use Rattle.session.specs.History.{Event, nothing, written, flushed, cut_by, reopened, History, opening, ◌then◌, if_answered, if_cut}
use Rattle.session.specs.Run.{Step}

-- the images that an event predicts, given the buffer afterwards: an accepted call by tape has filled it
unfoldable pub shows : Event → (predicted : List ℕ) → List (List ℕ)
shows nothing predicted = []
shows (written w) predicted = predicted ∷ []
shows flushed predicted = predicted ∷ []
shows (cut_by table at) predicted = predicted ∷ []
shows reopened predicted = []

module _ (sheet tape : List ℕ) where
  -- from a desk and a start to what the call leaves
  pub data TapeStep (d : Desk) (start : ℕ) : Event → TapeDesk → Type 0 where
    judged_write : {w : Write} {work work' predicted : List ℕ} {n : ℕ} {answer : Answer} {t' : TapeDesk}
        → Judges d sheet work w (Ok (Admitted n)) work' → TapeWrites (by_tape d start predicted) tape w answer t'
        → TapeStep d start (if_answered answer (written w)) t'
    flush : {predicted : List ℕ} {answer : Answer} {t' : TapeDesk}
        → TapeFlushes (by_tape d start predicted) tape answer t'
        → TapeStep d start (if_answered answer flushed) t'
    cut : {predicted : List ℕ} {answer : Counted} {t' : TapeDesk}
        → TapeCuts (by_tape d start predicted) tape answer t'
        → TapeStep d start (if_cut answer (cut_by tape (start + 1))) t'
    -- "a session by tape reopens only on an empty log", and "a reopening keeps" the start
    reopen : {d' : Desk} {answer : Answer} {predicted : List ℕ}
        → d.state.count ≡ 0 → Opens d sheet answer d'
        → TapeStep d start (if_answered answer reopened) (by_tape d' start predicted)
    -- a good one of the same image after a power loss, of which nothing is kept but image, tape and start
    restart : {found d' : Desk} {predicted : List ℕ}
        → d.state.count ≡ 0 → found.image ≡ d.image → Opens found sheet done d'
        → TapeStep d start reopened (by_tape d' start predicted)
    -- any other call that leaves nothing behind in the history: verdicts, reads, denials, refusals
    other : {d' : Desk} {predicted : List ℕ} → Step sheet d nothing d' → TapeStep d start nothing (by_tape d' start predicted)

  -- `shown`: the images predicted, the last one first
  pub data TapeRun (image : List ℕ) : History → Desk → (start : ℕ) (shown : List (List ℕ)) → Type 0 where
    opened : {d d' : Desk} → d.image ≡ image → Opens d sheet done d' → TapeRun image opening d' 0 []
    ◌and◌ : {h : History} {d : Desk} {start : ℕ} {shown : List (List ℕ)} {e : Event} {t' : TapeDesk} → TapeRun image h d start shown
        → TapeStep d start e t' → TapeRun image (h then e) t'.memory t'.start (shows e t'.predicted ++ shown)

  infixl 10 ◌and◌
  -- at the end of the run and of each of its prefixes, back to the opening
  unfoldable pub TapeThroughout : {image : List ℕ} → (History → Desk → (start : ℕ) (shown : List (List ℕ)) → Type 0)
      → {h : History} {d : Desk} {start : ℕ} {shown : List (List ℕ)} → TapeRun image h d start shown → Type 0
  TapeThroughout P {h} {d} {start} {shown} (opened same o) = P h d start shown
  TapeThroughout P {h} {d} {start} {shown} (r and s) = TapeThroughout P r × P h d start shown
