-- The runs of a session by tape as a desk makes them that links the functions: session's `TapeRun`, said of the words of a state.
-- `linked_tape_session : TapeCalls sheet tape image h m start shown → TapeSession sheet tape image h (desk_of m) start shown` (`proofs/TapeRuns.antt`).
use Rattle.std.specs.Prelude.{ℕ, ◌+◌, ◌≡◌, List, [], ◌++◌, get_or}
use Rattle.pieces.specs.AsyncSpec.{Write}
use Rattle.boundary.specs.Lent.{Lent, TapeLent, lent_by_tape}
use Rattle.boundary.specs.Gate.{SkaldriftOpen, SkaldriftJudge}
use Rattle.boundary.specs.Tape.{SkaldriftTapeWrite, SkaldriftTapeFlush, SkaldriftTapeCut}
use Rattle.session.specs.History.{Event, nothing, written, flushed, cut_by, reopened, History, opening, ◌then◌}
use Rattle.session.specs.TapeRun.{shows}
use Rattle.linked.specs.Calls.{if_0, Call}

-- no write is outstanding: the first word is the count
abbrev pub NoneOutstanding : Lent → Type 0
NoneOutstanding m = get_or m.words 0 0 ≡ 0

module _ (sheet tape : List ℕ) where
  pub data TapeCall (m : Lent) (start : ℕ) : Event → TapeLent → Type 0 where
    judged_write : {w : Write} {work work' predicted : List ℕ} {report report' number : ℕ} {t' : TapeLent}
        → SkaldriftJudge m sheet work w report 0 work' report' → SkaldriftTapeWrite (lent_by_tape m start predicted) tape w number t'
        → TapeCall m start (if_0 number (written w)) t'
    flush : {predicted : List ℕ} {number : ℕ} {t' : TapeLent}
        → SkaldriftTapeFlush (lent_by_tape m start predicted) tape number t'
        → TapeCall m start (if_0 number flushed) t'
    cut : {predicted : List ℕ} {report number report' : ℕ} {t' : TapeLent}
        → SkaldriftTapeCut (lent_by_tape m start predicted) tape report number t' report'
        → TapeCall m start (if_0 number (cut_by tape (start + 1))) t'
    -- "a session by tape reopens only on an empty log"
    reopen : {m' : Lent} {number : ℕ} {predicted : List ℕ}
        → NoneOutstanding m → SkaldriftOpen m sheet number m'
        → TapeCall m start (if_0 number reopened) (lent_by_tape m' start predicted)
    -- a good one of the same image after a power loss, of which nothing is kept but image, tape and start
    restart : {found m' : Lent} {predicted : List ℕ}
        → NoneOutstanding m → found.image ≡ m.image → SkaldriftOpen found sheet 0 m'
        → TapeCall m start reopened (lent_by_tape m' start predicted)
    -- any other call that leaves nothing behind in the history
    other : {m' : Lent} {predicted : List ℕ} → Call sheet m nothing m' → TapeCall m start nothing (lent_by_tape m' start predicted)

  pub data TapeCalls (image : List ℕ) : History → Lent → (start : ℕ) (shown : List (List ℕ)) → Type 0 where
    opened : {m m' : Lent} → m.image ≡ image → SkaldriftOpen m sheet 0 m' → TapeCalls image opening m' 0 []
    ◌and◌ : {h : History} {m : Lent} {start : ℕ} {shown : List (List ℕ)} {e : Event} {t' : TapeLent} → TapeCalls image h m start shown
        → TapeCall m start e t' → TapeCalls image (h then e) t'.memory t'.start (shows e t'.predicted ++ shown)

  infixl 10 ◌and◌
