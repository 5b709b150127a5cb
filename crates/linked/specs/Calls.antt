-- The runs of a session as a desk makes them that links the functions: each step is a skaldrift_* call, or two, of which its own promise is given, on the desk's
-- own words and bytes, whatever the number. They are the steps of session's `Run`, said of the words of a state. Demand 3 holds of them:
-- `linked_session : Calls sheet image h m → Session sheet image h (desk_of m)` (`proofs/Runs.antt`).
use Rattle.std.specs.Prelude.{ℕ, suc, ◌+◌, ◌≡◌, List}
use Rattle.region.specs.Answer.{if_done}
use Rattle.pieces.specs.AsyncSpec.{Write}
use Rattle.boundary.specs.Lent.{Lent, lent_by_tape}
use Rattle.boundary.specs.Log.{SkaldriftWrite, SkaldriftRead, SkaldriftFlush, SkaldriftCut}
use Rattle.boundary.specs.Gate.{SkaldriftOpen, SkaldriftJudge, SkaldriftGate}
use Rattle.boundary.specs.Tape.{SkaldriftTapeWrite, SkaldriftTapeFlush, SkaldriftTapeCut}
use Rattle.session.specs.History.{Event, nothing, written, flushed, cut_by, reopened, History, opening, ◌then◌}

-- the event of a call that answers this number
abbrev pub if_0 : ℕ → Event → Event
if_0 number e = if_done number e nothing

module _ (sheet : List ℕ) where
  pub data Call : Lent → Event → Lent → Type 0 where
    gate : {m m' : Lent} {w : Write} {work work' : List ℕ} {report number report' : ℕ}
        → SkaldriftGate m sheet work w report number m' work' report'
        → Call m (if_0 number (written w)) m'
    judge : {m : Lent} {w : Write} {work work' : List ℕ} {report number report' : ℕ}
        → SkaldriftJudge m sheet work w report number work' report'
        → Call m nothing m
    -- a write of what a verdict on this very memory admitted, and one that nobody judged, refused
    judged_write : {m m' : Lent} {w : Write} {work work' : List ℕ} {report report' number : ℕ}
        → SkaldriftJudge m sheet work w report 0 work' report' → SkaldriftWrite m w number m'
        → Call m (if_0 number (written w)) m'
    judged_tape_write : {m m' : Lent} {w : Write} {work work' tape predicted predicted' : List ℕ} {report report' start start' number : ℕ}
        → SkaldriftJudge m sheet work w report 0 work' report'
        → SkaldriftTapeWrite (lent_by_tape m start predicted) tape w number (lent_by_tape m' start' predicted')
        → Call m (if_0 number (written w)) m'
    refused_write : {m m' : Lent} {w : Write} {why : ℕ}
        → SkaldriftWrite m w (suc why) m'
        → Call m nothing m'
    refused_tape_write : {m m' : Lent} {w : Write} {tape predicted predicted' : List ℕ} {start start' why : ℕ}
        → SkaldriftTapeWrite (lent_by_tape m start predicted) tape w (suc why) (lent_by_tape m' start' predicted')
        → Call m nothing m'
    flush : {m m' : Lent} {number : ℕ}
        → SkaldriftFlush m number m'
        → Call m (if_0 number flushed) m'
    tape_flush : {m m' : Lent} {tape predicted predicted' : List ℕ} {start start' number : ℕ}
        → SkaldriftTapeFlush (lent_by_tape m start predicted) tape number (lent_by_tape m' start' predicted')
        → Call m (if_0 number flushed) m'
    cut : {m m' : Lent} {rows : List ℕ} {report number report' : ℕ}
        → SkaldriftCut m rows report number m' report'
        → Call m (if_0 number (cut_by rows 0)) m'
    tape_cut : {m m' : Lent} {tape predicted predicted' : List ℕ} {start start' report number report' : ℕ}
        → SkaldriftTapeCut (lent_by_tape m start predicted) tape report number (lent_by_tape m' start' predicted') report'
        → Call m (if_0 number (cut_by tape (start + 1))) m'
    reopen : {m m' : Lent} {number : ℕ}
        → SkaldriftOpen m sheet number m'
        → Call m (if_0 number reopened) m'
    -- a good reopening of the same image that is handed other words and another log buffer, as after a power loss
    restart : {m found m' : Lent}
        → found.image ≡ m.image → SkaldriftOpen found sheet 0 m'
        → Call m reopened m'
    -- a reopening that is refused over whatever memory it is handed
    refused_opening : {m found found' : Lent} {why : ℕ}
        → SkaldriftOpen found sheet (suc why) found'
        → Call m nothing m
    read : {m : Lent} {work work' : List ℕ} {addr len number : ℕ}
        → SkaldriftRead m work addr len number work'
        → Call m nothing m

  -- A run over the image that it opens, oldest call first. Of the words that the opening is handed nothing is asked: number 0 tells that they are a state's.
  pub data Calls (image : List ℕ) : History → Lent → Type 0 where
    opened : {m m' : Lent} → m.image ≡ image → SkaldriftOpen m sheet 0 m' → Calls image opening m'
    ◌and◌ : {h : History} {m : Lent} {e : Event} {m' : Lent} → Calls image h m → Call m e m' → Calls image (h then e) m'

  infixl 10 ◌and◌
