-- Demand 3, by tape: "With a tape of cut choices fixed beforehand, and every recorded write, flush and cut going by it, the image predicted at each step
-- is the replay with those choices." `tape_session : TapeRun sheet tape image h d start shown → TapeSession sheet tape image h d start shown`
-- (`proofs/TapeTheorem.antt`). The replay is that of `Session`: its history ends each epoch as the tape says.
use Rattle.std.specs.Prelude.{ℕ, ◌+◌, ◌≡◌, cond, List, [], ◌∷◌, ◌++◌, length, Ok}
use Rattle.region.specs.Answer.{done}
use Rattle.pieces.specs.AsyncSpec.{AsyncView, committed, NoOutstandingWrites}
use Rattle.cuts.specs.Bits.{view_chunks}
use Rattle.desk.specs.Desk.{Desk, chunk_size}
use Rattle.epochs.specs.Epoch.{flush_foretold, row_place}
use Rattle.tape.specs.Memory.{TapeDesk, by_tape}
use Rattle.tape.specs.Flush.{TapeFlushes}
use Rattle.tape.specs.Cut.{TapeCuts}
use Rattle.session.specs.History.{Event, nothing, written, flushed, cut_by, reopened, History, opening, ◌then◌, replay}
use Rattle.session.specs.Theorem.{Session}
use Rattle.session.specs.TapeRun.{shows}

-- how the epoch will end, as its header says: by a flush, or by a cut that goes by the epoch's rows
abbrev pub foretold_end : (tape : List ℕ) (start : ℕ) → Event
foretold_end tape start = cond (flush_foretold tape start) flushed (cut_by tape (start + 1))

-- past the epoch's header and a row for each outstanding write
abbrev pub past_epoch : (C : ℕ) → AsyncView → (start : ℕ) → ℕ
past_epoch C v start = row_place (view_chunks C v) start (length v.outstanding_writes)

-- where the epoch starts that an event leaves: a flush or a cut ends one
unfoldable pub start_after : (C : ℕ) → AsyncView → (start : ℕ) → Event → ℕ
start_after C v start nothing = start
start_after C v start (written w) = start
start_after C v start flushed = past_epoch C v start
start_after C v start (cut_by table at) = past_epoch C v start
start_after C v start reopened = start

-- what makes an event one by the tape: an epoch ends as its header says, and a reopening loses no write
unfoldable pub GoesBy : (tape : List ℕ) → AsyncView → (start : ℕ) → Event → Type 0
GoesBy tape v start nothing = Unit
GoesBy tape v start (written w) = Unit
GoesBy tape v start flushed = foretold_end tape start ≡ flushed
GoesBy tape v start (cut_by table at) = foretold_end tape start ≡ cut_by table at
GoesBy tape v start reopened = NoOutstandingWrites v

module _ (C : ℕ) (image : List ℕ) where
  unfoldable pub epoch_start : History → ℕ
  epoch_start opening = 0
  epoch_start (h then e) = start_after C (replay C image h) (epoch_start h) e

  module _ (tape : List ℕ) where
    -- every choice in the history is the tape's
    unfoldable pub ChosenBy : History → Type 0
    ChosenBy opening = Unit
    ChosenBy (h then e) = ChosenBy h × GoesBy tape (replay C image h) (epoch_start h) e

    -- the image predicted: what the replay gives if the epoch ends as its header says
    abbrev pub prediction : History → List ℕ
    prediction h = committed (replay C image (h then foretold_end tape (epoch_start h)))

    -- the images predicted along a history, the last one first
    unfoldable pub predictions : History → List (List ℕ)
    predictions opening = []
    predictions (h then e) = shows e (prediction (h then e)) ++ predictions h

pub record TapeSession (sheet tape image : List ℕ) (h : History) (d : Desk) (start : ℕ) (shown : List (List ℕ)) : Type 0 where
  -- a session by tape is a session
  pub session : Session sheet image h d
  -- its choices are the tape's, and it tells where the epoch starts
  pub choices_are_the_tapes : ChosenBy (chunk_size d) image tape h
  pub start_is_told : start ≡ epoch_start (chunk_size d) image h
  -- "the image predicted at each step": what the accepted calls left in their buffers
  pub predictions_are_told : shown ≡ predictions (chunk_size d) image tape h
  -- The last one stands until the epoch ends,
  pub last_one_stands : (last : List ℕ) (before : List (List ℕ)) → shown ≡ last ∷ before → last ≡ prediction (chunk_size d) image tape h
  -- and the flush or the cut that is accepted then leaves it, whatever buffer it is lent.
  pub flush_leaves_the_prediction : {predicted : List ℕ} {t' : TapeDesk} → TapeFlushes (by_tape d start predicted) tape done t'
      → t'.memory.image ≡ prediction (chunk_size d) image tape h
  pub cut_leaves_the_prediction : {predicted : List ℕ} {k : ℕ} {t' : TapeDesk} → TapeCuts (by_tape d start predicted) tape (Ok k) t'
      → t'.memory.image ≡ prediction (chunk_size d) image tape h
