-- How an epoch ends, by a flush or by a cut. Document 01: both meet 1, 10, 9, 11, take no rows, and move "the start past the epoch's header and rows,
-- even with an empty log".
use Rattle.std.specs.Prelude.{ℕ, ◌≡◌, Bool, List, length}
use Rattle.std.specs.Bool.{beq}
use Rattle.region.specs.Answer.{unless, or_else}
use Rattle.pieces.specs.AsyncSpec.{size_to_chunks}
use Rattle.desk.specs.Desk.{chunk_size, chunks, settled_desk}
use Rattle.desk.specs.declared.state.State.{State}
use Rattle.epochs.specs.Epoch.{flush_foretold, row_place, epoch_number}
use Rattle.epochs.specs.Foretold.{predicted_now}
use Rattle.tape.specs.Memory.{TapeDesk, by_tape, tape_sound_for}

-- the end is the one that the header foretells
abbrev pub as_foretold : (flushing : Bool) (tape : List ℕ) (start : ℕ) → Bool
as_foretold flushing tape start = beq (flush_foretold tape start) flushing

-- the rows are those of the log: 0 to count - 1
unfoldable pub ending_number : (flushing : Bool) (C L : ℕ) → State → (log_length : ℕ) (tape : List ℕ) (start predicted_length : ℕ) → ℕ
ending_number flushing C L st log_length tape start predicted_length =
    unless (tape_sound_for L st log_length predicted_length) 1
    (or_else (epoch_number (size_to_chunks C L) st.count tape start)
    (unless (as_foretold flushing tape start) 11
    0))

abbrev pub tape_ending_number : (flushing : Bool) → TapeDesk → (tape : List ℕ) → ℕ
tape_ending_number flushing t tape =
    let d = t.memory in
    ending_number flushing (chunk_size d) (length d.image) d.state (length d.log) tape t.start (length t.predicted)

-- the epoch ended with this image: the log empty, the image predicted too, and the start past the epoch
abbrev pub epoch_ended : TapeDesk → (image : List ℕ) → TapeDesk
epoch_ended t image = by_tape (settled_desk t.memory image) (row_place (chunks t.memory) t.start t.memory.state.count) image

-- Inner: the step of a done end, by a flush or by a cut. It leaves the predicted image, which under 80 is the read image.
abbrev pub Settles : (t : TapeDesk) (tape : List ℕ) (t' : TapeDesk) → Type 0
Settles t tape t' = t' ≡ epoch_ended t (predicted_now t.memory tape t.start)
