-- The tape write. Document 01: it meets 1, 2, 3, 4, 10, 9, and doesn't judge.
use Rattle.std.specs.Prelude.{ℕ, ◌+◌, ◌≡◌, List, length}
use Rattle.region.specs.Answer.{answer_number, unless, if_done, or_else, Answer}
use Rattle.pieces.specs.AsyncSpec.{Write, size_to_chunks}
use Rattle.desk.specs.State.{record_of, room_number}
use Rattle.desk.specs.Desk.{chunk_size, with_write}
use Rattle.records.specs.declared.Record.{Record}
use Rattle.desk.specs.declared.state.State.{State}
use Rattle.epochs.specs.Epoch.{epoch_number}
use Rattle.epochs.specs.Foretold.{predicted_now}
use Rattle.tape.specs.Memory.{TapeDesk, by_tape, tape_sound_for}

-- 2, 3, 4, then 10 and 9 for the rows of the epoch with the new one
unfoldable pub tape_room_number : (C L : ℕ) → State → (tape : List ℕ) (start : ℕ) → Record → ℕ
tape_room_number C L st tape start r = or_else (room_number L st r) (epoch_number (size_to_chunks C L) (st.count + 1) tape start)

module _ (t : TapeDesk) (tape : List ℕ) (w : Write) where
  unfoldable pub tape_write_number : ℕ
  tape_write_number =
      unless (tape_sound_for (length t.memory.image) t.memory.state (length t.memory.log) (length t.predicted)) 1
      (tape_room_number (chunk_size t.memory) (length t.memory.image) t.memory.state tape t.start (record_of w))

  -- the write recorded, and the image predicted with it; the start stays
  abbrev pub tape_written : TapeDesk
  tape_written = by_tape (with_write t.memory w) t.start (predicted_now (with_write t.memory w) tape t.start)

  -- what a tape write promises: its number, and the desk, the start and the predicted image afterwards
  pub record TapeWrites (answer : Answer) (t' : TapeDesk) : Type 0 where
    pub answers : answer_number answer ≡ tape_write_number
    pub leaves : t' ≡ if_done tape_write_number tape_written t
