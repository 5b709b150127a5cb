-- The memory of a desk, as one thing: what the promises, numbers and laws of every call that is handed a state speak of. What a call is lent beside it, a sheet, a working image, a table, a
-- tape, a predicted image, is the call's own.
use Rattle.std.specs.Prelude.{ℕ, Bool, List, length}
use Rattle.region.specs.Limits.{const_persistence_chunk_size}
use Rattle.region.specs.Pmemspec.{update_bytes}
use Rattle.pieces.specs.AsyncSpec.{Write, AsyncView, size_to_chunks}
use Rattle.desk.specs.State.{log_records, together, writes_of, sound_for, record_of, room_number, appended, emptied, fresh}
use Rattle.desk.specs.declared.state.State.{State}

-- the image at the last flush, the state, and the log buffer
pub record Desk : Type 0 where
  pub image : List ℕ
  pub state : State
  pub log : List ℕ

abbrev pub desk : (image : List ℕ) → State → (log : List ℕ) → Desk
desk image st log = record { image = image; state = st; log = log }

-- the bytes of a chunk, which every desk has alike
abbrev pub chunk_size : Desk → ℕ
chunk_size d = const_persistence_chunk_size

-- document 01's K
abbrev pub chunks : Desk → ℕ
chunks d = size_to_chunks (chunk_size d) (length d.image)

-- what the memory stands for: the image at the last flush, and the outstanding writes
abbrev pub view : Desk → AsyncView
view d = record { state_at_last_flush = d.image; outstanding_writes = writes_of (log_records d.state) d.log }

-- refusal 1, as far as every call meets it
abbrev pub sound : Desk → Bool
sound d = sound_for (length d.image) d.state (length d.log)

-- 2, 3 or 4, or 0 where there is room for the write
abbrev pub room_for : Desk → Write → ℕ
room_for d w = room_number (length d.image) d.state (record_of w)

-- the desk with one write more: its record at index count, its bytes behind the outstanding ones
abbrev pub with_write : Desk → Write → Desk
with_write d w =
    record {
      image = d.image;
      state = appended d.state (record_of w);
      log = update_bytes d.log (together (log_records d.state)) w.bytes;
    }

-- the desk with this image and an empty log, as a flush or a cut leaves it
abbrev pub settled_desk : Desk → (image : List ℕ) → Desk
settled_desk d image = record { image = image; state = emptied d.state; log = d.log }

-- the desk as an opening starts it: "lent memory stays"
abbrev pub opened_desk : Desk → Desk
opened_desk d = record { image = d.image; state = fresh; log = d.log }
