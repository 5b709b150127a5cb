-- What the state means: the records of the outstanding writes, whose bytes lie in the log buffer, packed oldest first. Document 01, "Region, chunks, log".
use Rattle.std.specs.Prelude.{ℕ, ◌+◌, Bool, true, ◌&&◌, List, [], ◌∷◌, leb, ltb, eqb, length, take, drop, set, replicate}
use Rattle.region.specs.Limits.{image_limit, writes_limit, log_limit}
use Rattle.region.specs.Answer.{Report, unless}
use Rattle.pieces.specs.AsyncSpec.{Write}
pub use Rattle.records.specs.Record.{no_record}
use Rattle.records.specs.declared.Record.{Record}
use Rattle.desk.specs.declared.state.State.{State}

-- the records of the log are those below the count: old records past it are nobody's business
abbrev pub log_records : State → List Record
log_records st = take st.count st.records

-- how far into a state its records begin: behind the count
abbrev pub records_offset : ℕ
records_offset = 8

-- the data bytes of the records together
unfoldable pub together : List Record → ℕ
together [] = 0
together (r ∷ rs) = r.len + together rs

-- the write that a record and its bytes are
abbrev pub recorded_write : Record → List ℕ → Write
recorded_write r bytes = record { addr = r.addr; bytes = bytes }

-- each record with its bytes, which follow those of the records before it
unfoldable pub writes_of : List Record → List ℕ → List Write
writes_of [] log = []
writes_of (r ∷ rs) log = recorded_write r (take r.len log) ∷ writes_of rs (drop r.len log)

-- every record lies inside an image of L bytes, in whole numbers
unfoldable pub records_inside : ℕ → List Record → Bool
records_inside L [] = true
records_inside L (r ∷ rs) = leb (r.addr + r.len) L && records_inside L rs

-- refusal 1, as far as every call meets it: "L over 4096; a record outside L or over the log's budgets; log buffer not 1024 bytes"
unfoldable pub sound_for : (L : ℕ) → State → (log_length : ℕ) → Bool
sound_for L st log_length =
    leb L image_limit && eqb log_length log_limit && leb st.count writes_limit
    && records_inside L (log_records st) && leb (together (log_records st)) log_limit

-- what a check of it answers: 1, or 0 with the outstanding bytes
abbrev pub check_report : (L : ℕ) → State → (log_length : ℕ) → Report
check_report L st log_length =
    unless (sound_for L st log_length) (record { number = 1; values = [] })
    (record { number = 0; values = together (log_records st) ∷ [] })

-- the record of a write
abbrev pub record_of : Write → Record
record_of w = record { addr = w.addr; len = length w.bytes }

-- 2, 3 and 4 for one record more
abbrev pub room_number : (L : ℕ) → State → Record → ℕ
room_number L st r =
    unless (leb (r.addr + r.len) L) 2
    (unless (ltb st.count writes_limit) 3
    (unless (leb (together (log_records st) + r.len) log_limit) 4
    0))

-- the state with r at index count
abbrev pub with_record : State → Record → State
with_record st r = record { count = st.count; records = set st.records st.count r }

-- the state with one record more, at index count
abbrev pub appended : State → Record → State
appended st r = record { count = st.count + 1; records = set st.records st.count r }

-- the state with an empty log: "old records and log bytes stay"
abbrev pub emptied : State → State
emptied st = record { count = 0; records = st.records }

-- "an empty log, its records all zero"
abbrev pub fresh : State
fresh = record { count = 0; records = replicate writes_limit no_record }
