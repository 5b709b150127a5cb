-- Reading a list of rows by place, and when two lists of rows choose alike. The laws of cuts are stated over these.
use Rattle.std.specs.Prelude.{ℕ, ◌<◌, ◌≡◌, Bool, true, false, List, [], length, get_or}
use Rattle.region.specs.Tab.{inside}
use Rattle.pieces.specs.AsyncSpec.{Write, no_write, AsyncView, len, size_to_chunks}
use Rattle.pieces.specs.Choice.{touches}

-- write j of a log
abbrev pub write_at : List Write → ℕ → Write
write_at ws j = get_or ws j no_write

-- bit c of row j. A row or a bit that is lacking keeps nothing.
abbrev pub row_bit_at : List (List Bool) → ℕ → ℕ → Bool
row_bit_at rows j c = get_or (get_or rows j []) c false

-- the write covers byte i
abbrev pub covers : Write → ℕ → Bool
covers w i = inside w.addr (length w.bytes) i

-- the write touches chunk c
abbrev pub touches_chunk : ℕ → Write → ℕ → Bool
touches_chunk C w c = touches C w.addr (length w.bytes) c

-- two lists of rows have the same bits in the chunks below K that the writes touch
abbrev pub AgreeOnTouched : (C K : ℕ) → List Write → (rows rows' : List (List Bool)) → Type 0
AgreeOnTouched C K ws rows rows' =
    (j c : ℕ) → c < K → touches_chunk C (write_at ws j) c ≡ true → row_bit_at rows j c ≡ row_bit_at rows' j c

-- every chunk below K that a write touches is kept
abbrev pub KeepsAll : (C K : ℕ) → List Write → (rows : List (List Bool)) → Type 0
KeepsAll C K ws rows = (j c : ℕ) → c < K → touches_chunk C (write_at ws j) c ≡ true → row_bit_at rows j c ≡ true

-- document 01's K of a view
abbrev pub view_chunks : ℕ → AsyncView → ℕ
view_chunks C v = size_to_chunks C (len v)
