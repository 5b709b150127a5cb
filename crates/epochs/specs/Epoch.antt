-- An epoch of the tape: a header byte at `start`, then one row for each accepted write. Document 01, "The tape". `start` is a whole number
-- and may lie anywhere, past the tape's end too.
use Rattle.std.specs.Prelude.{ℕ, ◌+◌, ◌*◌, Bool, ◌&&◌, ◌||◌, List, leb, ltb, eqb, length, get_or}
use Rattle.region.specs.Answer.{unless}
use Rattle.pieces.specs.Rows.{row_bytes, rows_at, rows_filled}

-- "Its header byte is 80 (a flush will end it) or 00 (a cut will)"
abbrev pub flush_header : ℕ
flush_header = 128

abbrev pub cut_header : ℕ
cut_header = 0

abbrev pub header : List ℕ → ℕ → ℕ
header tape start = get_or tape start 0

-- a flush will end the epoch
abbrev pub flush_foretold : List ℕ → ℕ → Bool
flush_foretold tape start = eqb (header tape start) flush_header

-- the header is there, and is one of the two
abbrev pub header_right : List ℕ → ℕ → Bool
header_right tape start = ltb start (length tape) && (flush_foretold tape start || eqb (header tape start) cut_header)

-- "row i follows the header and the i rows before it": where row n lies, and where n rows end
abbrev pub row_place : (K start n : ℕ) → ℕ
row_place K start n = start + 1 + n * row_bytes K

-- refusal 10 for an epoch of n rows
abbrev pub epoch_there : (K n : ℕ) (tape : List ℕ) (start : ℕ) → Bool
epoch_there K n tape start = header_right tape start && leb (row_place K start n) (length tape)

-- 10, and 9 for a filling bit in any of the rows
unfoldable pub epoch_number : (K n : ℕ) (tape : List ℕ) (start : ℕ) → ℕ
epoch_number K n tape start =
    unless (epoch_there K n tape start) 10
    (unless (rows_filled K n tape (start + 1)) 9
    0)

-- the epoch's first n rows
abbrev pub epoch_rows : (K n : ℕ) (tape : List ℕ) (start : ℕ) → List (List Bool)
epoch_rows K n tape start = rows_at K n tape (start + 1)
