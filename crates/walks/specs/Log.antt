-- Inner: what a replay has before it, records of a log with their bytes, and what it leaves.
use Rattle.std.specs.Prelude.{ℕ, ◌+◌, ◌*◌, ◌≤◌, ◌≡◌, true, List, length}
use Rattle.pieces.specs.AsyncSpec.{size_to_chunks, committed, flush_writes, flush_writes_selective}
use Rattle.pieces.specs.Rows.{row_bytes, rows_at}
use Rattle.records.specs.declared.Record.{Record}
use Rattle.desk.specs.State.{together, writes_of, records_inside}

-- they lie inside an image of L bytes, and so many bytes hold theirs
pub record Remaining (L : ℕ) (rs : List Record) (log_length : ℕ) : Type 0 where
  pub inside : records_inside L rs ≡ true
  pub room : together rs ≤ log_length

-- their rows lie in a table from `row` on, each of the width that an image of L bytes asks
pub record RowsRemaining (C L width left table_length row : ℕ) : Type 0 where
  pub wide : width ≡ row_bytes (size_to_chunks C L)
  pub there : row + left * width ≤ table_length

-- they are replayed over an image whole, and by these rows
abbrev pub replayed_whole : (image : List ℕ) → List Record → (log : List ℕ) → List ℕ
replayed_whole image rs log = committed (flush_writes image (writes_of rs log))

abbrev pub replayed_by_rows : (C : ℕ) (image : List ℕ) → List Record → (log table : List ℕ) (row : ℕ) → List ℕ
replayed_by_rows C image rs log table row =
    flush_writes_selective C image (writes_of rs log) (rows_at (size_to_chunks C (length image)) (length rs) table row)
