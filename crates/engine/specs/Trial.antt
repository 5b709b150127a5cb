-- Inner: what a trial leaves of a log.
use Rattle.std.specs.Prelude.{ℕ, List, length}
use Rattle.pieces.specs.AsyncSpec.{size_to_chunks, flush_writes_selective}
use Rattle.pieces.specs.Choice.{rows_of}
use Rattle.records.specs.declared.Record.{Record}
use Rattle.desk.specs.State.{writes_of}

-- records whose bytes begin the log are replayed over an image by the chunks that choice number m keeps
abbrev pub replayed_by_choice : (C : ℕ) (image : List ℕ) → List Record → (log : List ℕ) (m : ℕ) → List ℕ
replayed_by_choice C image rs log m =
    flush_writes_selective C image (writes_of rs log) (rows_of C (size_to_chunks C (length image)) (writes_of rs log) m)
