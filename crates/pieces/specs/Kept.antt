-- Document 01's kept count: "the count of set bits among the chunks the write touches, summed over the log".
use Rattle.std.specs.Prelude.{ℕ, ◌+◌, Bool, false, List, [], ◌∷◌, length, get_or, drop}
use Rattle.pieces.specs.AsyncSpec.{Write, addr_to_chunk}
use Rattle.pieces.specs.Choice.{touched}
use Rattle.pieces.specs.Rows.{set_bits}

-- of one write with its row
unfoldable pub kept_of : ℕ → Write → List Bool → ℕ
kept_of C w row = set_bits (λ c. get_or row c false) (addr_to_chunk C w.addr) (touched C w.addr (length w.bytes))

-- of a log with its rows
unfoldable pub kept : ℕ → List Write → List (List Bool) → ℕ
kept C [] rows = 0
kept C (w ∷ ws) rows = kept_of C w (get_or rows 0 []) + kept C ws (drop 1 rows)
