-- Inner: the kept count goes by addresses and lengths alone, so it needs no bytes: this is `kept` of the records' writes (`proofs/KeptLaws.antt`).
use Rattle.std.specs.Prelude.{ℕ, ◌+◌, ◌*◌, ◌≤◌, ◌≡◌, Bool, true, false, List, [], ◌∷◌, length, get_or, drop}
use Rattle.region.specs.Limits.{image_limit, writes_limit, log_limit}
use Rattle.pieces.specs.AsyncSpec.{addr_to_chunk, size_to_chunks}
use Rattle.pieces.specs.Choice.{touched}
use Rattle.pieces.specs.Rows.{set_bits, row_bytes, rows_at}
use Rattle.records.specs.declared.Record.{Record}
use Rattle.desk.specs.State.{log_records, together, records_inside}
use Rattle.desk.specs.declared.state.State.{State}

unfoldable pub kept_records : ℕ → List Record → List (List Bool) → ℕ
kept_records C [] rows = 0
kept_records C (r ∷ rs) rows =
    set_bits (λ c. get_or (get_or rows 0 []) c false) (addr_to_chunk C r.addr) (touched C r.addr r.len) + kept_records C rs (drop 1 rows)

-- the pieces that the rows from `row` on keep of a state's log, over an image of L bytes
abbrev pub kept_by_table : (C L : ℕ) → State → (table : List ℕ) (row : ℕ) → ℕ
kept_by_table C L st table row = kept_records C (log_records st) (rows_at (size_to_chunks C L) st.count table row)

-- what the count asks of a sound state, and of the place of its rows
pub record KeptFrom (C L : ℕ) (st : State) (table_length row : ℕ) : Type 0 where
  pub sized : length st.records ≡ writes_limit
  pub short : L ≤ image_limit
  pub few : st.count ≤ writes_limit
  pub inside : records_inside L (log_records st) ≡ true
  pub room : together (log_records st) ≤ log_limit
  pub right : row + st.count * row_bytes (size_to_chunks C L) ≤ table_length
