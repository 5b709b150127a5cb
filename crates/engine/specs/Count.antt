-- Inner: the choice points of a log go by addresses and lengths alone, so counting them needs no bytes. This is `points` of the records' writes
-- (`proofs/PointLaws.antt`).
use Rattle.std.specs.Prelude.{ℕ, ◌+◌, ◌≤◌, ◌≡◌, true, List, [], ◌∷◌, length}
use Rattle.region.specs.Limits.{image_limit, writes_limit, log_limit}
use Rattle.pieces.specs.Choice.{touched}
use Rattle.desk.specs.State.{log_records, together, records_inside}
use Rattle.records.specs.declared.Record.{Record}
use Rattle.desk.specs.declared.state.State.{State}

unfoldable pub record_points : ℕ → List Record → ℕ
record_points C [] = 0
record_points C (r ∷ rs) = touched C r.addr r.len + record_points C rs

-- what the count asks of a state: that it is sound for some image
pub record Countable (st : State) : Type 0 where
  pub sized : length st.records ≡ writes_limit
  pub few : st.count ≤ writes_limit
  pub inside : records_inside image_limit (log_records st) ≡ true
  pub room : together (log_records st) ≤ log_limit
