-- Inner: what the prediction asks, a sound log over an image, a buffer of the image's length, and an epoch with a row for each write.
use Rattle.std.specs.Prelude.{ℕ, ◌≤◌, ◌≡◌, true, List, length}
use Rattle.region.specs.Limits.{writes_limit}
use Rattle.desk.specs.Desk.{Desk, chunks, sound}
use Rattle.epochs.specs.Epoch.{row_place}

pub record Predictable (d : Desk) (tape : List ℕ) (start predicted_length : ℕ) : Type 0 where
  pub sized : length d.state.records ≡ writes_limit
  pub good : sound d ≡ true
  pub same : predicted_length ≡ length d.image
  pub rows : row_place (chunks d) start d.state.count ≤ length tape
