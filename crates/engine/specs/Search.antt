-- What an engine is asked, and what it promises: the finding over all choice numbers, and the image that it leaves. A quicker engine has the same
-- promise.
use Rattle.std.specs.Prelude.{ℕ, ◌+◌, ◌≤◌, ◌≡◌, true, List, length, Option, None, Some}
use Rattle.region.specs.Limits.{writes_limit, points_limit}
use Rattle.pieces.specs.AsyncSpec.{Write, write}
use Rattle.pieces.specs.Choice.{touched}
use Rattle.cuts.specs.Number.{choice_image}
use Rattle.cuts.specs.Search.{Finding, none_bad, first_bad}
use Rattle.cuts.specs.Gate.{gate_finding, gate_image}
use Rattle.sheet.specs.Sheet.{obeys}
use Rattle.desk.specs.State.{log_records}
use Rattle.desk.specs.Desk.{Desk, chunk_size, view, sound}
use Rattle.engine.specs.Count.{record_points}

-- a sound desk, a working image of the image's length, a write inside it, and few enough points with the write in the log
pub record Ready (d : Desk) (work_length : ℕ) (w : Write) (points : ℕ) : Type 0 where
  pub sized : length d.state.records ≡ writes_limit
  pub good : sound d ≡ true
  pub same : work_length ≡ length d.image
  pub lies : w.addr + length w.bytes ≤ length d.image
  pub counted : points ≡ record_points (chunk_size d) (log_records d.state) + touched (chunk_size d) w.addr (length w.bytes)
  pub few : points ≤ points_limit

-- the finding that an answer of the search is
abbrev pub searched : Option ℕ → Finding
searched None = none_bad
searched (Some m) = first_bad m

module _ (d : Desk) (w : Write) where
  -- the image that choice number m leaves, with the write in the log
  abbrev pub trial_image : (m : ℕ) → List ℕ
  trial_image m = choice_image (chunk_size d) (write (view d) w) m

  -- the finding on a sheet's rule, which a sheet gives for two images
  abbrev pub sheet_finding : (sheet : List ℕ) → Finding
  sheet_finding sheet = gate_finding (chunk_size d) (λ before after. obeys sheet before after) (view d) w

  -- the image that a finding leaves
  abbrev pub sheet_image : Finding → List ℕ
  sheet_image r = gate_image (chunk_size d) (view d) w r

  pub record Searches (sheet : List ℕ) (answer : Option ℕ) (work' : List ℕ) : Type 0 where
    pub answers : searched answer ≡ sheet_finding sheet
    pub fills : work' ≡ sheet_image (sheet_finding sheet)
