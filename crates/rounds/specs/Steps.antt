-- Inner: what the steps of a run ask and promise. A round begins and ends on an empty log.
use Rattle.std.specs.Prelude.{ℕ, ◌≤◌, ◌≡◌, true, List, length, set}
use Rattle.region.specs.Answer.{done}
use Rattle.region.specs.Limits.{image_limit, writes_limit, log_limit}
use Rattle.sheet.specs.Sheet.{obeys}
use Rattle.desk.specs.Desk.{Desk}
use Rattle.rounds.specs.Answer.{RunAnswer}
use Rattle.rounds.specs.Valid.{app_valid}

-- an empty log
pub record Idle (d : Desk) : Type 0 where
  pub sized : length d.state.records ≡ writes_limit
  pub empty : d.state.count ≡ 0

-- the sheet says that the byte at addr is a or b, and so it is
pub record Under (d : Desk) (sheet work : List ℕ) (addr a b : ℕ) : Type 0 where
  pub idle : Idle d
  pub short : length d.image ≤ image_limit
  pub buffer : length d.log ≡ log_limit
  pub same : length work ≡ length d.image
  pub good : app_valid addr a b d.image ≡ true
  pub says : (before after : List ℕ) → obeys sheet before after ≡ app_valid addr a b after

-- what writing first and then second at addr leaves, once it is flushed: the log empty, and the last value in the image and in the working image
pub record Goes (d : Desk) (addr first second : ℕ) (answer : RunAnswer) (d' : Desk) (work' : List ℕ) : Type 0 where
  pub answers : answer ≡ done
  pub idle : Idle d'
  pub image_after : d'.image ≡ set d.image addr second
  pub log_after : d'.log ≡ set (set d.log 0 first) 1 second
  pub work_after : work' ≡ set d.image addr second
