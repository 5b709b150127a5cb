-- What skaldrift_write, skaldrift_read, skaldrift_flush and skaldrift_cut promise: the number, and every lent word and byte afterwards. Each is the call of
-- `writelog` at the desk that the words say; a refused call leaves the words as they were.
use Rattle.std.specs.Prelude.{ℕ, ◌≡◌, List}
use Rattle.region.specs.Answer.{if_done}
use Rattle.pieces.specs.AsyncSpec.{Write, readable}
use Rattle.desk.specs.Desk.{view, with_write, settled_desk}
use Rattle.writelog.specs.Write.{write_number}
use Rattle.writelog.specs.Read.{read_number}
use Rattle.writelog.specs.Flush.{flush_number}
use Rattle.writelog.specs.Cut.{cut_number, image_by_rows, kept_by_rows}
use Rattle.boundary.specs.Lent.{Lent, desk_of, plainly, at_desk, Does}

pub record SkaldriftWrite (m : Lent) (w : Write) (number : ℕ) (m' : Lent) : Type 0 where
  pub does : Does plainly (λ d. write_number d w) (λ d. with_write d w) m number m'

module _ (m : Lent) (work : List ℕ) (addr len : ℕ) where
  abbrev number_of_read : ℕ
  number_of_read = at_desk plainly m 1 (λ d. read_number d work addr len)

  pub record SkaldriftRead (number : ℕ) (work' : List ℕ) : Type 0 where
    pub answers : number ≡ number_of_read
    pub fills : work' ≡ if_done number_of_read (readable (view (desk_of m))) work

pub record SkaldriftFlush (m : Lent) (number : ℕ) (m' : Lent) : Type 0 where
  pub does : Does plainly flush_number (λ d. settled_desk d (readable (view d))) m number m'

-- `report` gets the kept count of a done cut, and keeps what it held otherwise
pub record SkaldriftCut (m : Lent) (rows : List ℕ) (report number : ℕ) (m' : Lent) (report' : ℕ) : Type 0 where
  pub does : Does plainly (λ d. cut_number d rows) (λ d. settled_desk d (image_by_rows d rows 0)) m number m'
  pub reports : report' ≡ if_done (at_desk plainly m 1 (λ d. cut_number d rows)) (kept_by_rows (desk_of m) rows 0) report
