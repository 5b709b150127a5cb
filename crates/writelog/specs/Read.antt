-- The read and its companion question. Document 01: "A read fills a lent working image of L bytes with the read image and hands back the asked part
-- of the working image"; it meets 1 and 2.
use Rattle.std.specs.Prelude.{ℕ, ◌+◌, ◌≡◌, ◌&&◌, List, [], leb, eqb, length}
use Rattle.std.specs.Borrow.{MutBor}
use Rattle.region.specs.Pmemspec.{extract_bytes}
use Rattle.region.specs.Answer.{answer_number, unless, if_done, Answer}
use Rattle.pieces.specs.AsyncSpec.{readable}
use Rattle.desk.specs.State.{sound_for}
use Rattle.desk.specs.Desk.{Desk, view}
use Rattle.desk.specs.declared.state.State.{State}

-- the number goes by the lengths of image, log buffer and working image
unfoldable pub asked_number : (L : ℕ) → State → (log_length work_length addr len : ℕ) → ℕ
asked_number L st log_length work_length addr len =
    unless (sound_for L st log_length && eqb work_length L) 1
    (unless (leb (addr + len) L) 2
    0)

abbrev pub read_number : Desk → (work : List ℕ) (addr len : ℕ) → ℕ
read_number d work addr len = asked_number (length d.image) d.state (length d.log) (length work) addr len

-- what the fill promises: its number, and every byte of the working image afterwards, which is the read image
pub record Fills (d : Desk) (work : List ℕ) (addr len : ℕ) (answer : Answer) (work' : List ℕ) : Type 0 where
  pub answers : answer_number answer ≡ read_number d work addr len
  pub fills : work' ≡ if_done (read_number d work addr len) (readable (view d)) work

-- What the read promises of the part that it hands back: it is the caller's own memory, the same block and that far into it, and holds the asked
-- bytes of the read image. "On any refusal the part is empty"; it then stands at the working image's first byte.
module _ (d : Desk) (work : MutBor (List ℕ)) (addr len : ℕ) where
  abbrev number : ℕ
  number = read_number d work.now addr len

  pub record HandsBack (part : MutBor (List ℕ)) : Type 0 where
    pub block : part.ref_ptr.0 ≡ work.ref_ptr.0
    pub offset : part.ref_ptr.1 ≡ work.ref_ptr.1 + if_done number addr 0
    pub bytes : part.now ≡ if_done number (extract_bytes (readable (view d)) addr len) []
