-- Demand 3. For every run that a good opening begins, at its end: `session : Run sheet image h d → Session sheet image h d` (`proofs/Theorem.antt`).
-- The end of every prefix of a run is the end of a run (`session_throughout`). This is what `main_first_time` and `main_after_crash` of power_sound_t.rs
-- argue for, and `held_before_crash` of crashinv_t.rs assumes.
use Rattle.std.specs.Prelude.{ℕ, ◌≡◌, true, List, length}
use Rattle.region.specs.Limits.{log_limit}
use Rattle.region.specs.Answer.{Answer, done}
use Rattle.pieces.specs.AsyncSpec.{committed}
use Rattle.cuts.specs.Packed.{AreBytes}
use Rattle.sheet.specs.Sheet.{allows}
use Rattle.desk.specs.Desk.{Desk, chunk_size, view}
use Rattle.writelog.specs.Cut.{cut_number}
use Rattle.gate.specs.Opening.{Opens}
use Rattle.gate.specs.Meaning.{CouldBeLeft}
use Rattle.session.specs.History.{History, cut_by, ◌then◌, replay}

pub record Session (sheet image : List ℕ) (h : History) (d : Desk) : Type 0 where
  -- "every image that a cut could leave obeys the sheet"
  pub cuts_obey : (x : List ℕ) → CouldBeLeft d x → allows sheet x ≡ true
  -- "the next opening, given buffers of the right size, is never refused": over any state and any log bytes, whatever of the outstanding writes is lost
  -- before it. The image as it lies there is one that a cut could leave.
  pub next_opening_done : (found : Desk) → CouldBeLeft d found.image → length found.log ≡ log_limit
      → {answer : Answer} {d' : Desk} → Opens found sheet answer d' → answer ≡ done
  -- "the image found is the one that replaying the history gives"
  pub image_is_the_replay : d.image ≡ committed (replay (chunk_size d) image h)
  -- and so is whatever image a power loss leaves: it is a cut by some table that the call accepts, and the history goes on with it
  pub found_is_the_replay : (x : List ℕ) → CouldBeLeft d x
      → (table : List ℕ) × AreBytes table × (cut_number d table ≡ 0) × (x ≡ committed (replay (chunk_size d) image (h then cut_by table 0)))
  -- and so are the writes that a flush or cut would settle next
  pub outstanding_are_the_replay : (view d).outstanding_writes ≡ (replay (chunk_size d) image h).outstanding_writes
