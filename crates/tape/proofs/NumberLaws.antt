-- Which of a tape call's tests gives its number, and what number 0 tells. Assumes nothing.
use Prim.Native.Nat.{ℕ, ◌+◌}
use mathlib.Core.Path.{◌≡◌, refl, sym, ap, ◌∙◌}
use mathlib.Core.Bool.{Bool, true, false, beq, false≢true}
use mathlib.Core.List.{List}
use lib.Dec.{eqb}
use lib.ListN.{length}
use borrow.Author.Tests.{eq-eqb, ne_eqb, eqb-true}
use Rattle.std.specs.Prelude.{Result, Ok}
use Rattle.region.specs.Limits.{writes_limit}
use Rattle.region.specs.Answer.{Answer, answer_number, done, unless, refusal_number}
use Rattle.region.specs.declared.Refusal.{Refusal}
use Rattle.region.proofs.AnswerLaws.{passed, go_on, stop, both_none}
use Rattle.region.proofs.Booleans.{cond_when, cond_unless, and_when, and_unless, both}
use Rattle.pieces.specs.AsyncSpec.{Write, size_to_chunks}
use Rattle.desk.specs.State.{sound_for, record_of, room_number}
use Rattle.desk.specs.Desk.{chunk_size, chunks, sound, with_write}
use Rattle.walks.specs.Kept.{KeptFrom}
use Rattle.records.specs.declared.Record.{Record}
use Rattle.desk.specs.declared.state.State.{State}
use Rattle.desk.proofs.RoomLaws.{room_done}
use Rattle.desk.proofs.Soundness.{SoundFor, Sound, sound_facts, facts_sound, Room}
use Rattle.desk.proofs.Views.{sized_of_appended, sound_after_recorded}
use Rattle.writelog.specs.Write.{write_number}
use Rattle.writelog.proofs.WriteLaws.{write_sound}
use Rattle.epochs.specs.Epoch.{flush_foretold, epoch_number}
use Rattle.epochs.specs.End.{flushing as told, ForetellsEnd}
use Rattle.epochs.specs.Predictable.{Predictable}
use Rattle.epochs.specs.declared.epoch.End.{End}
use Rattle.epochs.proofs.EpochLaws.{Epoch, epoch_facts, end_foretold}
use Rattle.tape.specs.Memory.{TapeDesk, tape_sound_for}
use Rattle.tape.specs.Write.{tape_room_number, tape_write_number}
use Rattle.tape.specs.Ending.{as_foretold, ending_number, tape_ending_number}

same_bool : (a b : Bool) → beq a b ≡ true → a ≡ b
same_bool true true e = refl
same_bool true false e = absurd (false≢true e)
same_bool false true e = absurd (false≢true e)
same_bool false false e = refl

-- refusal 1: the log, and the predicted image's length
module _ (L : ℕ) (st : State) (log_length predicted_length : ℕ) where
  pub unsound : sound_for L st log_length ≡ false → tape_sound_for L st log_length predicted_length ≡ false
  unsound e = and_unless (sound_for L st log_length) (eqb predicted_length L) e

  pub missized : sound_for L st log_length ≡ true → (predicted_length ≡ L → ⊥) → tape_sound_for L st log_length predicted_length ≡ false
  missized e f = and_when (sound_for L st log_length) (eqb predicted_length L) e ∙ ne_eqb predicted_length L f

  pub tape_sound_there : sound_for L st log_length ≡ true → predicted_length ≡ L → tape_sound_for L st log_length predicted_length ≡ true
  tape_sound_there e f = and_when (sound_for L st log_length) (eqb predicted_length L) e ∙ eq-eqb predicted_length L f

  tape_sound_facts : tape_sound_for L st log_length predicted_length ≡ true → SoundFor L st log_length × (predicted_length ≡ L)
  tape_sound_facts e =
      let parts = both (sound_for L st log_length) (eqb predicted_length L) e in
      (sound_facts L st log_length parts.0, eqb-true predicted_length L parts.1)

-- a write's room: 2, 3, 4, then 10 and 9 for the epoch with the new row
module _ (C L : ℕ) (st : State) (tape : List ℕ) (start : ℕ) (r : Record) where
  pub tape_room_goes_on : room_number L st r ≡ 0 → tape_room_number C L st tape start r ≡ epoch_number (size_to_chunks C L) (st.count + 1) tape start
  unfolding tape_room_number
  tape_room_goes_on e = go_on e

  pub tape_room_stops : (why : Refusal) → room_number L st r ≡ refusal_number why → tape_room_number C L st tape start r ≡ refusal_number why
  unfolding tape_room_number
  tape_room_stops why e = stop why _ e

-- what a done write tells
pub record TapeWritten (t : TapeDesk) (tape : List ℕ) (w : Write) : Type 0 where
  pub facts : Sound t.memory
  pub same : length t.predicted ≡ length t.memory.image
  pub room : Room (length t.memory.image) t.memory.state (record_of w)
  pub epoch : Epoch (chunks t.memory) (t.memory.state.count + 1) tape t.start

module _ (t : TapeDesk) (tape : List ℕ) (w : Write) where
  abbrev good : Bool
  good = tape_sound_for (length t.memory.image) t.memory.state (length t.memory.log) (length t.predicted)

  pub tape_write_unsound : good ≡ false → tape_write_number t tape w ≡ 1
  unfolding tape_write_number
  tape_write_unsound e = cond_unless good _ 1 e

  -- past the test of 1 the number is the room's
  pub tape_write_by_room : sound t.memory ≡ true → length t.predicted ≡ length t.memory.image → {room answer : Answer}
      → answer_number room ≡ tape_room_number (chunk_size t.memory) (length t.memory.image) t.memory.state tape t.start (record_of w)
      → room ≡ answer → tape_write_number t tape w ≡ answer_number answer
  unfolding tape_write_number
  tape_write_by_room e same told is =
      cond_when good _ 1 (tape_sound_there _ t.memory.state _ _ e same) ∙ sym told ∙ ap answer_number is

  -- a write that is done by tape is done plainly
  pub plainly_done : tape_write_number t tape w ≡ 0 → write_number t.memory w ≡ 0
  unfolding tape_write_number tape_room_number
  plainly_done e =
      let a = passed _ e in
      write_sound t.memory w (both (sound t.memory) (eqb (length t.predicted) (length t.memory.image)) a.0).0 ∙ (both_none a.1).0

module _ {t : TapeDesk} {tape : List ℕ} {w : Write} where
  pub tape_write_done : tape_write_number t tape w ≡ 0 → TapeWritten t tape w
  unfolding tape_write_number tape_room_number
  tape_write_done e =
      let a = passed _ e in
      let s = tape_sound_facts _ t.memory.state _ _ a.0 in
      let parts = both_none a.1 in
      record { facts = s.0; same = s.1; room = room_done _ t.memory.state _ parts.0; epoch = epoch_facts parts.1 }

  -- the prediction with the write recorded
  pub predictable_with : length t.memory.state.records ≡ writes_limit → TapeWritten t tape w
      → Predictable (with_write t.memory w) tape t.start (length t.predicted)
  predictable_with sized told =
      let st = t.memory.state in
      let after = sound_after_recorded t.memory w sized told.facts told.room in
      record {
        sized = sized_of_appended st (record_of w) sized;
        good = facts_sound _ (with_write t.memory w).state _ after;
        same = told.same;
        rows = told.epoch.there.fits;
      }

-- an ending
module _ (flushing : Bool) (C L : ℕ) (st : State) (log_length : ℕ) (tape : List ℕ) (start predicted_length : ℕ) where
  pub ending_unsound : tape_sound_for L st log_length predicted_length ≡ false → ending_number flushing C L st log_length tape start predicted_length ≡ 1
  unfolding ending_number
  ending_unsound e = cond_unless (tape_sound_for L st log_length predicted_length) _ 1 e

  module _ (good : tape_sound_for L st log_length predicted_length ≡ true) where
    pub ending_bad_epoch : (why : Refusal) → epoch_number (size_to_chunks C L) st.count tape start ≡ refusal_number why
        → ending_number flushing C L st log_length tape start predicted_length ≡ refusal_number why
    unfolding ending_number
    ending_bad_epoch why e = cond_when (tape_sound_for L st log_length predicted_length) _ 1 good ∙ stop why _ e

    module _ (right : epoch_number (size_to_chunks C L) st.count tape start ≡ 0) where
      ending_by_header : ending_number flushing C L st log_length tape start predicted_length ≡ unless (as_foretold flushing tape start) 11 0
      unfolding ending_number
      ending_by_header = cond_when (tape_sound_for L st log_length predicted_length) _ 1 good ∙ go_on right

      pub ending_foretold : as_foretold flushing tape start ≡ true → ending_number flushing C L st log_length tape start predicted_length ≡ 0
      ending_foretold f = ending_by_header ∙ cond_when (as_foretold flushing tape start) 0 11 f

  -- a right epoch's header foretells an end
  pub ending_by_end : sound_for L st log_length ≡ true → predicted_length ≡ L → {epoch : Answer}
      → answer_number epoch ≡ epoch_number (size_to_chunks C L) st.count tape start → epoch ≡ done → (r : Result End Refusal) → ForetellsEnd tape start r
      → (end : End) × (r ≡ Ok end) × (ending_number flushing C L st log_length tape start predicted_length ≡ unless (beq (told end) flushing) 11 0)
  ending_by_end good same counted is r foretold =
      let right = sym counted ∙ ap answer_number is in
      let found = end_foretold (size_to_chunks C L) st.count tape start right r foretold in
      let number = ending_by_header (tape_sound_there L st log_length predicted_length good same) right in
      (found.0, found.1, number ∙ ap (λ (b : Bool). unless (beq b flushing) 11 0) found.2)

-- what it means that the epoch may end so
pub record Ending (flushing : Bool) (t : TapeDesk) (tape : List ℕ) : Type 0 where
  pub facts : Sound t.memory
  pub same : length t.predicted ≡ length t.memory.image
  pub epoch : Epoch (chunks t.memory) t.memory.state.count tape t.start
  pub foretold : flush_foretold tape t.start ≡ flushing

module _ (flushing : Bool) (t : TapeDesk) (tape : List ℕ) where
  pub ending_done : tape_ending_number flushing t tape ≡ 0 → Ending flushing t tape
  unfolding ending_number
  ending_done e =
      let a = passed _ e in
      let b = both_none a.1 in
      let s = tape_sound_facts _ t.memory.state _ _ a.0 in
      record { facts = s.0; same = s.1; epoch = epoch_facts b.0; foretold = same_bool _ _ (passed _ b.1).0 }

module _ {flushing : Bool} {t : TapeDesk} {tape : List ℕ} (sized : length t.memory.state.records ≡ writes_limit) (e : Ending flushing t tape) where
  -- the prediction may be made, and the rows counted where they lie
  pub predictable_now : Predictable t.memory tape t.start (length t.predicted)
  predictable_now =
      record { sized = sized; good = facts_sound _ t.memory.state _ e.facts; same = e.same; rows = e.epoch.there.fits }

  pub kept_from_start : KeptFrom (chunk_size t.memory) (length t.memory.image) t.memory.state (length tape) (t.start + 1)
  kept_from_start =
      record {
        sized = sized;
        short = e.facts.short;
        few = e.facts.few;
        inside = e.facts.inside;
        room = e.facts.room;
        right = e.epoch.there.fits;
      }
