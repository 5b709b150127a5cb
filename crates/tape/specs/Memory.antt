-- What a call by tape is lent and leaves, as one thing: the memory of a desk, the epoch's start on the tape, and the buffer for the predicted image. The
-- tape itself is the call's own, and no call changes it.
use Rattle.std.specs.Prelude.{ℕ, Bool, ◌&&◌, List, eqb}
use Rattle.desk.specs.State.{sound_for}
use Rattle.desk.specs.Desk.{Desk}
use Rattle.desk.specs.declared.state.State.{State}

pub record TapeDesk : Type 0 where
  pub memory : Desk
  pub start : ℕ
  pub predicted : List ℕ

abbrev pub by_tape : Desk → (start : ℕ) (predicted : List ℕ) → TapeDesk
by_tape d start predicted = record { memory = d; start = start; predicted = predicted }

-- refusal 1 as a tape call meets it: "predicted image not L bytes" too
abbrev pub tape_sound_for : (L : ℕ) → State → (log_length predicted_length : ℕ) → Bool
tape_sound_for L st log_length predicted_length = sound_for L st log_length && eqb predicted_length L
