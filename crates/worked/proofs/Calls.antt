-- Calls worked through: a desk under the sheet that says that byte 8 is byte 9, and promises of its calls, each kept to the byte by computation. `session` makes
-- runs of them with every kind of step, and `audit` runs up to a broken premise. Assumes nothing.
use Prim.Native.Nat.{ℕ}
use mathlib.Core.Path.{refl}
use mathlib.Core.List.{List, [], ◌∷◌}
use lib.ListN.{replicate, set}
use denote.Ref.{MutBor}
use Rattle.std.specs.Prelude.{Ok, Err}
use Rattle.region.specs.Limits.{writes_limit, log_limit}
use Rattle.region.specs.declared.Refusal.TheVariants.{OutOfRange, BrokenImage, BadRows, BadTape, NotPredicted}
use Rattle.region.specs.Answer.{done}
use Rattle.pieces.specs.AsyncSpec.{Write, write_of}
use Rattle.desk.specs.State.{record_of, appended, emptied, fresh}
use Rattle.desk.specs.Desk.{Desk, desk}
use Rattle.desk.specs.declared.state.State.{State}
use Rattle.writelog.specs.Write.{Writes}
use Rattle.writelog.specs.Read.{Fills, HandsBack}
use Rattle.writelog.specs.Flush.{Flushes}
use Rattle.writelog.specs.Cut.{Cuts}
use Rattle.gate.specs.Opening.{Opens}
use Rattle.gate.specs.Judgement.{Judges, Gates}
use Rattle.gate.specs.declared.Verdict.TheVariants.{Admitted, Denied}
use Rattle.tape.specs.Memory.{by_tape}
use Rattle.tape.specs.Write.{TapeWrites}
use Rattle.tape.specs.Flush.{TapeFlushes}
use Rattle.tape.specs.Cut.{TapeCuts}
use Rattle.worked.proofs.Computing.{calls}

abbrev pub zeros : List ℕ
zeros = replicate 16 0

-- "byte 8 = byte 9"
abbrev pub eight_is_nine : List ℕ
eight_is_nine = 0x14 ∷ 0x00 ∷ 0x20 ∷ 0x00 ∷ 0x24 ∷ []

-- memory after a power loss
abbrev pub any_state : State
any_state = record { count = 99; records = replicate writes_limit (record { addr = 7; len = 9 }) }

abbrev pub any_log : List ℕ
any_log = replicate log_limit 0xEE

-- a byte written to 8 and 9, the image with it, and the log buffer with it
abbrev pub twice : ℕ → Write
twice b = write_of 8 (b ∷ b ∷ [])

abbrev pub image_with : ℕ → List ℕ
image_with b = set (set zeros 8 b) 9 b

abbrev pub log_with : ℕ → List ℕ
log_with b = set (set any_log 0 b) 1 b

-- one such write outstanding
abbrev pub one_write : State
one_write = appended fresh (record_of (twice 0))

-- the desk as an opening finds it, as it leaves it, with a write in the log, and with that write settled
abbrev pub found : (image : List ℕ) → Desk
found image = desk image any_state any_log

abbrev pub idle : (image : List ℕ) → Desk
idle image = desk image fresh any_log

abbrev pub logged : (image : List ℕ) (b : ℕ) → Desk
logged image b = desk image one_write (log_with b)

abbrev pub written_down : (image : List ℕ) (b : ℕ) → Desk
written_down image b = desk image (emptied one_write) (log_with b)

-- chunk 1 of the one write is kept
abbrev pub rows : List ℕ
rows = 0x40 ∷ []

-- a flush will end the first epoch, a cut the second, which keeps chunk 1 of the one write in it
abbrev pub tape : List ℕ
tape = 0x80 ∷ 0x40 ∷ 0x00 ∷ 0x40 ∷ []

-- AA by the gate
pub the_opening : Opens (found zeros) eight_is_nine done (idle zeros)
unfolding calls
the_opening = record { answers = refl; leaves = refl }

pub the_verdict : Judges (idle zeros) eight_is_nine zeros (twice 0xAA) (Ok (Admitted 1)) (image_with 0xAA)
unfolding calls
the_verdict = record { answers = refl; fills = refl }

pub the_admitted_write : Gates (idle zeros) eight_is_nine zeros (twice 0xAA) (Ok (Admitted 1)) (logged zeros 0xAA) (image_with 0xAA)
unfolding calls
the_admitted_write = record { judges = the_verdict; leaves = refl }

-- of the two writes the newer alone is the first bad choice
pub the_denied_write : Gates (logged zeros 0xAA) eight_is_nine zeros (write_of 9 (0xBB ∷ [])) (Ok (Denied 2)) (logged zeros 0xAA) (set zeros 9 0xBB)
unfolding calls
the_denied_write = record { judges = record { answers = refl; fills = refl }; leaves = refl }

pub the_denied_verdict : Judges (logged zeros 0xAA) eight_is_nine zeros (write_of 9 (0xBB ∷ [])) (Ok (Denied 2)) (set zeros 9 0xBB)
unfolding calls
the_denied_verdict = record { answers = refl; fills = refl }

-- what ends past the image
abbrev pub too_far : Write
too_far = write_of 16 (0xBB ∷ [])

pub the_refused_write : Writes (logged zeros 0xAA) too_far (Err OutOfRange) (logged zeros 0xAA)
unfolding calls
the_refused_write = record { answers = refl; leaves = refl }

pub the_refused_gate : Gates (logged zeros 0xAA) eight_is_nine zeros too_far (Err OutOfRange) (logged zeros 0xAA) zeros
unfolding calls
the_refused_gate = record { judges = record { answers = refl; fills = refl }; leaves = refl }

pub the_refused_tape_write : TapeWrites (by_tape (logged zeros 0xAA) 0 zeros) tape too_far (Err OutOfRange) (by_tape (logged zeros 0xAA) 0 zeros)
unfolding calls
the_refused_tape_write = record { answers = refl; leaves = refl }

pub the_fill : Fills (logged zeros 0xAA) zeros 8 1 done (image_with 0xAA)
unfolding calls
the_fill = record { answers = refl; fills = refl }

pub the_refused_fill : Fills (logged zeros 0xAA) zeros 16 1 (Err OutOfRange) zeros
unfolding calls
the_refused_fill = record { answers = refl; fills = refl }

-- a lent working image, and the byte of it that a read of one byte at 8 hands back
abbrev a_lent : (offset : ℕ) (bytes : List ℕ) → MutBor (List ℕ)
a_lent offset bytes = record { ref_ptr = (3, offset); ghost_name = 7; now = bytes }

pub the_read : HandsBack (logged zeros 0xAA) (a_lent 0 zeros) 8 1 (a_lent 8 (0xAA ∷ []))
unfolding calls
the_read = record { block = refl; offset = refl; bytes = refl }

pub the_refused_read : HandsBack (logged zeros 0xAA) (a_lent 0 zeros) 16 1 (a_lent 0 [])
unfolding calls
the_refused_read = record { block = refl; offset = refl; bytes = refl }

-- by a table of no row
pub the_refused_cut : Cuts (logged zeros 0xAA) [] (Err BadRows) (logged zeros 0xAA)
unfolding calls
the_refused_cut = record { answers = refl; leaves = refl }

pub the_cut : Cuts (logged zeros 0xAA) rows (Ok 1) (written_down (image_with 0xAA) 0xAA)
unfolding calls
the_cut = record { answers = refl; leaves = refl }

-- CC by a plain write, lost by a reopening, and once more
pub the_second_verdict : Judges (written_down (image_with 0xAA) 0xAA) eight_is_nine zeros (twice 0xCC) (Ok (Admitted 1)) (image_with 0xCC)
unfolding calls
the_second_verdict = record { answers = refl; fills = refl }

pub the_plain_write : Writes (written_down (image_with 0xAA) 0xAA) (twice 0xCC) done (logged (image_with 0xAA) 0xCC)
unfolding calls
the_plain_write = record { answers = refl; leaves = refl }

pub the_losing_reopening : Opens (logged (image_with 0xAA) 0xCC) eight_is_nine done (desk (image_with 0xAA) fresh (log_with 0xCC))
unfolding calls
the_losing_reopening = record { answers = refl; leaves = refl }

-- over a broken image
pub the_refused_opening : Opens (found (set zeros 8 0xAA)) eight_is_nine (Err BrokenImage) (found (set zeros 8 0xAA))
unfolding calls
the_refused_opening = record { answers = refl; leaves = refl }

pub the_third_verdict : Judges (desk (image_with 0xAA) fresh (log_with 0xCC)) eight_is_nine zeros (twice 0xCC) (Ok (Admitted 1)) (image_with 0xCC)
unfolding calls
the_third_verdict = record { answers = refl; fills = refl }

pub the_plain_write_again : Writes (desk (image_with 0xAA) fresh (log_with 0xCC)) (twice 0xCC) done (logged (image_with 0xAA) 0xCC)
unfolding calls
the_plain_write_again = record { answers = refl; leaves = refl }

pub the_flush : Flushes (logged (image_with 0xAA) 0xCC) done (written_down (image_with 0xCC) 0xCC)
unfolding calls
the_flush = record { answers = refl; leaves = refl }

-- DD by tape, in the epoch that a flush ends
pub the_restart : Opens (found (image_with 0xCC)) eight_is_nine done (idle (image_with 0xCC))
unfolding calls
the_restart = record { answers = refl; leaves = refl }

pub the_verdict_on_dd : Judges (idle (image_with 0xCC)) eight_is_nine zeros (twice 0xDD) (Ok (Admitted 1)) (image_with 0xDD)
unfolding calls
the_verdict_on_dd = record { answers = refl; fills = refl }

pub the_tape_write : TapeWrites (by_tape (idle (image_with 0xCC)) 0 zeros) tape (twice 0xDD) done (by_tape (logged (image_with 0xCC) 0xDD) 0 (image_with 0xDD))
unfolding calls
the_tape_write = record { answers = refl; leaves = refl }

-- past the tape's end, and a cut where the tape says that a flush will come
pub the_tape_write_past_the_end : TapeWrites (by_tape (idle (image_with 0xCC)) 4 zeros) tape (twice 0xDD) (Err BadTape) (by_tape (idle (image_with 0xCC)) 4 zeros)
unfolding calls
the_tape_write_past_the_end = record { answers = refl; leaves = refl }

pub the_refused_tape_cut : TapeCuts (by_tape (logged (image_with 0xCC) 0xDD) 0 zeros) tape (Err NotPredicted) (by_tape (logged (image_with 0xCC) 0xDD) 0 zeros)
unfolding calls
the_refused_tape_cut = record { answers = refl; leaves = refl }

-- lent another buffer than the write was
pub the_tape_flush : TapeFlushes (by_tape (logged (image_with 0xCC) 0xDD) 0 zeros) tape done (by_tape (written_down (image_with 0xDD) 0xDD) 2 (image_with 0xDD))
unfolding calls
the_tape_flush = record { answers = refl; leaves = refl }

-- BB by tape, in the epoch that a cut ends, after a reopening and a power loss
pub the_reopening : Opens (written_down (image_with 0xDD) 0xDD) eight_is_nine done (desk (image_with 0xDD) fresh (log_with 0xDD))
unfolding calls
the_reopening = record { answers = refl; leaves = refl }

pub the_second_restart : Opens (found (image_with 0xDD)) eight_is_nine done (idle (image_with 0xDD))
unfolding calls
the_second_restart = record { answers = refl; leaves = refl }

-- a flush where the tape says that a cut will come
pub the_refused_tape_flush : TapeFlushes (by_tape (idle (image_with 0xDD)) 2 zeros) tape (Err NotPredicted) (by_tape (idle (image_with 0xDD)) 2 zeros)
unfolding calls
the_refused_tape_flush = record { answers = refl; leaves = refl }

pub the_verdict_on_bb : Judges (idle (image_with 0xDD)) eight_is_nine zeros (twice 0xBB) (Ok (Admitted 1)) (image_with 0xBB)
unfolding calls
the_verdict_on_bb = record { answers = refl; fills = refl }

pub the_second_tape_write : TapeWrites (by_tape (idle (image_with 0xDD)) 2 zeros) tape (twice 0xBB) done (by_tape (logged (image_with 0xDD) 0xBB) 2 (image_with 0xBB))
unfolding calls
the_second_tape_write = record { answers = refl; leaves = refl }

pub the_tape_cut : TapeCuts (by_tape (logged (image_with 0xDD) 0xBB) 2 zeros) tape (Ok 1) (by_tape (written_down (image_with 0xBB) 0xBB) 4 (image_with 0xBB))
unfolding calls
the_tape_cut = record { answers = refl; leaves = refl }
