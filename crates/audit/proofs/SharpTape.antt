-- Every premise of demand 3 by tape is needed: as in `Sharp`, for each a run by tape up to the step that breaks it alone, that step, and a conclusion
-- about the tape's choices that is then false. Assumes nothing.
use Prim.Native.Nat.{ℕ}
use native.Mathlib.Nat.{suc-ne-zero}
use native.Mathlib.Omega.{arith}
use mathlib.Core.Path.{◌≡◌, refl, ap}
use mathlib.Core.List.{List, [], ◌∷◌}
use lib.ListN.{length, get_or, set}
use Rattle.std.specs.Prelude.{Ok}
use Rattle.region.specs.Answer.{done}
use Rattle.pieces.specs.AsyncSpec.{Write, write_of}
use Rattle.desk.specs.State.{record_of, appended, emptied, fresh}
use Rattle.desk.specs.Desk.{Desk, desk, chunk_size}
use Rattle.writelog.specs.Flush.{Flushes}
use Rattle.writelog.specs.Cut.{Cuts}
use Rattle.gate.specs.Opening.{Opens}
use Rattle.gate.specs.Judgement.{Judges, Gates}
use Rattle.gate.specs.declared.Verdict.TheVariants.{Admitted}
use Rattle.tape.specs.Memory.{by_tape}
use Rattle.tape.specs.Write.{TapeWrites}
use Rattle.tape.specs.Cut.{TapeCuts}
use Rattle.session.specs.History.{Event, nothing, written, flushed, cut_by, reopened, History, opening, ◌then◌}
use Rattle.session.specs.TapeRun.{TapeRun, opened, judged_write, cut, ◌and◌}
use Rattle.session.specs.TapeTheorem.{TapeSession, prediction}
use Rattle.session.proofs.Computing.{everything}
use Rattle.audit.proofs.Sharp.{no_session}
use Rattle.worked.proofs.Calls.{zeros, eight_is_nine, any_log, twice, image_with, log_with, one_write, found, idle, logged, written_down}

abbrev image_aa : List ℕ
image_aa = image_with 0xAA

abbrev image_cc : List ℕ
image_cc = image_with 0xCC

abbrev image_dd : List ℕ
image_dd = image_with 0xDD

-- The tape of these runs: a cut ends each of two epochs, and keeps chunk 1 of the one write in the first, nothing in the second. Another keeps nothing.
abbrev tape : List ℕ
tape = 0x00 ∷ 0x40 ∷ 0x00 ∷ 0x00 ∷ []

abbrev other_tape : List ℕ
other_tape = 0x00 ∷ 0x00 ∷ []

opens : Opens (found image_aa) eight_is_nine done (idle image_aa)
unfolding everything
opens = record { answers = refl; leaves = refl }

judges_cc : Judges (idle image_aa) eight_is_nine zeros (twice 0xCC) (Ok (Admitted 1)) image_cc
unfolding everything
judges_cc = record { answers = refl; fills = refl }

writes_cc : TapeWrites (by_tape (idle image_aa) 0 zeros) tape (twice 0xCC) done (by_tape (logged image_aa 0xCC) 0 image_cc)
unfolding everything
writes_cc = record { answers = refl; leaves = refl }

cuts_cc : TapeCuts (by_tape (logged image_aa 0xCC) 0 image_cc) tape (Ok 1) (by_tape (written_down image_cc 0xCC) 2 image_cc)
unfolding everything
cuts_cc = record { answers = refl; leaves = refl }

-- the runs up to the step that breaks a premise: the opening, CC in the log, and the first epoch over
abbrev begun : (by : List ℕ) → TapeRun eight_is_nine by image_aa opening (idle image_aa) 0 []
begun by = opened refl opens

abbrev with_cc : History
with_cc = opening then written (twice 0xCC)

begun_with_cc : TapeRun eight_is_nine tape image_aa with_cc (logged image_aa 0xCC) 0 (image_cc ∷ [])
unfolding everything
begun_with_cc = begun tape and judged_write judges_cc writes_cc

one_epoch : TapeRun eight_is_nine tape image_aa (with_cc then cut_by tape 1) (written_down image_cc 0xCC) 2 (image_cc ∷ image_cc ∷ [])
unfolding everything
one_epoch = begun_with_cc and cut cuts_cc

-- whatever start and predictions are said to go with it
abbrev NoneByTape : (by image : List ℕ) → History → Desk → Type 0
NoneByTape by image h d = (start : ℕ) (shown : List (List ℕ)) → TapeSession eight_is_nine by image h d start shown → ⊥

-- an event's table, to tell two cuts apart, and a cut from a flush
abbrev table_of : Event → List ℕ
table_of nothing = []
table_of (written w) = []
table_of flushed = []
table_of (cut_by table at) = table
table_of reopened = []

-- "and a tape call the start too": after the cut the epoch starts at 2, and its row keeps nothing. The next write is judged and admitted; handed
-- the start 0 it is predicted by the row of the epoch before, which keeps it.
pub old_start :
    TapeRun eight_is_nine tape image_aa (with_cc then cut_by tape 1) (written_down image_cc 0xCC) 2 (image_cc ∷ image_cc ∷ [])
    × Judges (written_down image_cc 0xCC) eight_is_nine zeros (twice 0xDD) (Ok (Admitted 1)) image_dd
    × TapeWrites (by_tape (written_down image_cc 0xCC) 0 image_cc) tape (twice 0xDD) done (by_tape (logged image_cc 0xDD) 0 image_dd)
    × (TapeSession eight_is_nine tape image_aa (with_cc then cut_by tape 1 then written (twice 0xDD)) (logged image_cc 0xDD) 0 (image_dd ∷ image_cc ∷ image_cc ∷ []) → ⊥)
unfolding everything
old_start = (
  one_epoch,
  record { answers = refl; fills = refl },
  record { answers = refl; leaves = refl },
  λ s. let broken : ◌≡◌ {A = ℕ} 0xDD 0xCC = ap (λ (l : List (List ℕ)). get_or (get_or l 0 []) 8 0) s.predictions_are_told in absurd (omega arith),
)

-- "0 at first": the epoch that starts at 2 keeps nothing, where the tape's first keeps the write
pub later_start :
    TapeRun eight_is_nine tape image_aa opening (idle image_aa) 0 []
    × Judges (idle image_aa) eight_is_nine zeros (twice 0xCC) (Ok (Admitted 1)) image_cc
    × TapeWrites (by_tape (idle image_aa) 2 zeros) tape (twice 0xCC) done (by_tape (logged image_aa 0xCC) 2 image_aa)
    × (TapeSession eight_is_nine tape image_aa with_cc (logged image_aa 0xCC) 2 (image_aa ∷ []) → ⊥)
unfolding everything
later_start = (
  begun tape,
  judges_cc,
  record { answers = refl; leaves = refl },
  λ s. let broken : ◌≡◌ {A = ℕ} 0xAA 0xCC = ap (λ (l : List (List ℕ)). get_or (get_or l 0 []) 8 0) s.predictions_are_told in absurd (omega arith),
)

-- "a tape of cut choices fixed beforehand": the write is predicted by one tape, and cut by another that keeps nothing, so that the image predicted is not found
pub changed_tape :
    TapeRun eight_is_nine tape image_aa with_cc (logged image_aa 0xCC) 0 (image_cc ∷ [])
    × TapeCuts (by_tape (logged image_aa 0xCC) 0 image_cc) other_tape (Ok 0) (by_tape (written_down image_aa 0xCC) 2 image_aa)
    × (image_aa ≡ prediction (chunk_size (logged image_aa 0xCC)) image_aa tape with_cc → ⊥)
    × NoneByTape tape image_aa (with_cc then cut_by other_tape 1) (written_down image_aa 0xCC)
unfolding everything
changed_tape = (
  begun_with_cc,
  record { answers = refl; leaves = refl },
  λ e. let broken : ◌≡◌ {A = ℕ} 0xAA 0xCC = ap (λ (x : List ℕ). get_or x 8 0) e in absurd (omega arith),
  λ start shown s. let broken : ◌≡◌ {A = ℕ} 4 2 = ap (λ (e : Event). length (table_of e)) s.choices_are_the_tapes.1 in absurd (omega arith),
)

-- "every recorded write, flush and cut going by it": after a write by tape one that the gate records, of which no image is predicted. By a tape that keeps both,
-- the last image predicted doesn't stand.
abbrev tape_of_two : List ℕ
tape_of_two = 0x00 ∷ 0x40 ∷ 0x40 ∷ []

abbrev desk_of_two : Desk
desk_of_two = desk image_aa (appended one_write (record_of (twice 0xDD))) (set (set (log_with 0xCC) 2 0xDD) 3 0xDD)

writes_cc_of_two : TapeWrites (by_tape (idle image_aa) 0 zeros) tape_of_two (twice 0xCC) done (by_tape (logged image_aa 0xCC) 0 image_cc)
unfolding everything
writes_cc_of_two = record { answers = refl; leaves = refl }

pub write_past_the_tape :
    TapeRun eight_is_nine tape_of_two image_aa with_cc (logged image_aa 0xCC) 0 (image_cc ∷ [])
    × Gates (logged image_aa 0xCC) eight_is_nine zeros (twice 0xDD) (Ok (Admitted 2)) desk_of_two image_dd
    × (TapeSession eight_is_nine tape_of_two image_aa (with_cc then written (twice 0xDD)) desk_of_two 0 (image_cc ∷ []) → ⊥)
unfolding everything
write_past_the_tape = (
  begun tape_of_two and judged_write judges_cc writes_cc_of_two,
  record { judges = record { answers = refl; fills = refl }; leaves = refl },
  λ s. let broken : ◌≡◌ {A = ℕ} 0xCC 0xDD = ap (λ (x : List ℕ). get_or x 8 0) (s.last_one_stands image_cc [] refl) in absurd (omega arith),
)

-- a flush where the tape says that a cut will come and keep nothing: the image predicted is not found,
writes_cc_in_vain : TapeWrites (by_tape (idle image_aa) 0 zeros) other_tape (twice 0xCC) done (by_tape (logged image_aa 0xCC) 0 image_aa)
unfolding everything
writes_cc_in_vain = record { answers = refl; leaves = refl }

pub flush_past_the_tape :
    TapeRun eight_is_nine other_tape image_aa with_cc (logged image_aa 0xCC) 0 (image_aa ∷ [])
    × Flushes (logged image_aa 0xCC) done (written_down image_cc 0xCC)
    × (image_cc ≡ prediction (chunk_size (logged image_aa 0xCC)) image_aa other_tape with_cc → ⊥)
    × NoneByTape other_tape image_aa (with_cc then flushed) (written_down image_cc 0xCC)
unfolding everything
flush_past_the_tape = (
  begun other_tape and judged_write judges_cc writes_cc_in_vain,
  record { answers = refl; leaves = refl },
  λ e. let broken : ◌≡◌ {A = ℕ} 0xCC 0xAA = ap (λ (x : List ℕ). get_or x 8 0) e in absurd (omega arith),
  λ start shown s. let broken : ◌≡◌ {A = ℕ} 2 0 = ap (λ (e : Event). length (table_of e)) s.choices_are_the_tapes.1 in absurd (omega arith),
)

-- and a cut by rows of its own, which keeps nothing
pub cut_past_the_tape :
    TapeRun eight_is_nine tape image_aa with_cc (logged image_aa 0xCC) 0 (image_cc ∷ [])
    × Cuts (logged image_aa 0xCC) (0x00 ∷ []) (Ok 0) (written_down image_aa 0xCC)
    × (image_aa ≡ prediction (chunk_size (logged image_aa 0xCC)) image_aa tape with_cc → ⊥)
    × NoneByTape tape image_aa (with_cc then cut_by (0x00 ∷ []) 0) (written_down image_aa 0xCC)
unfolding everything
cut_past_the_tape = (
  begun_with_cc,
  record { answers = refl; leaves = refl },
  λ e. let broken : ◌≡◌ {A = ℕ} 0xAA 0xCC = ap (λ (x : List ℕ). get_or x 8 0) e in absurd (omega arith),
  λ start shown s. let broken : ◌≡◌ {A = ℕ} 4 1 = ap (λ (e : Event). length (table_of e)) s.choices_are_the_tapes.1 in absurd (omega arith),
)

-- "A write by tape doesn't judge": one that nobody judged, which breaks the sheet
abbrev half : Write
half = write_of 8 (0xCC ∷ [])

abbrev desk_of_half : Desk
desk_of_half = desk image_aa (appended fresh (record_of half)) (set any_log 0 0xCC)

pub unjudged_tape_write :
    TapeRun eight_is_nine tape image_aa opening (idle image_aa) 0 []
    × TapeWrites (by_tape (idle image_aa) 0 zeros) tape half done (by_tape desk_of_half 0 (set image_aa 8 0xCC))
    × NoneByTape tape image_aa (opening then written half) desk_of_half
unfolding everything
unjudged_tape_write = (begun tape, record { answers = refl; leaves = refl }, λ start shown s. no_session (0x40 ∷ []) refl s.session)

-- "a session by tape reopens only on an empty log": a reopening loses the write that the tape says is kept, and the cut by tape that then ends the epoch
-- leaves something else than was predicted when the write was accepted
abbrev emptied_desk : Desk
emptied_desk = desk image_aa fresh (log_with 0xCC)

pub reopened_with_a_write :
    TapeRun eight_is_nine tape image_aa with_cc (logged image_aa 0xCC) 0 (image_cc ∷ [])
    × Opens (logged image_aa 0xCC) eight_is_nine done emptied_desk
    × TapeCuts (by_tape emptied_desk 0 image_cc) tape (Ok 0) (by_tape (desk image_aa (emptied fresh) (log_with 0xCC)) 1 image_aa)
    × (image_aa ≡ prediction (chunk_size (logged image_aa 0xCC)) image_aa tape with_cc → ⊥)
    × NoneByTape tape image_aa (with_cc then reopened) emptied_desk
unfolding everything
reopened_with_a_write = (
  begun_with_cc,
  record { answers = refl; leaves = refl },
  record { answers = refl; leaves = refl },
  λ e. let broken : ◌≡◌ {A = ℕ} 0xAA 0xCC = ap (λ (x : List ℕ). get_or x 8 0) e in absurd (omega arith),
  λ start shown s. suc-ne-zero 0 s.choices_are_the_tapes.1,
)

-- and so does one after a power loss that goes on over the image at the last flush
pub restarted_with_a_write :
    TapeRun eight_is_nine tape image_aa with_cc (logged image_aa 0xCC) 0 (image_cc ∷ [])
    × Opens (found image_aa) eight_is_nine done (idle image_aa)
    × NoneByTape tape image_aa (with_cc then reopened) (idle image_aa)
unfolding everything
restarted_with_a_write = (begun_with_cc, opens, λ start shown s. suc-ne-zero 0 s.choices_are_the_tapes.1)
