-- Every premise of demand 3 is needed: for each a run up to the step that breaks it alone, that step, its calls' promises kept to the byte, and a
-- conclusion of the theorem that is then false. A broken image has no run before it, and a short log buffer is a premise of one conclusion alone, which
-- `short_log` shows. Those of a session by tape are in `SharpTape`. Assumes nothing.
use Prim.Native.Nat.{ℕ}
use native.Mathlib.Omega.{arith}
use mathlib.Core.Path.{◌≡◌, refl, sym, ap, ◌∙◌}
use mathlib.Core.Bool.{false, false≢true}
use mathlib.Core.List.{List, [], ◌∷◌}
use lib.ListN.{get_or, replicate, set}
use Rattle.std.specs.Prelude.{Ok, Err}
use Rattle.region.specs.declared.Refusal.TheVariants.{BadState, BrokenImage}
use Rattle.region.specs.Answer.{done}
use Rattle.pieces.specs.AsyncSpec.{Write, write_of, flush_selective}
use Rattle.cuts.proofs.Shape.{shaped_rows_crash}
use Rattle.cuts.proofs.Tables.{rows_at_shape}
use Rattle.sheet.specs.Sheet.{allows}
use Rattle.desk.specs.State.{record_of, appended, emptied, fresh}
use Rattle.desk.specs.Desk.{Desk, desk, chunk_size, view}
use Rattle.desk.specs.declared.state.State.{State}
use Rattle.writelog.specs.Write.{Writes}
use Rattle.writelog.specs.Flush.{Flushes}
use Rattle.writelog.specs.Cut.{Cuts}
use Rattle.gate.specs.Opening.{Opens}
use Rattle.gate.specs.Judgement.{Judges, Gates}
use Rattle.gate.specs.declared.Verdict.TheVariants.{Admitted, Denied}
use Rattle.session.specs.History.{History, nothing, written, flushed, reopened, opening, ◌then◌, rows_there}
use Rattle.session.specs.Run.{Run, opened, ◌and◌, gate, judge, judged_write}
use Rattle.session.specs.Theorem.{Session}
use Rattle.session.proofs.Theorem.{session}
use Rattle.session.proofs.Computing.{everything}
use Rattle.worked.proofs.Calls.{zeros, eight_is_nine, any_state, any_log, twice, log_with, one_write, found, idle, logged, the_opening, the_admitted_write}

-- the image that a cut by a table leaves
abbrev left_by : Desk → (table : List ℕ) → List ℕ
left_by d table = flush_selective (chunk_size d) (view d) (rows_there (chunk_size d) (view d) table 0)

-- where it breaks the sheet, there is no session
pub no_session : {sheet image : List ℕ} {h : History} {d : Desk} (table : List ℕ) → allows sheet (left_by d table) ≡ false → Session sheet image h d → ⊥
no_session {d = d} table broken s =
    let rows = rows_there (chunk_size d) (view d) table 0 in
    false≢true (sym broken ∙ s.cuts_obey (left_by d table) (rows, shaped_rows_crash (chunk_size d) (view d) rows (rows_at_shape _ _ table 0)))

-- the runs up to the step that breaks a premise: the opening alone, and with AA in the log
abbrev begun : Run eight_is_nine zeros opening (idle zeros)
begun = opened refl the_opening

abbrev begun_with_aa : Run eight_is_nine zeros (opening then written (twice 0xAA)) (logged zeros 0xAA)
begun_with_aa = begun and gate the_admitted_write

-- AA at 8 alone, and the desks with it in the image and in the log
abbrev a : Write
a = write_of 8 (0xAA ∷ [])

abbrev broken_desk : State → Desk
broken_desk st = desk (set zeros 8 0xAA) st any_log

abbrev desk_a : Desk
desk_a = desk zeros (appended fresh (record_of a)) (set any_log 0 0xAA)

-- "Open an image that obeys the sheet": byte 8 isn't byte 9, the opening says so, and a flush all the same leaves what was there. No run begins so.
pub broken_from_the_start :
    Opens (broken_desk fresh) eight_is_nine (Err BrokenImage) (broken_desk fresh)
    × Flushes (broken_desk fresh) done (broken_desk (emptied fresh))
    × (Session eight_is_nine (set zeros 8 0xAA) (opening then flushed) (broken_desk (emptied fresh)) → ⊥)
unfolding everything
broken_from_the_start = (record { answers = refl; leaves = refl }, record { answers = refl; leaves = refl }, no_session [] refl)

-- "record a write only when the gate has admitted it": a plain write that nobody judged
pub unjudged_write :
    Run eight_is_nine zeros opening (idle zeros)
    × Writes (idle zeros) a done desk_a
    × (Session eight_is_nine zeros (opening then written a) desk_a → ⊥)
unfolding everything
unjudged_write = (begun, record { answers = refl; leaves = refl }, no_session (0x40 ∷ []) refl)

-- "in that same state": byte 0 is 0 or byte 8 is 0, and two writes are each admitted before either is recorded
abbrev either_zero : List ℕ
either_zero = 0x1C ∷ 0x20 ∷ 0x00 ∷ 0x00 ∷ 0x00 ∷ 0x00 ∷ 0x00 ∷ 0x08 ∷ 0x00 ∷ 0x00 ∷ []

abbrev one_at : (addr : ℕ) → Write
one_at addr = write_of addr (0x01 ∷ [])

abbrev desk_one : (image : List ℕ) → Desk
desk_one image = desk image (appended fresh (record_of (one_at 0))) (set any_log 0 0x01)

abbrev desk_two : Desk
desk_two = desk zeros (appended (appended fresh (record_of (one_at 0))) (record_of (one_at 8))) (set (set any_log 0 0x01) 1 0x01)

opened_either : Opens (found zeros) either_zero done (idle zeros)
unfolding everything
opened_either = record { answers = refl; leaves = refl }

verdict_at_0 : Judges (idle zeros) either_zero zeros (one_at 0) (Ok (Admitted 1)) (set zeros 0 0x01)
unfolding everything
verdict_at_0 = record { answers = refl; fills = refl }

verdict_at_8 : Judges (idle zeros) either_zero zeros (one_at 8) (Ok (Admitted 1)) (set zeros 8 0x01)
unfolding everything
verdict_at_8 = record { answers = refl; fills = refl }

first_write : Writes (idle zeros) (one_at 0) done (desk_one zeros)
unfolding everything
first_write = record { answers = refl; leaves = refl }

pub stale_verdict :
    Run either_zero zeros (opening then nothing then written (one_at 0)) (desk_one zeros)
    × Judges (idle zeros) either_zero zeros (one_at 8) (Ok (Admitted 1)) (set zeros 8 0x01)
    × Writes (desk_one zeros) (one_at 8) done desk_two
    × (Session either_zero zeros (opening then nothing then written (one_at 0) then written (one_at 8)) desk_two → ⊥)
unfolding everything
stale_verdict = (
  opened refl opened_either and judge verdict_at_8 and judged_write verdict_at_0 first_write,
  verdict_at_8,
  record { answers = refl; leaves = refl },
  no_session (0x80 ∷ 0x40 ∷ []) refl,
)

-- a verdict in the state with the first write denies the second, and names choice 3
pub fresh_verdict : Judges (desk_one zeros) either_zero zeros (one_at 8) (Ok (Denied 3)) (set (set zeros 0 0x01) 8 0x01)
unfolding everything
fresh_verdict = record { answers = refl; fills = refl }

-- "Keep that sheet": a reopening under a sheet that always holds, and its gate
abbrev always : List ℕ
always = 0x18 ∷ 0x00 ∷ []

pub other_sheet :
    Run eight_is_nine zeros opening (idle zeros)
    × Opens (idle zeros) always done (idle zeros)
    × Gates (idle zeros) always zeros a (Ok (Admitted 1)) desk_a (set zeros 8 0xAA)
    × (Session eight_is_nine zeros (opening then reopened then written a) desk_a → ⊥)
unfolding everything
other_sheet = (
  begun,
  record { answers = refl; leaves = refl },
  record { judges = record { answers = refl; fills = refl }; leaves = refl },
  no_session (0x40 ∷ []) refl,
)

-- "let nothing else touch the memory": one byte of the image changed from outside, and the next opening refuses it;
pub touched_image :
    Run eight_is_nine zeros opening (idle zeros)
    × Opens (broken_desk any_state) eight_is_nine (Err BrokenImage) (broken_desk any_state)
    × (Session eight_is_nine zeros opening (broken_desk fresh) → ⊥)
unfolding everything
touched_image = (begun, record { answers = refl; leaves = refl }, no_session [] refl)

-- one byte of the log buffer, under an admitted write, which a flush then settles;
abbrev touched_bytes : List ℕ
touched_bytes = set (log_with 0xAA) 0 0xBB

abbrev half_settled : List ℕ
half_settled = set (set zeros 8 0xBB) 9 0xAA

pub touched_log :
    Run eight_is_nine zeros (opening then written (twice 0xAA)) (logged zeros 0xAA)
    × Flushes (desk zeros one_write touched_bytes) done (desk half_settled (emptied one_write) touched_bytes)
    × Opens (found half_settled) eight_is_nine (Err BrokenImage) (found half_settled)
    × (Session eight_is_nine zeros (opening then written (twice 0xAA)) (desk zeros one_write touched_bytes) → ⊥)
unfolding everything
touched_log = (begun_with_aa, record { answers = refl; leaves = refl }, record { answers = refl; leaves = refl }, no_session (0x40 ∷ []) refl)

-- and the address in its record
abbrev one_byte_on : State
one_byte_on = appended fresh (record { addr = 9; len = 2 })

abbrev wrongly_settled : List ℕ
wrongly_settled = set (set zeros 9 0xAA) 10 0xAA

pub touched_record :
    Run eight_is_nine zeros (opening then written (twice 0xAA)) (logged zeros 0xAA)
    × Flushes (desk zeros one_byte_on (log_with 0xAA)) done (desk wrongly_settled (emptied one_byte_on) (log_with 0xAA))
    × Opens (found wrongly_settled) eight_is_nine (Err BrokenImage) (found wrongly_settled)
    × (Session eight_is_nine zeros (opening then written (twice 0xAA)) (desk zeros one_byte_on (log_with 0xAA)) → ⊥)
unfolding everything
touched_record = (begun_with_aa, record { answers = refl; leaves = refl }, record { answers = refl; leaves = refl }, no_session (0x40 ∷ []) refl)

-- "Keep that .. length": over 8 bytes there is no byte 8, and `either_zero` says that byte 0 is 0. The gate is handed 16 bytes, the 8 and 8 zeros
-- behind them, and admits 01 at 0. Over the 8 bytes a cut leaves it, and the next opening refuses the image.
abbrev eight_zeros : List ℕ
eight_zeros = replicate 8 0

abbrev lost_desk : Desk
lost_desk = desk (set eight_zeros 0 0x01) any_state any_log

opened_short : Opens (found eight_zeros) either_zero done (idle eight_zeros)
unfolding everything
opened_short = record { answers = refl; leaves = refl }

pub other_length :
    Run either_zero eight_zeros opening (idle eight_zeros)
    × Gates (idle zeros) either_zero zeros (one_at 0) (Ok (Admitted 1)) (desk_one zeros) (set zeros 0 0x01)
    × Cuts (desk_one eight_zeros) (0x80 ∷ []) (Ok 1) (desk (set eight_zeros 0 0x01) (emptied (desk_one eight_zeros).state) (set any_log 0 0x01))
    × Opens lost_desk either_zero (Err BrokenImage) lost_desk
    × (Session either_zero eight_zeros (opening then written (one_at 0)) (desk_one eight_zeros) → ⊥)
unfolding everything
other_length = (
  opened refl opened_short,
  record { judges = record { answers = refl; fills = refl }; leaves = refl },
  record { answers = refl; leaves = refl },
  record { answers = refl; leaves = refl },
  no_session (0x80 ∷ []) refl,
)

-- "hand every call the state .. as the calls before left it": a flush that is handed the state from before the write forgets it
abbrev forgetful_desk : State → Desk
forgetful_desk st = desk zeros st (log_with 0xAA)

pub old_state :
    Run eight_is_nine zeros (opening then written (twice 0xAA)) (logged zeros 0xAA)
    × Flushes (forgetful_desk fresh) done (forgetful_desk (emptied fresh))
    × (Session eight_is_nine zeros (opening then written (twice 0xAA) then flushed) (forgetful_desk (emptied fresh)) → ⊥)
unfolding everything
old_state = (
  begun_with_aa,
  record { answers = refl; leaves = refl },
  λ s. let broken : ◌≡◌ {A = ℕ} 0 0xAA = ap (λ (x : List ℕ). get_or x 8 0) s.image_is_the_replay in absurd (omega arith),
)

-- "given buffers of the right size": all that the theorem says holds, and an opening over a log buffer of 1023 bytes is refused with 1
abbrev short_desk : Desk
short_desk = desk zeros fresh (replicate 1023 0xEE)

pub short_log :
    Run eight_is_nine zeros opening (idle zeros)
    × Session eight_is_nine zeros opening (idle zeros)
    × Opens short_desk eight_is_nine (Err BadState) short_desk
unfolding everything
short_log = (begun, session eight_is_nine zeros begun, record { answers = refl; leaves = refl })
