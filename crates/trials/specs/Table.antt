-- The starred desk trials of document 01. Each row has what the definitions give and what document 01 says; `proofs/Starred.antt` proves them equal.
-- "L = 16, zeros; A = 11 22 33 44 at 6, B = AA BB at 7; n = 4. Bytes 6 to 9."
use Rattle.std.specs.Prelude.{ℕ, List, [], ◌∷◌, map, replicate}
use Rattle.region.specs.Limits.{const_persistence_chunk_size, log_limit}
use Rattle.region.specs.Pmemspec.{extract_bytes, size_to_chunks}
use Rattle.region.specs.Answer.{Report}
use Rattle.pieces.specs.AsyncSpec.{Write, write_of, readable}
use Rattle.cuts.specs.Number.{choice_image, choice_points}
use Rattle.desk.specs.State.{fresh}
use Rattle.desk.specs.Desk.{Desk, desk, chunk_size, view, with_write}
use Rattle.writelog.specs.Read.{read_number}
use Rattle.writelog.specs.Cut.{cut_number, image_by_rows, kept_by_rows}
use Rattle.gate.specs.Judgement.{judge_report}
use Rattle.epochs.specs.Foretold.{predicted_now}
use Rattle.tape.specs.Memory.{TapeDesk, by_tape}
use Rattle.tape.specs.Write.{tape_write_number, tape_written}
use Rattle.tape.specs.Ending.{epoch_ended}
use Rattle.tape.specs.Flush.{tape_flush_number}
use Rattle.tape.specs.Cut.{tape_cut_number}

-- what the definitions give, and what document 01 says
pub record Trial : Type 0 where
  pub gives : List ℕ
  pub says : List ℕ

abbrev zeros : List ℕ
zeros = replicate 16 0

abbrev a : Write
a = write_of 6 (0x11 ∷ 0x22 ∷ 0x33 ∷ 0x44 ∷ [])

abbrev b : Write
b = write_of 7 (0xAA ∷ 0xBB ∷ [])

-- the desk as it is opened, with the first write and with both
abbrev opened : Desk
opened = desk zeros fresh (replicate log_limit 0)

abbrev with_a : Desk
with_a = with_write opened a

abbrev with_both : Desk
with_both = with_write with_a b

abbrev seen : List ℕ → List ℕ
seen image = extract_bytes image 6 4

-- the number of a read, and what it sees
abbrev after_read : List ℕ
after_read = read_number with_both zeros 6 4 ∷ seen (readable (view with_both))

-- the number of a cut, what it keeps and what it leaves
abbrev after_cut : (table : List ℕ) → List ℕ
after_cut table = cut_number with_both table ∷ kept_by_rows with_both table 0 ∷ seen (image_by_rows with_both table 0)

abbrev by_number : (m : ℕ) → List ℕ
by_number m = seen (choice_image (chunk_size with_both) (view with_both) m)

-- a report as numbers
abbrev told : Report → List ℕ
told r = r.number ∷ r.values

-- the gate's report on a write over the zeros, with no write outstanding
abbrev judged_first : (sheet : List ℕ) → Write → List ℕ
judged_first sheet w = told (judge_report opened sheet zeros w)

-- what a call by tape is lent in the tape's first epoch
abbrev at_first : Desk → TapeDesk
at_first d = by_tape d 0 zeros

-- a tape write's number and the predicted image after it
abbrev write_by_tape : Desk → Write → (tape : List ℕ) → List ℕ
write_by_tape d w tape = tape_write_number (at_first d) tape w ∷ seen (tape_written (at_first d) tape w).predicted

-- the numbers of a tape flush, of a tape cut, and of a tape write where the cut leaves the start
abbrev ends_by_tape : (tape : List ℕ) → List ℕ
ends_by_tape tape =
    let t = at_first with_both in
    tape_flush_number t tape ∷ tape_cut_number t tape ∷ tape_write_number (epoch_ended t (predicted_now with_both tape 0)) tape (write_of 0 (0x01 ∷ [])) ∷ []

unfoldable pub starred : List Trial
starred =
    record { gives = after_read; says = 0 ∷ 0x11 ∷ 0xAA ∷ 0xBB ∷ 0x44 ∷ [] }
    ∷ record { gives = choice_points (chunk_size with_both) (view with_both) ∷ []; says = 4 ∷ [] }
    ∷ record { gives = after_cut (0x80 ∷ 0x40 ∷ []); says = 0 ∷ 2 ∷ 0x11 ∷ 0x22 ∷ 0xBB ∷ 0x00 ∷ [] }
    ∷ record { gives = by_number 9; says = 0x11 ∷ 0x22 ∷ 0xBB ∷ 0x00 ∷ [] }
    ∷ record { gives = after_cut (0x40 ∷ 0x80 ∷ []); says = 0 ∷ 2 ∷ 0x00 ∷ 0xAA ∷ 0x33 ∷ 0x44 ∷ [] }
    ∷ record { gives = by_number 6; says = 0x00 ∷ 0xAA ∷ 0x33 ∷ 0x44 ∷ [] }
    ∷ record { gives = after_cut (0xC0 ∷ 0x00 ∷ []); says = 0 ∷ 2 ∷ 0x11 ∷ 0x22 ∷ 0x33 ∷ 0x44 ∷ [] }
    ∷ record { gives = by_number 3; says = 0x11 ∷ 0x22 ∷ 0x33 ∷ 0x44 ∷ [] }
    ∷ record { gives = write_by_tape opened a (0x00 ∷ 0x80 ∷ 0x40 ∷ []); says = 0 ∷ 0x11 ∷ 0x22 ∷ 0x00 ∷ 0x00 ∷ [] }
    ∷ record { gives = write_by_tape with_a b (0x00 ∷ 0x80 ∷ 0x40 ∷ []); says = 0 ∷ 0x11 ∷ 0x22 ∷ 0xBB ∷ 0x00 ∷ [] }
    ∷ record { gives = ends_by_tape (0x00 ∷ 0x80 ∷ 0x40 ∷ []); says = 11 ∷ 0 ∷ 10 ∷ [] }
    ∷ record { gives = write_by_tape with_a b (0x80 ∷ 0x80 ∷ 0x40 ∷ []); says = 0 ∷ 0x11 ∷ 0xAA ∷ 0xBB ∷ 0x44 ∷ [] }
    ∷ record { gives = ends_by_tape (0x80 ∷ 0x80 ∷ 0x40 ∷ []); says = 0 ∷ 11 ∷ 10 ∷ [] }
    ∷ record { gives = judged_first (0x14 ∷ 0x00 ∷ 0x1C ∷ 0x00 ∷ 0x20 ∷ []) (write_of 7 (0xAA ∷ 0xAA ∷ [])); says = 8 ∷ 1 ∷ [] }
    ∷ record { gives = judged_first (0x14 ∷ 0x00 ∷ 0x20 ∷ 0x00 ∷ 0x24 ∷ []) (write_of 8 (0xAA ∷ 0xAA ∷ [])); says = 0 ∷ 1 ∷ [] }
    ∷ record { gives = map (size_to_chunks const_persistence_chunk_size) (0 ∷ 1 ∷ 8 ∷ 9 ∷ []); says = 0 ∷ 1 ∷ 1 ∷ 2 ∷ [] }
    ∷ []
