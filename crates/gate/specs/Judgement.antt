-- The judging call and the gate. Document 01, "The gate": "With the new write in the log, let n be the number of choice points. The gate tries all m
-- from 0 to 2^n-1. Admitted: write recorded, n reported, working image = the new read image. Denied: least bad m reported, working image = that bad
-- image. A judging call gives the same answer and working image without recording." Both meet 1, 5, 2, 3, 4, 7 and 8. This
-- takes the place of `write` with its permission in power_t.rs and power_v.rs.
use Rattle.std.specs.Prelude.{ℕ, ◌+◌, ◌≤◌, ◌≡◌, true, ◌&&◌, List, [], ◌∷◌, leb, eqb, length, Result, Ok, Err}
use Rattle.region.specs.Limits.{writes_limit, points_limit}
use Rattle.region.specs.declared.Refusal.{Refusal}
use Rattle.region.specs.Answer.{Report, refusal_number, unless, if_done, or_else}
use Rattle.pieces.specs.AsyncSpec.{Write, write}
use Rattle.cuts.specs.Number.{choice_points}
use Rattle.cuts.specs.Search as search
use Rattle.sheet.specs.Sheet.{well_formed}
use Rattle.desk.specs.State.{log_records, together}
use Rattle.desk.specs.Desk.{Desk, chunk_size, view, sound, room_for, with_write}
use Rattle.engine.specs.Search.{sheet_finding, sheet_image}
use Rattle.gate.specs.declared.Verdict.{Verdict}
use Rattle.gate.specs.declared.Verdict.TheVariants.{Admitted, Denied}

-- the number of a denied write
abbrev pub denied_number : ℕ
denied_number = 8

-- What the judging call and the gate answer: a verdict, or why there is none.
abbrev pub Judged : Type 0
Judged = Result Verdict Refusal

-- document 01's number and values for each case
abbrev pub verdict_report : Judged → Report
verdict_report (Ok (Admitted n)) = record { number = 0; values = n ∷ [] }
verdict_report (Ok (Denied m)) = record { number = denied_number; values = m ∷ [] }
verdict_report (Err why) = record { number = refusal_number why; values = [] }

-- and for each finding of a search that tried all the images
abbrev pub finding_report : (n : ℕ) → search.Finding → Report
finding_report n search.none_bad = record { number = 0; values = n ∷ [] }
finding_report n (search.first_bad m) = record { number = denied_number; values = m ∷ [] }

-- n: the choice points with the new write in the log
abbrev pub gate_points : Desk → Write → ℕ
gate_points d w = choice_points (chunk_size d) (write (view d) w)

module _ (d : Desk) (sheet work : List ℕ) (w : Write) where
  -- 1, 5, 2, 3, 4 or 7, or 0 where the images are tried
  unfoldable pub judge_refusal : ℕ
  judge_refusal =
      unless (sound d && eqb (length work) (length d.image)) 1
      (unless (well_formed sheet) 5
      (or_else (room_for d w)
      (unless (leb (gate_points d w) points_limit) 7
      0)))

  abbrev pub judge_report : Report
  judge_report = if_done judge_refusal (finding_report (gate_points d w) (sheet_finding d w sheet)) (record { number = judge_refusal; values = [] })

  abbrev pub judge_number : ℕ
  judge_number = judge_report.number

  -- the working image afterwards
  abbrev pub judge_work : List ℕ
  judge_work = if_done judge_refusal (sheet_image d w (sheet_finding d w sheet)) work

  -- what a judging call promises: its number with n or m, and the working image afterwards
  pub record Judges (answer : Judged) (work' : List ℕ) : Type 0 where
    pub answers : verdict_report answer ≡ judge_report
    pub fills : work' ≡ judge_work

  -- what the gate promises: the same, and the desk afterwards, which a plain write leaves so
  pub record Gates (answer : Judged) (d' : Desk) (work' : List ℕ) : Type 0 where
    pub judges : Judges answer work'
    pub leaves : d' ≡ if_done judge_number (with_write d w) d

-- What the inner functions ask and promise. A sound desk, with its outstanding bytes counted.
pub record Checked (d : Desk) (used : ℕ) : Type 0 where
  pub sized : length d.state.records ≡ writes_limit
  pub good : sound d ≡ true
  pub counted : used ≡ together (log_records d.state)

-- a write that fits
pub record Fitting (d : Desk) (work_length : ℕ) (w : Write) : Type 0 where
  pub sized : length d.state.records ≡ writes_limit
  pub good : sound d ≡ true
  pub same : work_length ≡ length d.image
  pub lies : w.addr + length w.bytes ≤ length d.image

-- its judging from 7 on: once 5, 3 and 4 are ruled out too, the judging call's promise
pub record Weighs (d : Desk) (sheet work : List ℕ) (w : Write) (answer : Judged) (work' : List ℕ) : Type 0 where
  pub judges : well_formed sheet ≡ true → room_for d w ≡ 0 → Judges d sheet work w answer work'
