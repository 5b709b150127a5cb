-- `run` of `ExampleApp`. Document 01: "A run of r rounds opens the image under the edition 1 sheet 'any of: byte addr is val0; byte addr is val1', then
-- per round writes val0, val1, flushes, writes val1, val0, flushes. .. With r at least 1, byte addr ends as val0 and no other byte changes; r = 0
-- changes nothing. Its log buffer and working image end as those calls leave them." It meets 1, 2, 12 and 6.
use Rattle.std.specs.Prelude.{ℕ, zero, suc, ◌+◌, ◌≡◌, ◌&&◌, List, leb, eqb, length, set}
use Rattle.region.specs.Limits.{image_limit, log_limit}
use Rattle.region.specs.Answer.{unless, if_done, or_else, done}
use Rattle.rounds.specs.Valid.{app_valid}
use Rattle.rounds.specs.Answer.{run_answer_number, RunAnswer}

-- "12: example: more than 1000 rounds"
abbrev pub rounds_limit : ℕ
rounds_limit = 1000

-- what is asked before the image is judged: 1, 2 and 12, by the lengths
abbrev pub fits_number : (L log_length work_length addr rounds : ℕ) → ℕ
fits_number L log_length work_length addr rounds =
    unless (leb L image_limit && eqb log_length log_limit && eqb work_length L) 1
    (unless (leb (addr + 1) L) 2
    (unless (leb rounds rounds_limit) 12
    0))

-- what any round changes, and none leaves
abbrev pub if_any_round {ℓ} : {A : Type ℓ} → (rounds : ℕ) → (after before : A) → A
if_any_round zero after before = before
if_any_round (suc rounds) after before = after

-- the bytes that the last two writes of a round leave in the log buffer
abbrev pub log_after_round : List ℕ → (val0 val1 : ℕ) → List ℕ
log_after_round log val0 val1 = set (set log 0 val1) 1 val0

module _ (image log work : List ℕ) (addr val0 val1 rounds : ℕ) where
  -- 6 is "opening: image breaks the sheet": the sheet says `app_valid` (`proofs/SheetLaws.antt`)
  unfoldable pub run_number : ℕ
  run_number =
      or_else (fits_number (length image) (length log) (length work) addr rounds)
      (unless (app_valid addr val0 val1 image) 6 0)

  -- what a run promises: its number, and every byte of the image, the log buffer and the working image afterwards
  pub record Runs (answer : RunAnswer) (image' log' work' : List ℕ) : Type 0 where
    pub answers : run_answer_number answer ≡ run_number
    pub image_after : image' ≡ if_done run_number (if_any_round rounds (set image addr val0) image) image
    pub log_after : log' ≡ if_done run_number (if_any_round rounds (log_after_round log val0 val1) log) log
    pub work_after : work' ≡ if_done run_number (if_any_round rounds (set image addr val0) work) work

-- Inner: what the rounds leave
pub record Repeats (image log work : List ℕ) (addr val0 val1 rounds : ℕ) (answer : RunAnswer) (image' log' work' : List ℕ) : Type 0 where
  pub answers : answer ≡ done
  pub image_after : image' ≡ if_any_round rounds (set image addr val0) image
  pub log_after : log' ≡ if_any_round rounds (log_after_round log val0 val1) log
  pub work_after : work' ≡ if_any_round rounds (set image addr val0) work
