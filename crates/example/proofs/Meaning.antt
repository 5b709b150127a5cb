-- What the promises mean, sentence by sentence of document 01's "The example application". Assumes nothing.
use Prim.Native.Nat.{ℕ, zero, suc, ◌<◌}
use native.Mathlib.Omega.{arith}
use mathlib.Core.Path.{◌≡◌, refl, sym, ap, ◌∙◌}
use mathlib.Core.Bool.{true}
use mathlib.Core.List.{List}
use lib.ListN.{length, get_or, set}
use lib.Seq.{get_or-set_same, get_or-set_other}
use Rattle.region.specs.Answer.{answer_number, if_done, Answer, done}
use Rattle.region.proofs.AnswerLaws.{changed}
use Rattle.rounds.specs.Valid.{app_valid}
use Rattle.example.specs.Setup.{setup_number, SetsUp}
use Rattle.rounds.specs.Answer.{run_answer_number, RunAnswer}
use Rattle.example.specs.Run.{run_number, if_any_round, log_after_round, Runs}
use Rattle.rounds.proofs.AnswerNumbers.{run_answers_by_number}
use Rattle.example.proofs.NumberLaws.{setup_done_lies, Fit, run_good}
use Rattle.rounds.proofs.StepLaws.{first_value, set_valid, valid_lies}

-- `setup` of the source: the image that it leaves is valid, whatever the other value
pub set_up_is_valid : (image : List ℕ) (addr val0 : ℕ) {answer : Answer} {image' : List ℕ} → SetsUp image addr val0 answer image' → answer ≡ done
    → (val1 : ℕ) → app_valid addr val0 val1 image' ≡ true
set_up_is_valid image addr val0 p d val1 =
    let none : setup_number image addr ≡ 0 = sym p.answers ∙ ap answer_number d in
    ap (app_valid addr val0 val1) (changed _ p.image_after none)
    ∙ set_valid addr val0 val1 val0 image (setup_done_lies image addr val0 none) (first_value val0 val1)

module _ (image log work : List ℕ) (addr val0 val1 rounds : ℕ) {answer : RunAnswer} {image' log' work' : List ℕ}
    (p : Runs image log work addr val0 val1 rounds answer image' log' work') where
  -- "It is proved that none comes after a good opening."
  pub no_refusal : Fit (length image) (length log) (length work) addr rounds → app_valid addr val0 val1 image ≡ true → answer ≡ done
  no_refusal f good = run_answers_by_number answer done (p.answers ∙ run_good image log work addr val0 val1 rounds f good)

  done_number : answer ≡ done → run_number image log work addr val0 val1 rounds ≡ 0
  done_number d = sym p.answers ∙ ap run_answer_number d

  image_is : answer ≡ done → image' ≡ if_any_round rounds (set image addr val0) image
  image_is d = changed _ p.image_after (done_number d)

  -- "With r at least 1, byte addr ends as val0": the answer is that of a valid image, so the address lies inside
  module _ (d : answer ≡ done) (lies : addr < length image) where
    pub byte_ends_as_val0 : 0 < rounds → get_or image' addr 0 ≡ val0
    byte_ends_as_val0 h = ap (λ (s : List ℕ). get_or s addr 0) (image_is d) ∙ go rounds h
      where
        go : (n : ℕ) → 0 < n → get_or (if_any_round n (set image addr val0) image) addr 0 ≡ val0
        go zero h = absurd (omega arith)
        go (suc n) h = get_or-set_same image addr val0 0 lies

  -- "and no other byte changes; r = 0 changes nothing"
  pub no_other_byte : answer ≡ done → (i : ℕ) → (i ≡ addr → ⊥) → get_or image' i 0 ≡ get_or image i 0
  no_other_byte d i n = ap (λ (s : List ℕ). get_or s i 0) (image_is d) ∙ go rounds
    where
      go : (k : ℕ) → get_or (if_any_round k (set image addr val0) image) i 0 ≡ get_or image i 0
      go zero = refl
      go (suc k) = get_or-set_other image addr i val0 0 n

  pub nothing_in_no_round : answer ≡ done → rounds ≡ 0 → (image' ≡ image) × (log' ≡ log) × (work' ≡ work)
  nothing_in_no_round d z =
      let none = done_number d in (
        image_is d ∙ ap (λ (n : ℕ). if_any_round n (set image addr val0) image) z,
        changed _ p.log_after none ∙ ap (λ (n : ℕ). if_any_round n (log_after_round log val0 val1) log) z,
        changed _ p.work_after none ∙ ap (λ (n : ℕ). if_any_round n (set image addr val0) work) z,
      )

  -- `run` of the source keeps its invariant
  pub run_keeps_valid : app_valid addr val0 val1 image ≡ true → app_valid addr val0 val1 image' ≡ true
  run_keeps_valid good = ap (app_valid addr val0 val1) p.image_after ∙ go (run_number image log work addr val0 val1 rounds) rounds
    where
      go : (k n : ℕ) → app_valid addr val0 val1 (if_done k (if_any_round n (set image addr val0) image) image) ≡ true
      go zero zero = good
      go zero (suc n) = set_valid addr val0 val1 val0 image (valid_lies addr val0 val1 image good) (first_value val0 val1)
      go (suc k) n = good
