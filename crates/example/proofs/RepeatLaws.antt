-- The rounds of a run, one after the other, and the lengths that they keep. Assumes nothing.
use Prim.Native.Nat.{ℕ, zero, suc, ◌+◌}
use native.Mathlib.Numerals.{add-one}
use mathlib.Core.Path.{◌≡◌, refl, sym, ap, ◌∙◌}
use mathlib.Core.List.{List}
use lib.ListN.{length, set, length-set}
use lib.Seq.{set-set}
use Rattle.region.specs.Answer.{done}
use Rattle.desk.specs.Desk.{Desk}
use Rattle.rounds.specs.Steps.{Goes}
use Rattle.rounds.proofs.StepLaws.{pair_over_pair}
use Rattle.rounds.specs.Answer.{RunAnswer}
use Rattle.example.specs.Run.{if_any_round, log_after_round, Repeats}

module _ {image log work : List ℕ} {addr val0 val1 : ℕ} where
  pub repeats_none : Repeats image log work addr val0 val1 0 done image log work
  repeats_none = record { answers = refl; image_after = refl; log_after = refl; work_after = refl }

  -- one more
  pub repeats_more : {n : ℕ} {d₁ : Desk} {work₁ : List ℕ} → Repeats image log work addr val0 val1 n done d₁.image d₁.log work₁
      → {answer : RunAnswer} {d' : Desk} {work' : List ℕ} → Goes d₁ addr val1 val0 answer d' work'
      → Repeats image log work addr val0 val1 (n + 1) done d'.image d'.log work'
  repeats_more {n} r g =
      let long = add-one n in
      let image_again = ap (λ (s : List ℕ). set s addr val0) r.image_after ∙ again n in
      record {
        answers = refl;
        image_after = rw long (g.image_after ∙ image_again);
        log_after = rw long (g.log_after ∙ ap (λ (l : List ℕ). log_after_round l val0 val1) r.log_after ∙ log_again n);
        work_after = rw long (g.work_after ∙ image_again);
      }
    where
      again : (k : ℕ) → set (if_any_round k (set image addr val0) image) addr val0 ≡ set image addr val0
      again zero = refl
      again (suc k) = set-set image addr val0 val0

      log_again : (k : ℕ) → log_after_round (if_any_round k (log_after_round log val0 val1) log) val0 val1 ≡ log_after_round log val0 val1
      log_again zero = refl
      log_again (suc k) = pair_over_pair log val1 val0 val1 val0

  -- they keep the lengths
  module _ {n : ℕ} {answer : RunAnswer} {image' log' work' : List ℕ} (r : Repeats image log work addr val0 val1 n answer image' log' work') where
    kept_length : (k : ℕ) (after before : List ℕ) → length after ≡ length before → length (if_any_round k after before) ≡ length before
    kept_length zero after before e = refl
    kept_length (suc k) after before e = e

    pub image_length : length image' ≡ length image
    image_length = ap length r.image_after ∙ kept_length n (set image addr val0) image (length-set image addr val0)

    pub log_length : length log' ≡ length log
    log_length =
        ap length r.log_after ∙ kept_length n (log_after_round log val0 val1) log (length-set (set log 0 val1) 1 val0 ∙ length-set log 0 val1)

    pub work_length : length work ≡ length image → length work' ≡ length work
    work_length same = ap length r.work_after ∙ kept_length n (set image addr val0) work (length-set image addr val0 ∙ sym same)
