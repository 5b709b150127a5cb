-- The search's loop over choice numbers. Once the numbers below m are tried, the working image is the last trial, and what remains to be tried from m on
-- settles the finding. Assumes nothing.
use Prim.Native.Nat.{ℕ, suc, ◌+◌, ◌-◌, ◌*◌, ◌%◌, ◌^◌, ◌≤◌, ◌<◌}
use native.Mathlib.Nat.{one-mul, sub-zero}
use native.Mathlib.Numerals.{add-one}
use native.Mathlib.Omega.{arith}
use mathlib.Core.Path.{◌≡◌, sym, ap, ◌∙◌}
use mathlib.Core.Bool.{Bool, true, false}
use mathlib.Core.List.{List}
use lib.Dec.{lit<}
use lib.Pow.{shl_exact, pow_pos}
use Rattle.std.specs.Prelude.{None, Some}
use Rattle.std.specs.Result.{is_ok}
use Rattle.region.specs.Limits.{points_limit}
use Rattle.region.specs.Answer.{Answer, answer_number}
use Rattle.pieces.specs.AsyncSpec.{Write, write}
use Rattle.cuts.specs.Number.{choice_points}
use Rattle.cuts.specs.Search.{none_bad, first_bad, finding_from}
use Rattle.cuts.specs.Gate.{gate_numbers, gate_test}
use Rattle.cuts.proofs.Search.{finding_at_start, finding_goes_on, finding_stops, finding_at_end}
use Rattle.cuts.proofs.Gate.{last_trial_is_the_read_image}
use Rattle.sheet.specs.Sheet.{obeys, allows, sheet_number}
use Rattle.sheet.proofs.Laws.{before_unseen, told_ok}
use Rattle.desk.specs.Desk.{Desk, chunk_size, view}
use Rattle.engine.specs.Search.{Ready, Searches, trial_image, sheet_finding, sheet_image}
use Rattle.engine.proofs.PointLaws.{points_with_a_write}

-- the numbers of few points fit a word
pub numbers_exact : (n : ℕ) → n ≤ points_limit → 1 * 2 ^ n % 2 ^ 64 ≡ 2 ^ n
numbers_exact n h = shl_exact {a = 1} 1 n 64 (lit< tt) (omega arith) ∙ one-mul (2 ^ n)

-- the points that an engine is told of are those of the log with the new write
pub ready_points : {d : Desk} {work_length : ℕ} {w : Write} {n : ℕ} → Ready d work_length w n → choice_points (chunk_size d) (write (view d) w) ≡ n
ready_points {d} {w = w} r = points_with_a_write d w r.good ∙ sym r.counted

-- an answer that is no refusal is obedience: a sheet that is malformed nothing obeys
pub judged_obeys : (sheet image : List ℕ) (r : Answer) {b : Bool} → answer_number r ≡ sheet_number sheet image → is_ok r ≡ b → allows sheet image ≡ b
judged_obeys sheet image r told e = sym (told_ok sheet image r told image) ∙ e

-- does the image of number m obey?
abbrev good : Desk → (sheet : List ℕ) → Write → (m : ℕ) → Bool
good d sheet w = gate_test (chunk_size d) (λ before after. obeys sheet before after) (view d) w

-- the numbers below m are tried
pub record Tried (d : Desk) (sheet : List ℕ) (w : Write) (n : ℕ) (work : List ℕ) (m : ℕ) : Type 0 where
  pub within : m ≤ 2 ^ n
  pub last : 0 < m → work ≡ trial_image d w (m - 1)
  pub remains : finding_from (good d sheet w) m (2 ^ n - m) ≡ sheet_finding d w sheet

module _ {d : Desk} {sheet : List ℕ} {w : Write} {n : ℕ} where
  pub tried_none : {work : List ℕ} → choice_points (chunk_size d) (write (view d) w) ≡ n → Tried d sheet w n work 0
  tried_none counted =
      record {
        within = omega arith;
        last = λ h. absurd (omega arith);
        remains = ap (finding_from (good d sheet w) 0) (sub-zero (2 ^ n) ∙ ap (λ (k : ℕ). 2 ^ k) (sym counted))
            ∙ sym (finding_at_start (good d sheet w) (gate_numbers (chunk_size d) (view d) w));
      }

  module _ {work : List ℕ} {m : ℕ} (t : Tried d sheet w n work m) where
    -- number m, tried after the others
    module _ {work' : List ℕ} (more : m < 2 ^ n) (here : work' ≡ trial_image d w m) where
      one_off : finding_from (good d sheet w) m (suc (2 ^ n - (m + 1))) ≡ sheet_finding d w sheet
      one_off = ap (finding_from (good d sheet w) m) (omega arith) ∙ t.remains

      judged_so : {b : Bool} → allows sheet work' ≡ b → good d sheet w m ≡ b
      judged_so e = before_unseen sheet _ work' (trial_image d w m) ∙ ap (obeys sheet work') (sym here) ∙ e

      pub tried_more : allows sheet work' ≡ true → Tried d sheet w n work' (m + 1)
      tried_more e =
          record {
            within = omega arith;
            last = λ h. here ∙ ap (trial_image d w) (omega arith);
            remains = ap (λ (k : ℕ). finding_from (good d sheet w) k (2 ^ n - (m + 1))) (add-one m)
                ∙ sym (finding_goes_on (good d sheet w) m (2 ^ n - (m + 1)) (judged_so e)) ∙ one_off;
          }

      pub found_bad : allows sheet work' ≡ false → Searches d w sheet (Some m) work'
      found_bad e =
          let denied : first_bad m ≡ sheet_finding d w sheet = sym (finding_stops (good d sheet w) m (2 ^ n - (m + 1)) (judged_so e)) ∙ one_off in
          record { answers = denied; fills = here ∙ ap (sheet_image d w) denied }

    -- all numbers tried: the last one left the read image
    pub found_none : choice_points (chunk_size d) (write (view d) w) ≡ n → 2 ^ n ≤ m → Searches d w sheet None work
    found_none counted h =
        let some = pow_pos n in
        let all : m ≡ 2 ^ n = omega (arith, t.within) in
        let none : 2 ^ n - m ≡ 0 = omega arith in
        let admitted : none_bad ≡ sheet_finding d w sheet =
        sym (finding_at_end (good d sheet w) m) ∙ ap (finding_from (good d sheet w) m) (sym none) ∙ t.remains in
        record {
          answers = admitted;
          fills = t.last (omega arith)
              ∙ ap (λ (k : ℕ). trial_image d w (k - 1)) (all ∙ ap (λ (k : ℕ). 2 ^ k) (sym counted))
              ∙ last_trial_is_the_read_image (chunk_size d) (lit< tt) (view d) w
              ∙ ap (sheet_image d w) admitted;
        }
