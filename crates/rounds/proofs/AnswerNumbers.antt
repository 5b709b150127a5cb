-- The number of a run's answer settles it. Assumes nothing.
use native.Mathlib.Omega.{arith}
use mathlib.Core.Path.{◌≡◌, refl, sym, ap}
use Rattle.std.specs.Prelude.{Ok, Err}
use Rattle.region.specs.declared.Refusal.{Refusal}
use Rattle.region.proofs.AnswerLaws.{refusals_by_number, refusal_not_done}
use Rattle.gate.proofs.Meaning.{denial_is_no_refusal}
use Rattle.rounds.specs.Answer.{run_answer_number, RunAnswer}
use Rattle.rounds.specs.declared.RunError.TheVariants.{Refused, Denied}

pub run_answers_by_number : (a b : RunAnswer) → run_answer_number a ≡ run_answer_number b → a ≡ b
run_answers_by_number (Ok unit) (Ok other) e = refl
run_answers_by_number (Ok unit) (Err (Refused why)) e = absurd (omega (arith, refusal_not_done why))
run_answers_by_number (Ok unit) (Err Denied) e = absurd (omega arith)
run_answers_by_number (Err (Refused why)) (Ok unit) e = absurd (omega (arith, refusal_not_done why))
run_answers_by_number (Err (Refused why)) (Err (Refused reason)) e = ap (λ (r : Refusal). Err (Refused r)) (refusals_by_number why reason e)
run_answers_by_number (Err (Refused why)) (Err Denied) e = absurd (denial_is_no_refusal why e)
run_answers_by_number (Err Denied) (Ok unit) e = absurd (omega arith)
run_answers_by_number (Err Denied) (Err (Refused why)) e = absurd (denial_is_no_refusal why (sym e))
run_answers_by_number (Err Denied) (Err Denied) e = refl
