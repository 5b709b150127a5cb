-- Document 01's number for each case of a run's answer.
use Rattle.std.specs.Prelude.{ℕ, ⊤, Result, Ok, Err}
use Rattle.region.specs.Answer.{refusal_number}
use Rattle.gate.specs.Judgement.{denied_number}
use Rattle.rounds.specs.declared.RunError.{RunError}
use Rattle.rounds.specs.declared.RunError.TheVariants.{Refused, Denied}

-- Why a run stopped early. `Denied` is proved never to come.
abbrev pub run_error_number : RunError → ℕ
run_error_number (Refused why) = refusal_number why
run_error_number Denied = denied_number

abbrev pub RunAnswer : Type 0
RunAnswer = Result ⊤ RunError

abbrev pub run_answer_number : RunAnswer → ℕ
run_answer_number (Ok unit) = 0
run_answer_number (Err error) = run_error_number error
