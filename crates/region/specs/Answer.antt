-- Document 01's number for each case of an answer ("When the desk says no"), and what a call reports beside it. Every promise goes by these.
use Rattle.std.specs.Prelude.{ℕ, zero, suc, Bool, cond, List, [], ◌∷◌, ⊤, Result, Ok, Err}
use Rattle.region.specs.declared.Refusal.{Refusal}
use Rattle.region.specs.declared.Refusal.TheVariants.{BadState, OutOfRange, TooManyWrites, TooManyBytes, BadSheet, BrokenImage, TooManyPoints, BadRows, BadTape, NotPredicted, TooManyRounds}

abbrev pub refusal_number : Refusal → ℕ
refusal_number BadState = 1
refusal_number OutOfRange = 2
refusal_number TooManyWrites = 3
refusal_number TooManyBytes = 4
refusal_number BadSheet = 5
refusal_number BrokenImage = 6
refusal_number TooManyPoints = 7
refusal_number BadRows = 9
refusal_number BadTape = 10
refusal_number NotPredicted = 11
refusal_number TooManyRounds = 12

-- The answer of a call that reports nothing but document 01's number.
abbrev pub Answer : Type 0
Answer = Result ⊤ Refusal

-- such an answer where it is done, whatever the refusals are
abbrev pub done : {E : Type 0} → Result ⊤ E
done = Ok tt

abbrev pub answer_number : Answer → ℕ
answer_number (Ok unit) = 0
answer_number (Err why) = refusal_number why

-- A number, and what the call reports with it: n, m or kept where document 01 reports one, and nothing otherwise.
pub record Report : Type 0 where
  pub number : ℕ
  pub values : List ℕ

-- The answer of a call that reports one number where it is done.
abbrev pub Counted : Type 0
Counted = Result ℕ Refusal

abbrev pub counted_report : Counted → Report
counted_report (Ok n) = record { number = 0; values = n ∷ [] }
counted_report (Err why) = record { number = refusal_number why; values = [] }

-- "The first that applies .. is given": a refusal's number unless its test is good, and then what comes after it
abbrev pub unless {ℓ} : {A : Type ℓ} → Bool → A → A → A
unless good refusal rest = cond good rest refusal

-- what goes by the number: the first where the call is done, the second on any refusal. A lent buffer or a state is changed, or what it was.
abbrev pub if_done {ℓ} : {A : Type ℓ} → ℕ → A → A → A
if_done zero after before = after
if_done (suc why) after before = before

-- a refusal's number, or what comes after it
abbrev pub or_else : (number rest : ℕ) → ℕ
or_else number rest = if_done number rest number
