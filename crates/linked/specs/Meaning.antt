-- Demand 2 for a desk that links the functions: gate's `MeansBy`, by the number that skaldrift_judge or skaldrift_gate answers and by what `report` holds
-- afterwards. It is said of a state's words; any other number of words is answered with 1. `linked_judge_means` and `linked_gate_means` prove it
-- (`proofs/Meaning.antt`).
use Rattle.std.specs.Prelude.{ℕ, ◌≡◌, List}
use Rattle.pieces.specs.AsyncSpec.{Write}
use Rattle.gate.specs.Judgement.{denied_number}
use Rattle.gate.specs.Meaning.{MeansBy}
use Rattle.boundary.specs.Lent.{Lent, desk_of}

abbrev pub MeansByNumber : (m : Lent) (sheet work : List ℕ) → Write → (number : ℕ) (work' : List ℕ) (report' : ℕ) → Type 0
MeansByNumber m sheet work w number work' report' =
    MeansBy (desk_of m) sheet work w (λ n. (number ≡ 0) × (report' ≡ n)) (λ k. (number ≡ denied_number) × (report' ≡ k)) work'
