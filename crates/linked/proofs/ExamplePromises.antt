-- What skaldrift_setup and skaldrift_run promise, the example's own calls promise: there is an answer with that number, and the same bytes are left. Assumes nothing.
use Prim.Native.Nat.{ℕ}
use mathlib.Core.Path.{◌≡◌, sym, ◌∙◌}
use mathlib.Core.List.{List}
use Rattle.region.specs.Answer.{answer_number, Answer}
use Rattle.example.specs.Setup.{SetsUp}
use Rattle.rounds.specs.Answer.{run_answer_number, RunAnswer}
use Rattle.example.specs.Run.{Runs}
use Rattle.boundary.specs.Example.{SkaldriftSetup, SkaldriftRun}
use Rattle.linked.proofs.Numbers.{setup_answers, run_answers}

pub linked_setup : {image : List ℕ} {addr val0 number : ℕ} {image' : List ℕ}
    → SkaldriftSetup image addr val0 number image'
    → (answer : Answer) × (answer_number answer ≡ number) × SetsUp image addr val0 answer image'
linked_setup {image} {addr} p =
    let (answer, same) = setup_answers image addr in
    (answer, same ∙ sym p.answers, record { answers = same; image_after = p.image_after })

pub linked_run : {image log work : List ℕ} {addr val0 val1 rounds number : ℕ} {image' log' work' : List ℕ}
    → SkaldriftRun image log work addr val0 val1 rounds number image' log' work'
    → (answer : RunAnswer) × (run_answer_number answer ≡ number) × Runs image log work addr val0 val1 rounds answer image' log' work'
linked_run {image} {log} {work} {addr} {val0} {val1} {rounds} p =
    let (answer, same) = run_answers image log work addr val0 val1 rounds in
    (answer, same ∙ sym p.answers, record { answers = same; image_after = p.image_after; log_after = p.log_after; work_after = p.work_after })
