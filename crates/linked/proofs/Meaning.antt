-- Demand 2 of the linked functions: what the number and the report of skaldrift_judge and skaldrift_gate mean, and what number 0 of skaldrift_open does. Assumes nothing.
use Prim.Native.Nat.{ℕ}
use native.Mathlib.Nat.{suc-ne-zero}
use mathlib.Core.Path.{◌≡◌, refl, sym, ap, ◌∙◌}
use mathlib.Core.Logic.{◌↔◌}
use mathlib.Core.List.{List}
use Rattle.std.specs.Prelude.{Err, Ok}
use Rattle.region.specs.Answer.{answer_number}
use Rattle.pieces.specs.AsyncSpec.{Write}
use Rattle.gate.specs.Judgement.{denied_number, verdict_report, Judged}
use Rattle.gate.specs.Meaning.{Openable}
use Rattle.gate.specs.declared.Verdict.TheVariants.{Admitted, Denied}
use Rattle.gate.proofs.Gives.{opens_means}
use Rattle.gate.proofs.Meaning.{denial_is_no_refusal, judge_means, means_by_same}
use Rattle.boundary.specs.Words.{reported}
use Rattle.boundary.specs.Lent.{Lent, desk_of, plainly}
use Rattle.boundary.specs.Gate.{SkaldriftOpen, SkaldriftJudge, SkaldriftGate}
use Rattle.boundary.proofs.CallLaws.{StateSized}
use Rattle.linked.specs.Meaning.{MeansByNumber}
use Rattle.linked.proofs.Promises.{linked_open, linked_judge}
use Rattle.linked.proofs.Runs.{done_of, admitted_of}

denied_of : (v : Judged) → (verdict_report v).number ≡ denied_number → (m : ℕ) × (v ≡ Ok (Denied m))
denied_of (Ok (Admitted n)) same = absurd (suc-ne-zero 7 (sym same))
denied_of (Ok (Denied m)) same = (m, refl)
denied_of (Err why) same = absurd (denial_is_no_refusal why same)

-- a verdict is admitted, or denied, exactly if its number says so and its report holds the value
module _ (v : Judged) (report : ℕ) {number report' : ℕ} (same : (verdict_report v).number ≡ number) (told : reported (verdict_report v) report ≡ report') where
  number_of : {v' : Judged} → v ≡ v' → number ≡ (verdict_report v').number
  number_of is = sym same ∙ ap (λ (v : Judged). (verdict_report v).number) is

  report_of : {v' : Judged} → v ≡ v' → report' ≡ reported (verdict_report v') report
  report_of is = sym told ∙ ap (λ (v : Judged). reported (verdict_report v) report) is

  admitted : (n : ℕ) → (v ≡ Ok (Admitted n)) ↔ ((number ≡ 0) × (report' ≡ n))
  admitted n = (
    λ is. (number_of is, report_of is),
    λ (none, value). let (k, is) = admitted_of v (same ∙ none) in is ∙ ap (λ (k : ℕ). Ok (Admitted k)) (sym (report_of is) ∙ value),
  )

  denied : (m : ℕ) → (v ≡ Ok (Denied m)) ↔ ((number ≡ denied_number) × (report' ≡ m))
  denied m = (
    λ is. (number_of is, report_of is),
    λ (eight, value). let (k, is) = denied_of v (same ∙ eight) in is ∙ ap (λ (k : ℕ). Ok (Denied k)) (sym (report_of is) ∙ value),
  )

module _ {m : Lent} (sized : StateSized plainly m) {sheet work : List ℕ} {w : Write} {report number : ℕ} {work' : List ℕ} {report' : ℕ} where
  pub linked_judge_means : SkaldriftJudge m sheet work w report number work' report' → MeansByNumber m sheet work w number work' report'
  linked_judge_means p =
      let (v, same, told, j) = linked_judge sized p in
      means_by_same (admitted v report same told) (denied v report same told) (judge_means j)

  pub linked_gate_means : {m' : Lent} → SkaldriftGate m sheet work w report number m' work' report' → MeansByNumber m sheet work w number work' report'
  linked_gate_means p = linked_judge_means p.judges

-- a good opening
pub linked_open_means : {m : Lent} → StateSized plainly m → {sheet : List ℕ} {number : ℕ} {m' : Lent} → SkaldriftOpen m sheet number m'
    → (number ≡ 0) ↔ Openable (desk_of m) sheet
linked_open_means sized p =
    let (a, same, o) = linked_open sized p in
    let means = opens_means o in
    (λ none. means.0 (done_of a (same ∙ none)), λ good. sym same ∙ ap answer_number (means.1 good))
