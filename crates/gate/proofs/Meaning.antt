-- Demand 2: what the gate's answer means, for every outcome that its promise allows. Assumes nothing.
use Prim.Native.Nat.{ℕ}
use native.Mathlib.Nat.{suc-ne-zero}
use mathlib.Core.Path.{◌≡◌, refl, sym, ap, subst, fun_ext, ◌∙◌}
use mathlib.Core.Logic.{◌↔◌}
use mathlib.Core.Bool.{true}
use mathlib.Core.List.{List}
use lib.Dec.{lit<}
use Rattle.std.specs.Prelude.{Err, Ok}
use Rattle.region.specs.Answer.{refusal_number}
use Rattle.region.specs.declared.Refusal.{Refusal}
use Rattle.region.proofs.AnswerLaws.{refusals_by_number, refusal_not_8, changed}
use Rattle.pieces.specs.AsyncSpec.{Write, write, readable}
use Rattle.cuts.specs.Search as search
use Rattle.cuts.specs.Covering.{Test, after_alone}
use Rattle.cuts.specs.Gate.{gate_finding, JudgesImages}
use Rattle.cuts.proofs.Gate.{gate_judges_images}
use Rattle.sheet.specs.Sheet.{obeys, allows}
use Rattle.sheet.proofs.Laws.{before_unseen}
use Rattle.desk.specs.Desk.{Desk, chunk_size, view, with_write}
use Rattle.engine.specs.Search.{sheet_finding, sheet_image}
use Rattle.gate.specs.declared.Verdict.TheVariants.{Admitted, Denied}
use Rattle.gate.specs.Judgement.{denied_number, verdict_report, finding_report, gate_points, judge_refusal, Judges, Gates, Judged}
use Rattle.gate.specs.Meaning.{Fits, MeansBy, Means, CouldLeave}
use Rattle.gate.proofs.JudgementLaws.{same_number, same_values, nothing_reported, one_value, tried_exactly_if, judges_tried}
use Rattle.gate.proofs.JudgementLaws.{admitted_fits, denied_fits, gates_admitted}

-- 8 is a denial alone
pub denial_is_no_refusal : (why : Refusal) → refusal_number why ≡ denied_number → ⊥
denial_is_no_refusal = refusal_not_8

-- the numbers and values of document 01 tell the verdicts apart
pub verdicts_by_report : (a b : Judged) → verdict_report a ≡ verdict_report b → a ≡ b
verdicts_by_report (Ok (Admitted n)) (Ok (Admitted k)) e = ap (λ (k : ℕ). Ok (Admitted k)) (one_value (same_values e))
verdicts_by_report (Ok (Admitted n)) (Ok (Denied m)) e = absurd (suc-ne-zero 7 (sym (same_number e)))
verdicts_by_report (Ok (Admitted n)) (Err why) e = absurd (nothing_reported (sym (same_values e)))
verdicts_by_report (Ok (Denied m)) (Ok (Admitted n)) e = absurd (suc-ne-zero 7 (same_number e))
verdicts_by_report (Ok (Denied m)) (Ok (Denied k)) e = ap (λ (m : ℕ). Ok (Denied m)) (one_value (same_values e))
verdicts_by_report (Ok (Denied m)) (Err why) e = absurd (nothing_reported (sym (same_values e)))
verdicts_by_report (Err why) (Ok (Admitted n)) e = absurd (nothing_reported (same_values e))
verdicts_by_report (Err why) (Ok (Denied m)) e = absurd (nothing_reported (same_values e))
verdicts_by_report (Err why) (Err reason) e = ap Err (refusals_by_number why reason (same_number e))

-- the rule of a sheet looks at the image after alone
rule_alone : (sheet : List ℕ) → ◌≡◌ {A = Test} (λ before after. obeys sheet before after) (after_alone (allows sheet))
rule_alone sheet = fun_ext (λ before. fun_ext (λ after. before_unseen sheet before after after))

-- two predicates that are equivalent have members alike
some_same : {A B : ℕ → Type 0} → ((n : ℕ) → A n ↔ B n) → ((n : ℕ) × A n) ↔ ((n : ℕ) × B n)
some_same same = (λ a. (a.0, (same a.0).0 a.1), λ b. (b.0, (same b.0).1 b.1))

-- what the engine's finding means
judged : (d : Desk) (sheet : List ℕ) (w : Write) → JudgesImages (chunk_size d) (allows sheet) (view d) w (sheet_finding d w sheet)
judged d sheet w =
    subst (λ (rule : Test). JudgesImages (chunk_size d) (allows sheet) (view d) w (gate_finding (chunk_size d) rule (view d) w)) (sym (rule_alone sheet))
    (gate_judges_images (chunk_size d) (lit< tt) (view d) w (allows sheet))

module _ {d : Desk} {sheet work : List ℕ} {w : Write} where
  module _ {answer : Judged} {work' : List ℕ} (p : Judges d sheet work w answer work') where
    -- what a write that fits gets, by the engine's finding
    module _ (f : Fits d sheet work w) {r : search.Finding} (e : sheet_finding d w sheet ≡ r) where
      none : judge_refusal d sheet work w ≡ 0
      none = (tried_exactly_if d sheet work w).1 f

      answered : (a : Judged) → verdict_report a ≡ finding_report (gate_points d w) r → answer ≡ a
      answered a report = verdicts_by_report answer a (changed _ p.answers none ∙ ap (finding_report (gate_points d w)) e ∙ sym report)

      filled : work' ≡ sheet_image d w r
      filled = changed work p.fills none ∙ ap (sheet_image d w) e

    admitted_so : Fits d sheet work w → sheet_finding d w sheet ≡ search.none_bad → answer ≡ Ok (Admitted (gate_points d w))
    admitted_so f e = answered f e (Ok (Admitted (gate_points d w))) refl

    denied_so : (m : ℕ) → Fits d sheet work w → sheet_finding d w sheet ≡ search.first_bad m → answer ≡ Ok (Denied m)
    denied_so m f e = answered f e (Ok (Denied m)) refl

    -- the theorem of the gate
    pub judge_means : Means d sheet work w answer work'
    judge_means =
        let finds = judged d sheet w in
        record {
          admits = (
            λ a. let f = admitted_fits p a.1 in (f.0, finds.admits.0 f.1),
            λ f. (gate_points d w, admitted_so f.0 (finds.admits.1 f.1)),
          );
          by_part_writes = (
            λ a. let f = admitted_fits p a.1 in (f.0, finds.by_part_writes.0 f.1),
            λ f. (gate_points d w, admitted_so f.0 (finds.by_part_writes.1 f.1)),
          );
          denies = (
            λ a. let f = denied_fits p a.1 in (f.0, finds.denies.0 (a.0, f.1)),
            λ f. let bad = finds.denies.1 f.1 in (bad.0, denied_so bad.0 f.0 bad.1),
          );
          names_the_first = λ m. (
            λ a. let f = denied_fits p a in (f.0, (finds.names_the_first m).0 f.1),
            λ f. denied_so m f.0 ((finds.names_the_first m).1 f.1),
          );
          admitted_leaves = λ n a. let f = admitted_fits p a in (
            one_value (same_values (ap verdict_report (sym a ∙ admitted_so f.0 f.1))),
            filled f.0 f.1,
          );
          denied_leaves = λ m a. let f = denied_fits p a in filled f.0 f.1;
        }

  pub gate_means : {answer : Judged} {d' : Desk} {work' : List ℕ} → Gates d sheet work w answer d' work' → Means d sheet work w answer work'
  gate_means g = judge_means g.judges

  -- what it is to be admitted or denied may be said otherwise, as by a number and what is reported with it
  pub means_by_same : {A A' B B' : ℕ → Type 0} {work' : List ℕ} → ((n : ℕ) → A n ↔ A' n) → ((m : ℕ) → B m ↔ B' m)
      → MeansBy d sheet work w A B work' → MeansBy d sheet work w A' B' work'
  means_by_same {A} {A'} {B} {B'} admitted denied means =
      let some_A : ((n : ℕ) × A n) ↔ ((n : ℕ) × A' n) = some_same admitted in
      let some_B : ((m : ℕ) × B m) ↔ ((m : ℕ) × B' m) = some_same denied in
      record {
        admits = (λ a. means.admits.0 (some_A.1 a), λ f. some_A.0 (means.admits.1 f));
        by_part_writes = (λ a. means.by_part_writes.0 (some_A.1 a), λ f. some_A.0 (means.by_part_writes.1 f));
        denies = (λ a. means.denies.0 (some_B.1 a), λ f. some_B.0 (means.denies.1 f));
        names_the_first = λ m. (λ a. (means.names_the_first m).0 ((denied m).1 a), λ f. (denied m).0 ((means.names_the_first m).1 f));
        admitted_leaves = λ n a. means.admitted_leaves n ((admitted n).1 a);
        denied_leaves = λ m a. means.denied_leaves m ((denied m).1 a);
      }

  -- The promise can be kept: a write that fits, and of which a cut could leave only images that obey, has the outcome that admits it.
  pub admitting : Fits d sheet work w → ((x : List ℕ) → CouldLeave d w x → allows sheet x ≡ true)
      → Gates d sheet work w (Ok (Admitted (gate_points d w))) (with_write d w) (readable (write (view d) w))
  admitting f all =
      let good : search.none_bad ≡ sheet_finding d w sheet = sym ((judged d sheet w).admits.1 all) in
      gates_admitted (judges_tried ((tried_exactly_if d sheet work w).1 f) good refl (ap (sheet_image d w) good)) refl refl
