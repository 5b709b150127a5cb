-- Assumes nothing.
use Rattle.std.proofs.Common.{◌≡◌, ◌+◌, ◌<◌, ℕ, List, [], true, false, ◌&&◌, leb, length, get_or, drop, sym, ap, ◌∙◌, arith, rules}
use native.Mathlib.Nat.{add-zero}
use mathlib.Core.Bool.{false≢true}
use lib.ListN.{drop_of_length-le}
use Rattle.std.specs.Prelude.{Ok, Err}
use Rattle.region.specs.Answer.{counted_report}
use Rattle.region.specs.declared.Refusal.TheVariants.{BadState}
use Rattle.region.proofs.Booleans.{and_when, and_unless}
use Rattle.records.specs.Record.{no_record}
use Rattle.records.specs.declared.Record.{Record}
use Rattle.desk.specs.State.{log_records, together, records_inside, check_report}
use Rattle.desk.specs.declared.state.State.{State}
use Rattle.desk.proofs.Soundness.{SoundFor, facts_sound, facts_unsound, check_sound, check_unsound}
use Rattle.desk.proofs.Records.{together_next, inside_next}
use Rattle.desk.proofs.state.State.checked.Goals as goal
use Rattle.desk.proofs.state.State.checked.Goals.{
  then-image-gt-IMAGE_LIMIT-via-then-image-gt-IMAGE_LIMIT,
  then-image-gt-IMAGE_LIMIT-via-else-image-gt-IMAGE_LIMIT+then-log-ne-LOG_LIMIT,
  then-image-gt-IMAGE_LIMIT-via-else-image-gt-IMAGE_LIMIT+else-log-ne-LOG_LIMIT+then-self-gt-WRITES_LIMIT,
  then-not-within-via-then-not-within,
  then-not-within-via-else-not-within+then-used-r,
}

-- the answer where one of the facts fails
unsound : (image : ℕ) (s : State) (log : ℕ) → (SoundFor image s log → ⊥) → counted_report (Err BadState) ≡ check_report image s log
unsound image s log n = sym (check_unsound image s log (facts_unsound image s log n))

pub returns-then-image-gt-IMAGE_LIMIT : goal.returns-then-image-gt-IMAGE_LIMIT
returns-then-image-gt-IMAGE_LIMIT c =
    let a = c.args in (
      unsound a.image a.self.now a.log (λ s.
          elim c.then-image-gt-IMAGE_LIMIT.branch [
            | then-image-gt-IMAGE_LIMIT-via-then-image-gt-IMAGE_LIMIT w ↦ omega (arith, s.short, w.if-image-gt-IMAGE_LIMIT)
            | then-image-gt-IMAGE_LIMIT-via-else-image-gt-IMAGE_LIMIT+then-log-ne-LOG_LIMIT w ↦ w.if-log-ne-LOG_LIMIT.true s.buffer
            | then-image-gt-IMAGE_LIMIT-via-else-image-gt-IMAGE_LIMIT+else-log-ne-LOG_LIMIT+then-self-gt-WRITES_LIMIT w ↦ omega (arith, s.few, w.if-self-gt-WRITES_LIMIT)
          ]),
      search rules,
    )

-- one record more: it is counted, and the log lies inside if it and those after it do
counted : (rs : List Record) (i used : ℕ) → i < length rs → used + together (drop i rs) ≡ together rs
    → used + ((get_or rs i no_record).len + together (drop (i + 1) rs)) ≡ together rs
counted rs i used more e = ap (λ (n : ℕ). used + n) (sym (together_next rs i more)) ∙ e

inside_here : (image : ℕ) (rs : List Record) (i : ℕ) → i < length rs → records_inside image rs ≡ records_inside image (drop i rs)
    → let r = get_or rs i no_record in records_inside image rs ≡ (leb (r.addr + r.len) image && records_inside image (drop (i + 1) rs))
inside_here image rs i more e = e ∙ inside_next rs i more image

pub returns-then-not-within : goal.returns-then-not-within
returns-then-not-within c =
    let a = c.args in
    let l = c.loop-r in
    let rs = c.outstanding-r-items.result.now in
    let all : rs ≡ log_records a.self.now = c.outstanding-r-items.ensures.records in (
      unsound a.image a.self.now a.log (λ s.
          elim c.then-not-within.branch [
            | then-not-within-via-then-not-within w ↦
                let bad : c.within.result ≡ false = cc in
                false≢true (sym (inside_here a.image rs l.r-index c.loop-r-test.true l.invariant.2 ∙ and_unless _ _ (sym c.within.ensures ∙ bad)) ∙ ap (records_inside a.image) all ∙ s.inside)
            | then-not-within-via-else-not-within+then-used-r w ↦
                omega (arith, counted rs l.r-index l.used c.loop-r-test.true l.invariant.1, ap together all, s.room, w.if-used-r)
          ]),
      search rules,
    )

pub loop-r-preserved : goal.loop-r-preserved
loop-r-preserved c =
    let a = c.args in
    let l = c.loop-r in
    let rs = c.outstanding-r-items.result.now in
    let good : c.within.result ≡ true = cc in (
      omega arith,
      omega (arith, counted rs l.r-index l.used c.loop-r-test.true l.invariant.1),
      inside_here a.image rs l.r-index c.loop-r-test.true l.invariant.2 ∙ and_when _ _ (sym c.within.ensures ∙ good),
    )

pub returns : goal.returns
unfolding together records_inside
returns c =
    let a = c.args in
    let l = c.loop-r in
    let rs = c.outstanding-r-items.result.now in
    let all : rs ≡ log_records a.self.now = c.outstanding-r-items.ensures.records in
    let none : drop l.r-index rs ≡ [] = drop_of_length-le rs (omega arith) in
    let used : l.used ≡ together (log_records a.self.now) =
    sym (add-zero l.used) ∙ ap (λ (left : List Record). l.used + together left) (sym none) ∙ l.invariant.1 ∙ ap together all in
    let s : SoundFor a.image a.self.now a.log = record {
      short = c.if-image-gt-IMAGE_LIMIT.false;
      buffer = omega arith;
      few = c.if-self-gt-WRITES_LIMIT.false;
      inside = sym (ap (records_inside a.image) all) ∙ l.invariant.2 ∙ ap (records_inside a.image) none;
      room = omega arith;
    } in (
      ap (λ (n : ℕ). counted_report (Ok n)) used ∙ sym (check_sound a.image a.self.now a.log (facts_sound a.image a.self.now a.log s)),
      search rules,
    )
