-- The promises, a law for each way that the judging and the gate return. The images are tried exactly if the write fits, and what a report tells of that.
-- Assumes nothing.
use Prim.Native.Nat.{ℕ, zero, suc, ◌≤◌, ◌<◌}
use native.Mathlib.Nat.{suc-ne-zero}
use native.Mathlib.Omega.{arith}
use mathlib.Core.Path.{◌≡◌, refl, sym, ap, ◌∙◌}
use mathlib.Core.Logic.{◌↔◌}
use mathlib.Core.Bool.{true, false, ◌&&◌, and-false}
use mathlib.Core.List.{List, [], ◌∷◌}
use lib.Dec.{leb, eqb}
use lib.ListN.{length}
use borrow.Author.Tests.{le-leb, lt-leb, leb-true, eq-eqb, ne_eqb, eqb-true}
use Rattle.std.specs.Prelude.{Option, Err, Ok, None, Some}
use Rattle.region.specs.Limits.{points_limit}
use Rattle.region.specs.Answer.{Report, unless, refusal_number, if_done, or_else}
use Rattle.region.specs.declared.Refusal.{Refusal}
use Rattle.region.specs.declared.Refusal.TheVariants.{BadState, BadSheet, TooManyPoints}
use Rattle.region.proofs.AnswerLaws.{passed, done_changed, refused_left, left, not_done, refusal_not_done, go_on, stop, both_none}
use Rattle.region.proofs.Booleans.{cond_when, cond_unless, both}
use Rattle.cuts.specs.Search as search
use Rattle.sheet.specs.Sheet.{well_formed}
use Rattle.pieces.specs.AsyncSpec.{Write}
use Rattle.desk.specs.State.{record_of}
use Rattle.desk.specs.Desk.{Desk, sound, room_for, with_write}
use Rattle.desk.proofs.RoomLaws.{room_done, room_there}
use Rattle.engine.specs.Search.{searched, sheet_finding, sheet_image, Searches}
use Rattle.gate.specs.declared.Verdict.TheVariants.{Admitted, Denied}
use Rattle.gate.specs.Meaning.{Fits}
use Rattle.gate.specs.Judgement.{denied_number, verdict_report, finding_report, gate_points, judge_refusal, judge_report, judge_number, Judged}
use Rattle.gate.specs.Judgement.{Judges, Gates, Fitting, Weighs}

-- two reports that are the same
pub same_number : {r s : Report} → r ≡ s → r.number ≡ s.number
same_number e = ap (λ (r : Report). r.number) e

pub same_values : {r s : Report} → r ≡ s → r.values ≡ s.values
same_values e = ap (λ (r : Report). r.values) e

-- a report of a value is none of nothing, and tells the value
pub nothing_reported : {m : ℕ} → [] ≡ m ∷ [] → ⊥
nothing_reported e = suc-ne-zero 0 (sym (ap length e))

pub one_value : {m n : ℕ} → ◌≡◌ {A = List ℕ} (m ∷ []) (n ∷ []) → m ≡ n
one_value e = cc

-- what a finding's report tells
admit_reported : (n : ℕ) (r : search.Finding) → (finding_report n r).number ≡ 0 → r ≡ search.none_bad
admit_reported n search.none_bad e = refl
admit_reported n (search.first_bad m) e = absurd (suc-ne-zero 7 e)

deny_reported : (n m : ℕ) (r : search.Finding) → finding_report n r ≡ record { number = denied_number; values = m ∷ [] } → r ≡ search.first_bad m
deny_reported n m search.none_bad e = absurd (suc-ne-zero 7 (sym (same_number e)))
deny_reported n m (search.first_bad k) e = ap search.first_bad (one_value (same_values e))

-- the report by a refusal's number, or of the finding where it is 0: what it tells of the number
abbrev pub by_refusal : (k : ℕ) → Report → Report
by_refusal k r = if_done k r (record { number = k; values = [] })

number_0_tried : (k : ℕ) (r : Report) → (by_refusal k r).number ≡ 0 → (k ≡ 0) × (r.number ≡ 0)
number_0_tried zero r e = (refl, e)
number_0_tried (suc why) r e = absurd (suc-ne-zero why e)

value_tried : (k : ℕ) (r : Report) {n m : ℕ} → by_refusal k r ≡ record { number = n; values = m ∷ [] }
    → (k ≡ 0) × (r ≡ record { number = n; values = m ∷ [] })
value_tried zero r e = (refl, e)
value_tried (suc why) r e = absurd (nothing_reported (same_values e))

no_value_refused : (k n : ℕ) (r : search.Finding) → [] ≡ (by_refusal k (finding_report n r)).values → 0 < k
no_value_refused zero n search.none_bad e = absurd (nothing_reported e)
no_value_refused zero n (search.first_bad m) e = absurd (nothing_reported e)
no_value_refused (suc why) n r e = omega arith

pub refusal_reported : (why : Refusal) (r : Report) {k : ℕ} → k ≡ refusal_number why → verdict_report (Err why) ≡ by_refusal k r
refusal_reported why r some = ap (λ (k : ℕ). record { number = k; values = [] }) (sym some) ∙ refused_left why r some

-- the test of 7
abbrev by_points : Desk → Write → ℕ
by_points d w = unless (leb (gate_points d w) points_limit) 7 0

module _ (d : Desk) (sheet work : List ℕ) (w : Write) where
  -- the tests before 2 that were passed
  module _ (good : sound d ≡ true) (same : length work ≡ length d.image) (formed : well_formed sheet ≡ true) where
    from_room : {k : ℕ} → or_else (room_for d w) (by_points d w) ≡ k → judge_refusal d sheet work w ≡ k
    unfolding judge_refusal
    from_room e = rw (good, eq-eqb (length work) (length d.image) same, formed) e

    many_refused : room_for d w ≡ 0 → points_limit < gate_points d w → judge_refusal d sheet work w ≡ 7
    many_refused none h = from_room (go_on none ∙ cond_unless (leb (gate_points d w) points_limit) 0 7 (lt-leb (gate_points d w) points_limit h))

    few_tried : room_for d w ≡ 0 → gate_points d w ≤ points_limit → judge_refusal d sheet work w ≡ 0
    few_tried none h = from_room (go_on none ∙ cond_when (leb (gate_points d w) points_limit) 0 7 (le-leb (gate_points d w) points_limit h))

-- the promises, return by return
module _ {d : Desk} {sheet work : List ℕ} {w : Write} where
  judges_refused : (why : Refusal) → judge_refusal d sheet work w ≡ refusal_number why → Judges d sheet work w (Err why) work
  judges_refused why e = record { answers = refusal_reported why _ e; fills = refused_left why _ e }

  pub judges_tried : judge_refusal d sheet work w ≡ 0 → {r : search.Finding} {answer : Judged} {work' : List ℕ} → r ≡ sheet_finding d w sheet
      → verdict_report answer ≡ finding_report (gate_points d w) r → work' ≡ sheet_image d w (sheet_finding d w sheet) → Judges d sheet work w answer work'
  judges_tried none e a f = record { answers = a ∙ ap (finding_report (gate_points d w)) e ∙ done_changed _ none; fills = f ∙ done_changed work none }

  pub judges_unsound : sound d ≡ false → Judges d sheet work w (Err BadState) work
  unfolding judge_refusal
  judges_unsound e = judges_refused BadState (rw e)

  pub judges_other_length : (length work ≡ length d.image → ⊥) → Judges d sheet work w (Err BadState) work
  unfolding judge_refusal
  judges_other_length n = judges_refused BadState (rw (ne_eqb (length work) (length d.image) n, and-false))

  module _ (good : sound d ≡ true) (same : length work ≡ length d.image) where
    pub judges_malformed : well_formed sheet ≡ false → Judges d sheet work w (Err BadSheet) work
    unfolding judge_refusal
    judges_malformed e = judges_refused BadSheet (rw (good, eq-eqb (length work) (length d.image) same, e))

    pub judges_no_room : well_formed sheet ≡ true → (why : Refusal) → room_for d w ≡ refusal_number why → Judges d sheet work w (Err why) work
    judges_no_room formed why e = judges_refused why (from_room d sheet work w good same formed (stop why _ e))

  module _ (f : Fitting d (length work) w) where
    pub weighs_many : points_limit < gate_points d w → Weighs d sheet work w (Err TooManyPoints) work
    weighs_many h = record { judges = λ formed room. judges_refused TooManyPoints (many_refused d sheet work w f.good f.same formed room h) }

    module _ (few : gate_points d w ≤ points_limit) {outcome : Option ℕ} {work' : List ℕ} (s : Searches d w sheet outcome work') where
      weighs_searched : (answer : Judged) → verdict_report answer ≡ finding_report (gate_points d w) (searched outcome) → Weighs d sheet work w answer work'
      weighs_searched answer e =
          record { judges = λ formed room. judges_tried (few_tried d sheet work w f.good f.same formed room few) s.answers e s.fills }

      pub weighs_admitted : {n : ℕ} → outcome ≡ None → n ≡ gate_points d w → Weighs d sheet work w (Ok (Admitted n)) work'
      weighs_admitted {n} o e = weighs_searched (Ok (Admitted n)) (rw (o, e))

      pub weighs_denied : {m : ℕ} → outcome ≡ Some m → Weighs d sheet work w (Ok (Denied m)) work'
      weighs_denied {m} o = weighs_searched (Ok (Denied m)) (rw o)

pub fits_room : {d : Desk} {sheet work : List ℕ} {w : Write} → Fits d sheet work w → room_for d w ≡ 0
fits_room {d} {w = w} f = room_there (length d.image) d.state (record_of w) (le-leb _ _ f.lies) f.few_writes f.few_bytes

module _ (d : Desk) (sheet work : List ℕ) (w : Write) where
  tried_fits : judge_refusal d sheet work w ≡ 0 → Fits d sheet work w
  unfolding judge_refusal
  tried_fits e =
      let t₁ = passed {good = sound d && eqb (length work) (length d.image)} 0 e in
      let t₂ = passed {good = well_formed sheet} 4 {rest = or_else (room_for d w) (by_points d w)} t₁.1 in
      let t₃ = both_none {n = room_for d w} {rest = by_points d w} t₂.1 in
      let t₄ = passed {good = leb (gate_points d w) points_limit} 6 {rest = 0} t₃.1 in
      let first = both _ _ t₁.0 in
      let room = room_done (length d.image) d.state (record_of w) t₃.0 in
      record {
        good = first.0;
        same = eqb-true (length work) (length d.image) first.1;
        formed = t₂.0;
        lies = room.lies;
        few_writes = room.few;
        few_bytes = room.fits;
        few_points = leb-true (gate_points d w) points_limit t₄.0;
      }

  -- the images are tried exactly if the write fits
  pub tried_exactly_if : (judge_refusal d sheet work w ≡ 0) ↔ Fits d sheet work w
  tried_exactly_if = (tried_fits, λ f. few_tried d sheet work w f.good f.same f.formed (fits_room f) f.few_points)

  abbrev found : Report
  found = finding_report (gate_points d w) (sheet_finding d w sheet)

  -- number 0: the write fits and is admitted
  pub number_0_fits : judge_number d sheet work w ≡ 0 → Fits d sheet work w × (sheet_finding d w sheet ≡ search.none_bad)
  number_0_fits none =
      let t = number_0_tried (judge_refusal d sheet work w) found none in
      (tried_fits t.0, admit_reported (gate_points d w) (sheet_finding d w sheet) t.1)

  -- number 8 with m: it fits, and m is the first bad number
  report_8_fits : (m : ℕ) → judge_report d sheet work w ≡ record { number = denied_number; values = m ∷ [] }
      → Fits d sheet work w × (sheet_finding d w sheet ≡ search.first_bad m)
  report_8_fits m e =
      let t = value_tried (judge_refusal d sheet work w) found e in
      (tried_fits t.0, deny_reported (gate_points d w) m (sheet_finding d w sheet) t.1)

-- what is done with a judged write
module _ {d : Desk} {sheet work : List ℕ} {w : Write} {answer : Judged} {work' : List ℕ} (j : Judges d sheet work w answer work') where
  pub admitted_number : {n : ℕ} → answer ≡ Ok (Admitted n) → judge_number d sheet work w ≡ 0
  admitted_number a = sym (same_number j.answers) ∙ ap (λ (v : Judged). (verdict_report v).number) a

  pub not_admitted_number : 0 < (verdict_report answer).number → 0 < judge_number d sheet work w
  not_admitted_number h = rw (same_number j.answers) at h

  pub admitted_fits : {n : ℕ} → answer ≡ Ok (Admitted n) → Fits d sheet work w × (sheet_finding d w sheet ≡ search.none_bad)
  admitted_fits a = number_0_fits d sheet work w (admitted_number a)

  pub denied_fits : {m : ℕ} → answer ≡ Ok (Denied m) → Fits d sheet work w × (sheet_finding d w sheet ≡ search.first_bad m)
  denied_fits {m} e = report_8_fits d sheet work w m (sym j.answers ∙ ap verdict_report e)

  -- a refusal judged nothing
  pub refused_work : {why : Refusal} → answer ≡ Err why → work' ≡ work
  refused_work e =
      let nothing = same_values (sym (ap verdict_report e) ∙ j.answers) in
      let some = no_value_refused (judge_refusal d sheet work w) (gate_points d w) (sheet_finding d w sheet) nothing in
      left (sheet_image d w (sheet_finding d w sheet)) j.fills some refl

  pub gates_admitted : {n : ℕ} → answer ≡ Ok (Admitted n) → {d' : Desk} → d' ≡ with_write d w → Gates d sheet work w answer d' work'
  gates_admitted a e = record { judges = j; leaves = e ∙ done_changed d (admitted_number a) }

  gates_left : 0 < (verdict_report answer).number → Gates d sheet work w answer d work'
  gates_left h = record { judges = j; leaves = sym (not_done _ (with_write d w) d (not_admitted_number h)) }

  pub gates_denied : {m : ℕ} → answer ≡ Ok (Denied m) → Gates d sheet work w answer d work'
  gates_denied e = gates_left (rw e (omega arith))

  pub gates_refused : {why : Refusal} → answer ≡ Err why → Gates d sheet work w answer d work'
  gates_refused {why} e = gates_left (rw e (refusal_not_done why))
