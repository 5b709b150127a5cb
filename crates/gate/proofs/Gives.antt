-- What a good opening and an admitted write give a session: a sound desk of the right size, the view that the original has, and that every image
-- which a cut could then leave obeys the sheet. Assumes nothing.
use Prim.Native.Nat.{ℕ}
use mathlib.Core.Path.{◌≡◌, refl, sym, ap, ◌∙◌}
use mathlib.Core.Logic.{◌↔◌}
use mathlib.Core.Bool.{true}
use mathlib.Core.List.{List}
use lib.ListN.{length}
use Rattle.std.specs.Prelude.{Err, Ok}
use Rattle.region.specs.Limits.{writes_limit}
use Rattle.region.specs.Answer.{answer_number, Answer, done}
use Rattle.region.specs.declared.Refusal.{Refusal}
use Rattle.region.proofs.AnswerLaws.{answers_by_number, changed, left, refusal_not_done}
use Rattle.pieces.specs.AsyncSpec.{Write, write, readable}
use Rattle.cuts.proofs.Always.{cut_of_nothing}
use Rattle.sheet.specs.Sheet.{allows}
use Rattle.desk.specs.State.{record_of}
use Rattle.desk.specs.Desk.{Desk, chunk_size, view, with_write, settled_desk, opened_desk, room_for}
use Rattle.desk.proofs.Soundness.{Sound, sound_facts, Room}
use Rattle.desk.proofs.Views.{view_of_recorded, sound_after_recorded, sized_of_appended, view_of_settled, sound_after_settled}
use Rattle.gate.specs.declared.Verdict.TheVariants.{Admitted}
use Rattle.gate.specs.Opening.{Opens}
use Rattle.gate.specs.Judgement.{Judges, Gates, Judged}
use Rattle.gate.specs.Meaning.{Fits, Openable, CouldBeLeft, CouldLeave}
use Rattle.gate.proofs.OpeningLaws.{opens_exactly_if}
use Rattle.gate.proofs.JudgementLaws.{fits_room, admitted_number, not_admitted_number, refused_work}
use Rattle.gate.proofs.Meaning.{judge_means}

-- what a session keeps: the desk is one that every call accepts, and every image that a cut could leave obeys the sheet
pub record Holds (d : Desk) (sheet : List ℕ) : Type 0 where
  pub sized : length d.state.records ≡ writes_limit
  pub facts : Sound d
  pub all_obey : (x : List ℕ) → CouldBeLeft d x → allows sheet x ≡ true

-- an empty log over an image that obeys
pub empty_holds : (d : Desk) (image : List ℕ) {sheet : List ℕ} → length d.state.records ≡ writes_limit
    → Openable (settled_desk d image) sheet → Holds (settled_desk d image) sheet
empty_holds d image {sheet} sized o =
    record {
      sized = sized;
      facts = sound_after_settled d image o.short o.buffer;
      all_obey = λ x h. ap (allows sheet) ((cut_of_nothing (chunk_size d) image x).0 (rw (view_of_settled d image) at h)) ∙ o.obeyed;
    }

-- opening answers 0 exactly if the image is openable, whatever the state
module _ {d : Desk} {sheet : List ℕ} {answer : Answer} {d' : Desk} (p : Opens d sheet answer d') where
  pub opens_means : (answer ≡ done) ↔ Openable d sheet
  opens_means = (
    λ e. (opens_exactly_if d sheet).0 (sym p.answers ∙ ap answer_number e),
    λ o. answers_by_number answer done (p.answers ∙ (opens_exactly_if d sheet).1 o),
  )

  pub opened_fresh : answer ≡ done → d' ≡ opened_desk d
  opened_fresh e = changed d p.leaves (sym p.answers ∙ ap answer_number e)

  pub opened_holds : answer ≡ done → Holds d' sheet
  opened_holds e =
      let o = opens_means.0 e in
      rw (opened_fresh e) (empty_holds (opened_desk d) d.image refl (record { short = o.short; buffer = o.buffer; obeyed = o.obeyed }))

module _ {d : Desk} {sheet work : List ℕ} {w : Write} where
  -- Once an admitted write is recorded, by whichever call, the log has it at its end and every image that a cut could leave obeys.
  recorded_holds : length d.state.records ≡ writes_limit → Fits d sheet work w → ((x : List ℕ) → CouldLeave d w x → allows sheet x ≡ true)
      → (view (with_write d w) ≡ write (view d) w) × Holds (with_write d w) sheet
  recorded_holds sized f all =
      let facts = sound_facts _ d.state _ f.good in
      let room : Room (length d.image) d.state (record_of w) = record { lies = f.lies; few = f.few_writes; fits = f.few_bytes } in
      let seen = view_of_recorded d w sized facts room in (
        seen,
        record {
          sized = sized_of_appended d.state (record_of w) sized;
          facts = sound_after_recorded d w sized facts room;
          all_obey = λ x h. all x (rw seen at h);
        },
      )

  -- an admitted judging call: there is room for the write, which another call may record at that same desk
  pub judged_holds : {answer : Judged} {work' : List ℕ} → length d.state.records ≡ writes_limit → Judges d sheet work w answer work'
      → {n : ℕ} → answer ≡ Ok (Admitted n)
      → (room_for d w ≡ 0) × (view (with_write d w) ≡ write (view d) w) × Holds (with_write d w) sheet
  judged_holds sized j {n} a =
      let means = (judge_means j).admits.0 (n, a) in
      let held = recorded_holds sized means.0 means.1 in
      (fits_room means.0, held.0, held.1)

  module _ {answer : Judged} {d' : Desk} {work' : List ℕ} (g : Gates d sheet work w answer d' work') where
    -- an admitted write by the gate
    pub gated_holds : length d.state.records ≡ writes_limit → {n : ℕ} → answer ≡ Ok (Admitted n)
        → (view d' ≡ write (view d) w) × Holds d' sheet × (work' ≡ readable (view d'))
    gated_holds sized {n} a =
        let held = judged_holds sized g.judges a in
        let put : d' ≡ with_write d w = changed d g.leaves (admitted_number g.judges a) in
        let seen : view d' ≡ write (view d) w = ap view put ∙ held.1 in
        (seen, rw put held.2, ((judge_means g.judges).admitted_leaves n a).1 ∙ ap readable (sym seen))

    -- a refusal leaves all as it was
    pub gate_refused_left : {why : Refusal} → answer ≡ Err why → (d' ≡ d) × (work' ≡ work)
    gate_refused_left {why} e =
        let some = not_admitted_number g.judges (rw e (refusal_not_done why)) in
        (left (with_write d w) g.leaves some refl, refused_work g.judges e)
