-- Demand 3. Along a run the view is the replay of the history, and every image that a cut could leave obeys the sheet: a good opening begins so, and
-- every step keeps it. Assumes nothing.
use Prim.Native.Nat.{ℕ}
use native.Mathlib.Omega.{arith}
use mathlib.Core.Path.{◌≡◌, refl, sym, ap, subst, ◌∙◌}
use mathlib.Core.Bool.{true}
use mathlib.Core.List.{List}
use lib.Dec.{lit<}
use lib.ListN.{length}
use Rattle.std.specs.Prelude.{Ok}
use Rattle.region.specs.Limits.{writes_limit, log_limit}
use Rattle.region.specs.Answer.{Report, Answer, done}
use Rattle.pieces.specs.AsyncSpec.{AsyncView, flush_selective}
use Rattle.pieces.specs.Rows.{rows_right, rows_at}
use Rattle.cuts.specs.Packed.{AreBytes}
use Rattle.cuts.proofs.Tables.{tables_cover}
use Rattle.cuts.proofs.Always.{cut_could_leave_the_last_flush}
use Rattle.desk.specs.Desk.{Desk, chunk_size, chunks, view, settled_desk, opened_desk}
use Rattle.desk.proofs.Soundness.{Sound, facts_sound}
use Rattle.desk.proofs.Views.{view_of_settled, writes_counted}
use Rattle.writelog.specs.Cut.{kept_by_rows, Cuts}
use Rattle.writelog.proofs.CutLaws.{cut_good, cuts_done}
use Rattle.gate.specs.Opening.{Opens}
use Rattle.gate.specs.Meaning.{CouldBeLeft}
use Rattle.gate.proofs.Gives.{Holds, opens_means, opened_fresh, opened_holds}
use Rattle.session.specs.History.{History, opening, ◌then◌, cut_by, reopened, happen, settled, replay}
use Rattle.session.specs.Run.{Run, opened, ◌and◌, cut, restart, Throughout}
use Rattle.session.specs.Theorem.{Session}
use Rattle.session.proofs.Steps.{step_keeps}

-- every image that a cut could leave is left by the cut by some table of bytes
pub every_crash_is_a_cut : (d : Desk) → length d.state.records ≡ writes_limit → Sound d → (x : List ℕ) → CouldBeLeft d x
    → (table : List ℕ) × AreBytes table × Cuts d table (Ok (kept_by_rows d table 0)) (settled_desk d x)
every_crash_is_a_cut d sized s x c =
    let found = (tables_cover (chunk_size d) (view d) x).0 c in
    let table = found.0 in
    let counted = writes_counted d (omega (arith, sized, s.few)) in
    let right : rows_right (chunks d) d.state.count table ≡ true = subst (λ (n : ℕ). rows_right (chunks d) n table ≡ true) counted found.2 in
    let leaves = found.3 ∙ ap (λ (n : ℕ). flush_selective (chunk_size d) (view d) (rows_at (chunks d) n table 0)) counted in
    (table, found.1, cuts_done (cut_good d table (facts_sound _ d.state _ s) right) refl (ap (settled_desk d) leaves))

-- what holds along a run
pub record Invariant (sheet image : List ℕ) (h : History) (d : Desk) : Type 0 where
  pub holds : Holds d sheet
  pub replayed : view d ≡ replay (chunk_size d) image h

module _ (sheet image : List ℕ) where
  begins : {d d' : Desk} → d.image ≡ image → Opens d sheet done d' → Invariant sheet image opening d'
  unfolding replay
  begins {d} same p =
      record {
        holds = opened_holds p refl;
        replayed = ap view (opened_fresh p refl) ∙ view_of_settled (opened_desk d) d.image ∙ ap settled same;
      }

  pub invariant : {h : History} {d : Desk} → Run sheet image h d → Invariant sheet image h d
  unfolding replay
  invariant (opened same o) = begins same o
  invariant (◌and◌ {d = d} {e = e} r s) =
      let before = invariant r in
      let kept = step_keeps before.holds s in
      record { holds = kept.holds; replayed = kept.happened ∙ ap (λ (v : AsyncView). happen (chunk_size d) v e) before.replayed }

  -- a power loss leaves what a cut by some table leaves, so the run goes on with that cut
  module _ {h : History} {d : Desk} (r : Run sheet image h d) (x : List ℕ) (c : CouldBeLeft d x) where
    pub power_loss_cuts : (table : List ℕ) × AreBytes table × Cuts d table (Ok (kept_by_rows d table 0)) (settled_desk d x)
    power_loss_cuts = let i = invariant r in every_crash_is_a_cut d i.holds.sized i.holds.facts x c

    pub power_loss_is_a_cut : (table : List ℕ) × AreBytes table × Run sheet image (h then cut_by table 0) (settled_desk d x)
    power_loss_is_a_cut = let found = power_loss_cuts in (found.0, found.1, r and cut found.2)

  -- the theorem
  pub session : {h : History} {d : Desk} → Run sheet image h d → Session sheet image h d
  session r =
      let i = invariant r in
      record {
        cuts_obey = i.holds.all_obey;
        next_opening_done = λ found c l {answer} {d'} p. (opens_means p).1
            (record { short = omega (arith, c.1.same_length, i.holds.facts.short); buffer = l; obeyed = i.holds.all_obey found.image c });
        image_is_the_replay = ap (λ (v : AsyncView). v.state_at_last_flush) i.replayed;
        found_is_the_replay = λ x c.
            let lost = power_loss_cuts r x c in (
              lost.0,
              lost.1,
              sym (ap (λ (o : Report). o.number) lost.2.answers),
              ap (λ (v : AsyncView). v.state_at_last_flush) (invariant (r and cut lost.2)).replayed,
            );
        outstanding_are_the_replay = ap (λ (v : AsyncView). v.outstanding_writes) i.replayed;
      }

  -- and at every prefix
  pub session_throughout : {h : History} {d : Desk} (r : Run sheet image h d) → Throughout sheet (Session sheet image) r
  unfolding Throughout
  session_throughout (opened same o) = session (opened same o)
  session_throughout (r and s) = (session_throughout r, session (r and s))

  module _ {h : History} {d : Desk} (r : Run sheet image h d) (found : Desk) (buffer : length found.log ≡ log_limit) {answer : Answer} {d' : Desk}
      (p : Opens found sheet answer d') where
    -- the image as it lies there opens
    pub image_opens : found.image ≡ d.image → answer ≡ done
    image_opens same =
        (session r).next_opening_done found (rw same (cut_could_leave_the_last_flush (chunk_size d) (lit< tt) (view d))) buffer p

    module _ (c : CouldBeLeft d found.image) where
      reopens : Opens found sheet done d'
      reopens = subst (λ (a : Answer). Opens found sheet a d') ((session r).next_opening_done found c buffer p) p

      -- Over whatever a power loss leaves, the opening goes on with the history: a cut, and a reopening over other memory.
      pub power_loss_goes_on : (table : List ℕ) × AreBytes table × Run sheet image (h then cut_by table 0 then reopened) d'
      power_loss_goes_on = let lost = power_loss_is_a_cut r found.image c in (lost.0, lost.1, lost.2 and restart refl reopens)

      -- What `main_after_crash` of power_sound_t.rs assumes as `held_before_crash`: whatever image the power loss leaves of a session, the opening that
      -- follows it begins a session.
      pub held_before_crash : Run sheet found.image opening d'
      held_before_crash = opened refl reopens
