-- What a step keeps. A step leaves the desk as it was, records a write that a verdict on this very desk admitted, or settles an image that a cut could
-- leave. After each the view is what the event makes of the view before, and if every image that a cut could leave obeyed the sheet, every one does.
-- Assumes nothing.
use Prim.Native.Nat.{ℕ}
use native.Mathlib.Omega.{arith}
use mathlib.Core.Path.{◌≡◌, refl, sym, subst⁻¹, ◌∙◌}
use mathlib.Core.List.{List}
use lib.ListN.{length}
use Rattle.std.specs.Prelude.{Ok}
use Rattle.region.specs.Limits.{writes_limit, log_limit}
use Rattle.pieces.specs.AsyncSpec.{Write}
use Rattle.desk.specs.Desk.{Desk, chunk_size, view, with_write, settled_desk}
use Rattle.desk.proofs.Views.{view_of_settled}
use Rattle.gate.specs.Judgement.{Judges}
use Rattle.gate.specs.Meaning.{CouldBeLeft}
use Rattle.gate.specs.declared.Verdict.TheVariants.{Admitted}
use Rattle.gate.proofs.Gives.{Holds, empty_holds, judged_holds}
use Rattle.session.specs.History.{Event, nothing, written, happen, settled}

pub record Keeps (sheet : List ℕ) (d : Desk) (e : Event) (d' : Desk) : Type 0 where
  pub happened : view d' ≡ happen (chunk_size d) (view d) e
  pub holds : Holds d' sheet

module _ {sheet : List ℕ} {d : Desk} (h : Holds d sheet) where
  pub stays : Keeps sheet d nothing d
  unfolding happen
  stays = record { happened = refl; holds = h }

  pub unmoved : {d' : Desk} → d' ≡ d → Keeps sheet d nothing d'
  unmoved same = subst⁻¹ (Keeps sheet d nothing) same stays

  -- an admitted write, by whichever call it is recorded
  pub records : {work : List ℕ} {w : Write} {n : ℕ} {work' : List ℕ} {d' : Desk} → Judges d sheet work w (Ok (Admitted n)) work' → d' ≡ with_write d w
      → Keeps sheet d (written w) d'
  unfolding happen
  records {w = w} j e =
      let held = judged_holds h.sized j refl in
      subst⁻¹ (Keeps sheet d (written w)) e (record { happened = held.1; holds = held.2 })

  -- an image that a cut could leave, with an empty log; the records and the log buffer may be others
  pub settles : {e : Event} {x : List ℕ} {d' : Desk} (from : Desk) → CouldBeLeft d x → happen (chunk_size d) (view d) e ≡ settled x
      → d' ≡ settled_desk from x → length from.state.records ≡ writes_limit → length from.log ≡ log_limit → Keeps sheet d e d'
  settles {e} {x} from c happens same sized buffer =
      subst⁻¹ (Keeps sheet d e) same
      (record {
        happened = view_of_settled from x ∙ sym happens;
        holds = empty_holds from x sized (record { short = omega (arith, c.1.same_length, h.facts.short); buffer = buffer; obeyed = h.all_obey x c });
      })
