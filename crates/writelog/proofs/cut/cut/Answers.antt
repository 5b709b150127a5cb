-- A sound log is replayed over the image by the rows of a right table, and its kept pieces are counted. Assumes nothing.
use Rattle.std.proofs.Common.{◌≡◌, ◌*◌, ℕ, List, true, false, length, sym, ◌∙◌, arith}
use mathlib.Core.Path.{ap₂}
use borrow.Author.Tests.{eqb-true}
use Rattle.region.specs.declared.Refusal.TheVariants.{BadState, BadRows}
use Rattle.region.proofs.Booleans.{both}
use Rattle.pieces.specs.Rows.{row_bytes, rows_right}
use Rattle.desk.specs.Desk.{Desk, desk, chunk_size, chunks}
use Rattle.desk.specs.State.{log_records}
use Rattle.desk.specs.declared.state.State.{State}
use Rattle.desk.proofs.Soundness.{told_bytes, told_stopped}
use Rattle.walks.proofs.KeptLaws.{kept_by_records}
use Rattle.writelog.specs.Cut.{desk_rows}
use Rattle.writelog.proofs.CutLaws.{cut_unsound, cut_bad_rows, cut_good, cuts_done, cuts_refused}
use Rattle.writelog.proofs.cut.cut.Goals as goal

pub returns-in_err-checked : goal.returns-in_err-checked
returns-in_err-checked c =
    let a = c.args in
    let stop = told_stopped _ a.state.now _ c.checked.ensures.0 c.in_err-checked.was c.from_residual.ensures.1 in
    rw stop.0 (cuts_refused BadState (cut_unsound (desk a.image.now a.state.now a.log.now) a.rows.now stop.1))

pub rows_right-requires : goal.rows_right-requires
rows_right-requires c =
    let told = told_bytes _ c.args.state.now _ c.checked.ensures.0 c.in_ok-checked.was in
    (told.facts.few, told.facts.short)

pub returns-then-not-rows_right : goal.returns-then-not-rows_right
returns-then-not-rows_right c =
    let a = c.args in
    let told = told_bytes _ a.state.now _ c.checked.ensures.0 c.in_ok-checked.was in
    let bad : c.rows_right.result ≡ false = cc in
    cuts_refused BadRows (cut_bad_rows (desk a.image.now a.state.now a.log.now) a.rows.now told.good (sym c.rows_right.ensures ∙ bad))

-- a right table has a row for each write
table_length : (d : Desk) (table : List ℕ) → rows_right (chunks d) d.state.count table ≡ true → length table ≡ d.state.count * row_bytes (chunks d)
table_length d table right = eqb-true _ _ (both _ _ right).0

pub kept-pieces-requires : goal.kept-pieces-requires
kept-pieces-requires c =
    let a = c.args in
    let d = desk a.image.now a.state.now a.log.now in
    let good : c.rows_right.result ≡ true = cc in
    let facts = (told_bytes _ a.state.now _ c.checked.ensures.0 c.in_ok-checked.was).facts in
    record {
      sized = c.checked.ensures.1;
      short = facts.short;
      few = facts.few;
      inside = facts.inside;
      room = facts.room;
      right = omega (arith, table_length d a.rows.now (sym c.rows_right.ensures ∙ good));
    }

pub returns : goal.returns
returns c =
    let a = c.args in
    let d = desk a.image.now a.state.now a.log.now in
    let good : c.rows_right.result ≡ true = cc in
    let told = told_bytes _ a.state.now _ c.checked.ensures.0 c.in_ok-checked.was in
    cuts_done (cut_good d a.rows.now told.good (sym c.rows_right.ensures ∙ good))
    (c.kept-pieces.ensures ∙ sym (kept_by_records (chunk_size d) (log_records d.state) d.log (desk_rows d a.rows.now 0) (omega (arith, told.facts.room, told.facts.buffer))))
    (ap₂ (λ (x : List ℕ) (st : State). desk x st d.log) c.replay_selected.ensures c.clear.ensures)
