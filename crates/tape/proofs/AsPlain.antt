-- A done call by tape is the plain call of the log: the write records, the flush flushes, and the cut cuts by the epoch's own rows. So whatever is known
-- of the plain calls holds of these. Assumes nothing.
use Prim.Native.Nat.{ℕ, ◌+◌, ◌*◌, ◌≤◌}
use native.Mathlib.Nat.{zero-add}
use native.Mathlib.Omega.{arith}
use mathlib.Core.Path.{◌≡◌, sym, ap, ap₂, ◌∙◌}
use mathlib.Core.Bool.{true, false}
use mathlib.Core.List.{List}
use lib.ListN.{length, take, drop, length-drop}
use lib.Seq.{length-take-le, get_or-take, get_or-drop}
use borrow.Author.Tests.{eq-eqb}
use Rattle.region.specs.Limits.{writes_limit}
use Rattle.region.proofs.AnswerLaws.{done_changed, changed}
use Rattle.region.proofs.Booleans.{both_true}
use Rattle.region.specs.Answer.{Answer, Counted}
use Rattle.pieces.specs.AsyncSpec.{Write, flush_selective}
use Rattle.pieces.specs.Kept.{kept}
use Rattle.pieces.specs.Rows.{row_bytes, rows_at, rows_filled, rows_right}
use Rattle.desk.specs.Desk.{chunk_size, chunks, view, settled_desk}
use Rattle.desk.proofs.Soundness.{facts_sound}
use Rattle.desk.proofs.Views.{writes_counted}
use Rattle.writelog.specs.Write.{Writes}
use Rattle.writelog.specs.Flush.{Flushes}
use Rattle.writelog.specs.Cut.{cut_told, Cuts}
use Rattle.writelog.proofs.FlushLaws.{flush_sound}
use Rattle.writelog.proofs.CutLaws.{cut_good}
use Rattle.epochs.specs.Epoch.{epoch_rows, row_place}
use Rattle.epochs.proofs.PredictLaws.{predicted_cut}
use Rattle.epochs.proofs.RowsLaws.{rows_agree}
use Rattle.tape.specs.Memory.{TapeDesk}
use Rattle.tape.specs.Write.{tape_write_number, TapeWrites}
use Rattle.tape.specs.Flush.{tape_flush_number, TapeFlushes}
use Rattle.tape.specs.Cut.{tape_cut_number, TapeCuts}
use Rattle.tape.proofs.NumberLaws.{plainly_done, ending_done}

-- the epoch's rows as a row table of its own
abbrev pub epoch_table : (K n : ℕ) (tape : List ℕ) (start : ℕ) → List ℕ
epoch_table K n tape start = take (n * row_bytes K) (drop (start + 1) tape)

module _ (K n : ℕ) (tape : List ℕ) (start : ℕ) (fits : row_place K start n ≤ length tape) where
  abbrev table : List ℕ
  table = epoch_table K n tape start

  read : (rows_at K n table 0 ≡ epoch_rows K n tape start) × (rows_filled K n table 0 ≡ rows_filled K n tape (start + 1))
  read = rows_agree K n table 0 tape (start + 1) (λ i h. rw (zero-add, get_or-take, get_or-drop))

  epoch_table_right : rows_filled K n tape (start + 1) ≡ true → rows_right K n table ≡ true
  epoch_table_right e =
      let long = length-take-le (n * row_bytes K) (drop (start + 1) tape) (omega (arith, length-drop (start + 1) tape)) in
      both_true (eq-eqb (length table) (n * row_bytes K) long) (read.1 ∙ e)

module _ {t : TapeDesk} {tape : List ℕ} {t' : TapeDesk} where
  pub tape_write_is_a_write : {w : Write} {answer : Answer} → TapeWrites t tape w answer t' → tape_write_number t tape w ≡ 0
      → Writes t.memory w answer t'.memory
  tape_write_is_a_write {w} p none =
      let plain = plainly_done t tape w none in
      record { answers = p.answers ∙ none ∙ sym plain; leaves = ap (λ x. x.memory) (changed t p.leaves none) ∙ done_changed _ plain }

  pub tape_flush_is_a_flush : {answer : Answer} → TapeFlushes t tape answer t' → tape_flush_number t tape ≡ 0 → Flushes t.memory answer t'.memory
  tape_flush_is_a_flush p none =
      let plain = flush_sound t.memory (facts_sound _ t.memory.state _ (ending_done true t tape none).facts) in
      record { answers = p.answers ∙ none ∙ sym plain; leaves = ap (λ x. x.memory) (changed t p.leaves none) ∙ done_changed _ plain }

  -- the cut by the epoch's rows
  pub tape_cut_is_a_cut : length t.memory.state.records ≡ writes_limit → {answer : Counted} → TapeCuts t tape answer t' → tape_cut_number t tape ≡ 0
      → Cuts t.memory (epoch_table (chunks t.memory) t.memory.state.count tape t.start) answer t'.memory
  tape_cut_is_a_cut sized p none =
      let d = t.memory in
      let K = chunks d in
      let n = d.state.count in
      let told = ending_done false t tape none in
      let fits = told.epoch.there.fits in
      let rows = sym (read K n tape t.start fits).0 in
      let right = epoch_table_right K n tape t.start fits told.epoch.filled in
      let plain = cut_good d (epoch_table K n tape t.start) (facts_sound _ d.state _ told.facts) right in
      let found =
      predicted_cut (chunk_size d) tape t.start (view d) told.foretold
      ∙ ap (λ k. flush_selective (chunk_size d) (view d) (epoch_rows K k tape t.start)) (writes_counted d (omega (arith, sized, told.facts.few)))
      ∙ ap (flush_selective (chunk_size d) (view d)) rows in
      record {
        answers = p.answers ∙ ap₂ (λ k n. cut_told k n) (ap (kept (chunk_size d) (view d).outstanding_writes) rows) (none ∙ sym plain);
        leaves = ap (λ x. x.memory) (changed t p.leaves none) ∙ ap (settled_desk d) found ∙ done_changed _ plain;
      }
