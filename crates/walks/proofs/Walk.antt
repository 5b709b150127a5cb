-- One step of a replay: what is known of the first record, and of those after it. Assumes nothing.
use Prim.Native.Nat.{ℕ, ◌+◌, ◌*◌, ◌≤◌}
use native.Mathlib.Omega.{arith}
use mathlib.Core.Path.{◌≡◌, refl, sym, ap, ap₂, ◌∙◌}
use mathlib.Core.List.{List, [], ◌∷◌}
use lib.ListN.{length, take, drop}
use borrow.Author.Tests.{leb-true}
use Rattle.region.specs.Pmemspec.{update_bytes}
use Rattle.region.proofs.Booleans.{both}
use Rattle.pieces.specs.AsyncSpec.{size_to_chunks, apply_write_selective, flush_writes, flush_writes_selective}
use Rattle.pieces.specs.Rows.{row_at, rows_at, row_bytes}
use Rattle.pieces.proofs.RowBits.{one_less}
use Rattle.records.specs.declared.Record.{Record}
use Rattle.desk.specs.State.{log_records, together, records_inside, writes_of, recorded_write}
use Rattle.desk.specs.declared.state.State.{State}
use Rattle.desk.proofs.Soundness.{SoundFor}
use Rattle.walks.specs.Log.{Remaining, RowsRemaining, replayed_whole, replayed_by_rows}

-- what is known of the first record
pub record Step (L : ℕ) (r : Record) (rs : List Record) (log_length : ℕ) : Type 0 where
  pub lies : r.addr + r.len ≤ L
  pub has : r.len ≤ log_length
  pub after : {left : ℕ} → left + r.len ≡ log_length → Remaining L rs left

pub step : {L : ℕ} {all : List Record} {r : Record} {rs : List Record} {n : ℕ} → all ≡ r ∷ rs → Remaining L all n → Step L r rs n
unfolding together records_inside
step {L} {all} {r} {rs} {n} first remain =
    let in_both = both _ _ (sym (ap (records_inside L) first) ∙ remain.inside) in
    let sum : together all ≡ r.len + together rs = ap together first in
    record {
      lies = leb-true (r.addr + r.len) L in_both.0;
      has = omega (arith, sum, remain.room);
      after = λ {left} e. record { inside = in_both.1; room = omega (arith, sum, remain.room, e) };
    }

-- the whole log of a sound state
pub all_remain : {L : ℕ} {st : State} {n : ℕ} → SoundFor L st n → Remaining L (log_records st) n
all_remain s = record { inside = s.inside; room = omega (arith, s.room, s.buffer) }

-- the row of the first record, and those after it
module _ {C L width all table_length row : ℕ} (left : ℕ) (one : left + 1 ≡ all) (rows : RowsRemaining C L width all table_length row) where
  first_row : all * width ≡ width + left * width
  first_row = one_less all width (omega arith) ∙ ap (λ (n : ℕ). width + n * width) (omega arith)

  pub row_there : row + width ≤ table_length
  row_there = omega (arith, rows.there, first_row)

  pub rows_after : RowsRemaining C L width left table_length (row + width)
  rows_after = record { wide = rows.wide; there = omega (arith, rows.there, first_row) }

-- what each replay leaves where no record is left
pub none_whole : (rs : List Record) (work log : List ℕ) → length rs ≡ 0 → work ≡ replayed_whole work rs log
unfolding writes_of flush_writes
none_whole [] work log e = refl
none_whole (r ∷ rs) work log e = absurd (omega arith)

pub none_selected : (C : ℕ) (rs : List Record) (work log table : List ℕ) (row : ℕ) → length rs ≡ 0 → work ≡ replayed_by_rows C work rs log table row
unfolding writes_of flush_writes_selective
none_selected C [] work log table row e = refl
none_selected C (r ∷ rs) work log table row e = absurd (omega arith)

-- What the writes after the first give over the image with that one laid is what they all give.
module _ {all : List Record} {r : Record} {rs : List Record} (first : all ≡ r ∷ rs) (log work : List ℕ) {laid bytes behind : List ℕ}
    (own : bytes ≡ take r.len log) (others : behind ≡ drop r.len log) where
  pub next_whole : laid ≡ update_bytes work r.addr bytes → replayed_whole laid rs behind ≡ replayed_whole work all log
  unfolding writes_of flush_writes
  next_whole e =
      ap₂ (λ (w rest : List ℕ). replayed_whole w rs rest) (e ∙ ap (update_bytes work r.addr) own) others
      ∙ sym (ap (λ (l : List Record). replayed_whole work l log) first)

  pub next_selected : (C : ℕ) (table : List ℕ) (row width : ℕ) → let K = size_to_chunks C (length work) in
      width ≡ row_bytes K → length laid ≡ length work → laid ≡ apply_write_selective C work (recorded_write r bytes) (row_at K table row)
      → replayed_by_rows C laid rs behind table (row + width) ≡ replayed_by_rows C work all log table row
  unfolding writes_of flush_writes_selective rows_at
  next_selected C table row width wide same e =
      let K = size_to_chunks C (length work) in
      ap₂ (λ (n w : ℕ). flush_writes_selective C laid (writes_of rs behind) (rows_at (size_to_chunks C n) (length rs) table (row + w))) same wide
      ∙ ap₂ (λ (x rest : List ℕ). flush_writes_selective C x (writes_of rs rest) (rows_at K (length rs) table (row + row_bytes K)))
      (e ∙ ap (λ (b : List ℕ). apply_write_selective C work (recorded_write r b) (row_at K table row)) own) others
      ∙ sym (ap (λ (l : List Record). replayed_by_rows C work l log table row) first)
