-- The kept count by addresses and lengths, one record at a time. Assumes nothing.
use Prim.Native.Nat.{ℕ, zero, suc, ◌+◌, ◌-◌, ◌*◌, ◌/◌, ◌≤◌, ◌<◌}
use native.Mathlib.Nat.{zero-add, add-zero, sub-zero}
use native.Mathlib.Omega.{arith}
use mathlib.Core.Path.{◌≡◌, refl, sym, ap, ap₂, subst, subst⁻¹, ◌∙◌}
use mathlib.Core.Bool.{Bool, true, false}
use mathlib.Core.List.{List, [], ◌∷◌}
use lib.ListN.{length, get_or, take, drop, length-drop}
use lib.Seq.{get_or-take, length-take-le}
use borrow.Author.Tests.{leb-true}
use Rattle.region.specs.Limits.{const_persistence_chunk_size}
use Rattle.region.proofs.Booleans.{both}
use Rattle.pieces.specs.AsyncSpec.{addr_to_chunk, size_to_chunks}
use Rattle.pieces.specs.Choice.{touched}
use Rattle.pieces.specs.Rows.{set_bits, row_bit, row_at, rows_at, row_bytes}
use Rattle.pieces.specs.Kept.{kept, kept_of}
use Rattle.pieces.proofs.ByteBits.{set_bits_agree, set_bits_le}
use Rattle.pieces.proofs.RowBits.{one_less, row_at_bit, rows_at_more}
use Rattle.records.specs.Record.{no_record}
use Rattle.desk.specs.State.{log_records, together, records_inside, writes_of}
use Rattle.walks.specs.Kept.{kept_records, KeptFrom}
use Rattle.records.specs.declared.Record.{Record}
use Rattle.desk.specs.declared.state.State.{State}
use Rattle.desk.proofs.Records.{next, rest, next_and_rest, together_more, inside_more, records_none}

abbrev C : ℕ
C = const_persistence_chunk_size

-- the chunks of an image of L bytes, and the bytes of a row for it
abbrev image_chunks : ℕ → ℕ
image_chunks L = size_to_chunks C L

abbrev width : ℕ → ℕ
width L = row_bytes (image_chunks L)

-- a write touches no more chunks than it has bytes
pub touched_le : (addr n : ℕ) → touched C addr n ≤ n
unfolding touched
touched_le addr zero = omega arith
touched_le addr (suc n) = omega arith

-- the chunks that a write inside the image touches are the image's
pub touched_inside : (L addr n : ℕ) → addr + n ≤ L → addr / C + touched C addr n ≤ image_chunks L
unfolding touched
touched_inside L addr zero h = omega arith
touched_inside L addr (suc n) h = omega arith

-- the kept count goes by the records
pub kept_by_records : (C : ℕ) (rs : List Record) (log : List ℕ) (rows : List (List Bool)) → together rs ≤ length log
    → kept C (writes_of rs log) rows ≡ kept_records C rs rows
unfolding kept kept_of kept_records writes_of together
kept_by_records C [] log rows h = refl
kept_by_records C (r ∷ rs) log rows h =
    let whole : length (take r.len log) ≡ r.len = length-take-le r.len log (omega arith) in
    ap₂ (λ (n m : ℕ). set_bits (λ c. get_or (get_or rows 0 []) c false) (addr_to_chunk C r.addr) (touched C r.addr n) + m) whole
    (kept_by_records C rs (drop r.len log) (drop 1 rows) (omega (arith, length-drop r.len log)))

-- the set bits of the row at `row` among the chunks that a record's write touches
abbrev pub kept_here : List ℕ → ℕ → Record → ℕ
kept_here table row r = set_bits (row_bit table row) (r.addr / C) (touched C r.addr r.len)

kept_here_le : (table : List ℕ) (row : ℕ) (r : Record) → kept_here table row r ≤ r.len
kept_here_le table row r =
    omega (arith, set_bits_le (row_bit table row) (r.addr / C) (touched C r.addr r.len), touched_le r.addr r.len)

-- one record more, with its row where it lies
kept_more : (L : ℕ) (r : Record) (rs : List Record) (table : List ℕ) (row left : ℕ) → let K = image_chunks L in 0 < left → r.addr + r.len ≤ L
    → kept_records C (r ∷ rs) (rows_at K left table row) ≡ kept_here table row r + kept_records C rs (rows_at K (left - 1) table (row + row_bytes K))
unfolding kept_records
kept_more L r rs table row left some lies =
    let K = image_chunks L in
    ap (kept_records C (r ∷ rs)) (rows_at_more K left table row some)
    ∙ ap (λ (m : ℕ). m + kept_records C rs (rows_at K (left - 1) table (row + row_bytes K)))
    (set_bits_agree (λ c. get_or (row_at K table row) c false) (row_bit table row) (r.addr / C) (touched C r.addr r.len)
    (λ c l h. row_at_bit K table row c (omega (arith, touched_inside L r.addr r.len lies))))

-- The count under way: the records from i on are to come, their rows lie from `row` on, and what they keep is what the sum lacks. The rows begin at `first`.
pub record Counting (L : ℕ) (st : State) (table : List ℕ) (first sum row i : ℕ) : Type 0 where
  pub there : row + (st.count - i) * width L ≤ length table
  pub inside : records_inside L (drop i (log_records st)) ≡ true
  pub bytes : sum + together (drop i (log_records st)) ≤ together (log_records st)
  pub pieces : sum + kept_records C (drop i (log_records st)) (rows_at (image_chunks L) (st.count - i) table row)
      ≡ kept_records C (log_records st) (rows_at (image_chunks L) st.count table first)

-- what its next record brings
pub record Turn (L : ℕ) (st : State) (table : List ℕ) (first sum row i : ℕ) (r : Record) : Type 0 where
  pub lies : r.addr + r.len ≤ L
  pub row_there : row + width L ≤ length table
  pub after : (n w : ℕ) → n ≡ kept_here table row r → w ≡ width L → Counting L st table first (sum + n) (row + w) (i + 1)

module _ (L : ℕ) (st : State) (table : List ℕ) (first : ℕ) where
  pub count_starts : KeptFrom C L st (length table) first → Counting L st table first 0 first 0
  count_starts from =
      let all : st.count - 0 ≡ st.count = sub-zero st.count in
      record { there = rw all (omega (arith, from.right)); inside = from.inside; bytes = omega arith; pieces = rw all (zero-add _) }

  pub turn : {sum row i : ℕ} {r : Record} → KeptFrom C L st (length table) first → Counting L st table first sum row i → i < st.count → r ≡ next st i → Turn L st table first sum row i r
  turn {sum} {row} {i} from c more e = subst (Turn L st table first sum row i) (sym e) by_next
    where
      by_next : Turn L st table first sum row i (next st i)
      by_next =
          let few : st.count ≤ length st.records = omega (arith, from.few, from.sized) in
          let in_both = both _ _ (sym (inside_more st i more few L) ∙ c.inside) in
          let lies = leb-true ((next st i).addr + (next st i).len) L in_both.0 in
          let less : st.count - i - 1 ≡ st.count - (i + 1) = omega arith in
          let off = one_less (st.count - i) (width L) (omega arith) ∙ ap (λ (n : ℕ). width L + n * width L) less in
          let one_more =
          ap (λ (rs : List Record). kept_records C rs (rows_at (image_chunks L) (st.count - i) table row)) (next_and_rest st i more few)
          ∙ kept_more L (next st i) (rest st i) table row (st.count - i) (omega arith) lies
          ∙ ap (λ (n : ℕ). kept_here table row (next st i) + kept_records C (rest st i) (rows_at (image_chunks L) n table (row + width L))) less in
          record {
            lies = lies;
            row_there = omega (arith, c.there, off);
            after = λ n w e wide. subst⁻¹ (λ (v : ℕ). Counting L st table first (sum + n) (row + v) (i + 1)) wide
                (record {
                  there = omega (arith, c.there, off);
                  inside = in_both.1;
                  bytes = omega (arith, c.bytes, together_more st i more few, kept_here_le table row (next st i));
                  pieces = omega (arith, c.pieces, one_more);
                });
          }

  -- the same of the log as a list
  pub turn_of : {rs : List Record} {sum row i : ℕ} → rs ≡ log_records st → KeptFrom C L st (length table) first → Counting L st table first sum row i → i < length rs
      → Turn L st table first sum row i (get_or rs i no_record)
  turn_of {rs} {sum} {row} {i} all from c more =
      let whole : length (log_records st) ≡ st.count = length-take-le st.count st.records (omega (arith, from.few, from.sized)) in
      let inside : i < st.count = omega (arith, more, whole, ap length all) in
      turn from c inside (ap (λ (l : List Record). get_or l i no_record) all ∙ get_or-take st.count st.records i no_record inside)

  pub count_ends : {sum row i : ℕ} → st.count ≤ i → Counting L st table first sum row i
      → sum ≡ kept_records C (log_records st) (rows_at (image_chunks L) st.count table first)
  unfolding kept_records
  count_ends {sum} {row} {i} done c =
      sym (add-zero sum)
      ∙ ap (λ (rs : List Record). sum + kept_records C rs (rows_at (image_chunks L) (st.count - i) table row)) (sym (records_none st i done))
      ∙ c.pieces
