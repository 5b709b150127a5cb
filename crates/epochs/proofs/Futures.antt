-- Every future has a tape: whatever is to end each epoch and whatever rows its cut would keep, the tape of the packed rows tells exactly that, whatever
-- bytes stand before and behind. Assumes nothing.
use Prim.Native.Nat.{ℕ, zero, suc, ◌+◌, ◌*◌, ◌^◌, ◌<◌}
use native.Mathlib.Nat.{zero-add}
use native.Mathlib.Omega.{arith}
use mathlib.Core.Path.{◌≡◌, refl, ap, subst, ◌∙◌}
use mathlib.Core.Bool.{Bool, true, false, cond}
use mathlib.Core.List.{List, [], ◌∷◌, ◌++◌, append_assoc}
use lib.Dec.{lit<, eqb}
use lib.ListN.{length, get_or, length-append, get_or-append}
use lib.Seq.{get_or-append_seam, get_or-append-add}
use borrow.Author.Tests.{eqb-true, le-leb}
use Rattle.region.proofs.Booleans.{both, both_true}
use Rattle.pieces.specs.Rows.{row_bytes, rows_at, rows_filled, byte_bits}
use Rattle.cuts.specs.Packed.{packed, AreBytes}
use Rattle.cuts.proofs.Packed.{bytes_of_append}
use Rattle.cuts.proofs.Tables.{packed_is_right}
use Rattle.epochs.specs.Epoch.{flush_header, cut_header, header, header_right, flush_foretold, row_place}
use Rattle.epochs.specs.Future.{Foreseen, TellsEpoch, Tells, nothing, next, RowsOfWidth, AllOfWidth, none, more, epoch_bytes, tape_of}
use Rattle.epochs.proofs.EpochLaws.{epoch_good, flush_header_right, cut_header_right}
use Rattle.epochs.proofs.RowsLaws.{rows_agree}

module _ (K : ℕ) (e : Foreseen) (shaped : RowsOfWidth K e) where
  abbrev n : ℕ
  n = length e.rows

  abbrev table : List ℕ
  table = packed K e.rows

  packed_right : AreBytes table × ((rows_at K n table 0 ≡ e.rows) × (rows_filled K n table 0 ≡ true) × (length table ≡ n * row_bytes K))
  packed_right =
      let right = packed_is_right K n e.rows shaped in
      let parts = both (eqb (length table) (n * row_bytes K)) (rows_filled K n table 0) right.1 in
      (right.0, (right.2, parts.1, eqb-true (length table) (n * row_bytes K) parts.0))

  pub bytes_of_epoch : AreBytes (epoch_bytes K e)
  bytes_of_epoch = bytes_of_append (cond e.flushing flush_header cut_header ∷ []) table (one e.flushing) packed_right.0
    where
      one : (b : Bool) (i : ℕ) → get_or (cond b flush_header cut_header ∷ []) i 0 < 2 ^ byte_bits
      one true zero = lit< tt
      one false zero = lit< tt
      one b (suc i) = lit< tt

  module _ (before after : List ℕ) where
    abbrev tape : List ℕ
    tape = before ++ (epoch_bytes K e ++ after)

    abbrev start : ℕ
    start = length before

    header_is : header tape start ≡ cond e.flushing flush_header cut_header
    header_is = get_or-append_seam before (cond e.flushing flush_header cut_header) (table ++ after) 0

    long : length tape ≡ start + 1 + n * row_bytes K + length after
    long = omega (arith, length-append before (epoch_bytes K e ++ after), length-append table after, packed_right.1.2)

    foretold_is : flush_foretold tape start ≡ e.flushing
    foretold_is = ap (λ (h : ℕ). eqb h flush_header) header_is ∙ by e.flushing
      where
        by : (b : Bool) → eqb (cond b flush_header cut_header) flush_header ≡ b
        by true = refl
        by false = refl

    headed : header_right tape start ≡ true
    headed = by e.flushing header_is
      where
        begins : start < length tape
        begins = omega (arith, long)

        by : (b : Bool) → header tape start ≡ cond b flush_header cut_header → header_right tape start ≡ true
        by true h = flush_header_right tape start begins h
        by false h = cut_header_right tape start begins h

    read : (rows_at K n tape (start + 1) ≡ rows_at K n table 0) × (rows_filled K n tape (start + 1) ≡ rows_filled K n table 0)
    read = rows_agree K n tape (start + 1) table 0
        (λ i h.
        let place : start + 1 + i ≡ start + suc i = omega arith in
        rw (place, get_or-append-add before (epoch_bytes K e ++ after) (suc i) 0, zero-add i)
        (get_or-append table after 0 i (omega (arith, packed_right.1.2))))

    pub epoch_tells : TellsEpoch K tape start e
    epoch_tells =
        record {
          right =
              epoch_good K n tape start (both_true headed (le-leb (row_place K start n) (length tape) (omega (arith, long))))
              (read.1 ∙ packed_right.1.1);
          header_tells = foretold_is;
          rows_tell = read.0 ∙ packed_right.1.0;
        }

module _ (K : ℕ) where
  tells_behind : (before : List ℕ) (es : List Foreseen) → AllOfWidth K es → Tells K (before ++ tape_of K es) (length before) es
  unfolding tape_of
  tells_behind before [] none = nothing
  tells_behind before (e ∷ es) (more w ws) =
      let rest = tells_behind (before ++ epoch_bytes K e) es ws in
      let place : length (before ++ epoch_bytes K e) ≡ row_place K (length before) (length e.rows)
      = omega (arith, length-append before (epoch_bytes K e), (packed_right K e w).1.2) in
      next (epoch_tells K e w before (tape_of K es))
      (subst (λ (t : List ℕ). Tells K t (row_place K (length before) (length e.rows)) es) (append_assoc before (epoch_bytes K e) (tape_of K es))
      (subst (λ (i : ℕ). Tells K ((before ++ epoch_bytes K e) ++ tape_of K es) i es) place rest))

  bytes_of_tape : (es : List Foreseen) → AllOfWidth K es → AreBytes (tape_of K es)
  unfolding tape_of
  bytes_of_tape [] none = λ i. lit< tt
  bytes_of_tape (e ∷ es) (more w ws) = bytes_of_append (epoch_bytes K e) (tape_of K es) (bytes_of_epoch K e w) (bytes_of_tape es ws)

  -- the tape is fixed before the run, and its start is 0
  pub every_future_has_a_tape : (es : List Foreseen) → AllOfWidth K es → AreBytes (tape_of K es) × Tells K (tape_of K es) 0 es
  every_future_has_a_tape es w = (bytes_of_tape es w, tells_behind [] es w)
