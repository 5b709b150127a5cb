-- Choice numbers below 2 ^ n and rows leave the same images: each list of rows has a number whose rows agree with it in every touched chunk, and a
-- number's rows have the shape that a cut wants. Assumes nothing.
use Prim.Native.Nat.{ℕ, zero, suc, ◌+◌, ◌-◌, ◌^◌, ◌<◌}
use native.Mathlib.Nat.{zero-div}
use native.Mathlib.Omega.{arith}
use mathlib.Core.Path.{◌≡◌, sym, ap, ◌∙◌}
use mathlib.Core.Logic.{◌↔◌}
use mathlib.Core.Bool.{Bool, true, false, false≢true}
use mathlib.Core.List.{List, [], ◌∷◌}
use lib.Dec.{lit<}
use lib.ListN.{length, get_or, drop, take}
use Rattle.region.proofs.Tab.{get_or_tab}
use Rattle.pieces.specs.AsyncSpec.{Write, AsyncView, addr_to_chunk, flush_selective, committed, readable, CanCrash}
use Rattle.pieces.specs.Choice.{touched, points, row_of, rows_of}
use Rattle.pieces.proofs.Touched.{inside_bounds}
use Rattle.cuts.specs.Bits.{write_at, touches_chunk, AgreeOnTouched, view_chunks}
use Rattle.cuts.specs.Number.{number_of, choice_image, choice_points}
use Rattle.cuts.proofs.Basics.{get_or_tail}
use Rattle.cuts.proofs.Digits.{bit_of_bits_below, bits_below_high, bits_below_lt, bit_of_ones}
use Rattle.cuts.proofs.Shape.{shaped_rows_crash}
use Rattle.cuts.proofs.Agree.{untouched_bits_change_nothing}
use Rattle.cuts.proofs.Flush.{flush_is_the_cut_that_keeps_everything}
use Rattle.cuts.proofs.Nothing.{cut_that_keeps_nothing}
use Rattle.cuts.proofs.Choices.{nothing_touched, bit_of_choice, rows_of_shape}

module _ (C : ℕ) where
  -- a touched chunk is one of the log's points
  pub point_below : (ws : List Write) (j c : ℕ) → touches_chunk C (write_at ws j) c ≡ true
      → points C (take j ws) + (c - addr_to_chunk C (write_at ws j).addr) < points C ws
  unfolding points
  point_below [] j c k = absurd (false≢true (sym (nothing_touched C c) ∙ k))
  point_below (w ∷ ws) zero c k = omega (arith, inside_bounds (addr_to_chunk C w.addr) (touched C w.addr (length w.bytes)) c k)
  point_below (w ∷ ws) (suc j) c k = omega (arith, point_below ws j c k)

  pub number_of_lt : (ws : List Write) (rows : List (List Bool)) → number_of C ws rows < 2 ^ points C ws
  unfolding number_of points
  number_of_lt [] rows = lit< tt
  number_of_lt (w ∷ ws) rows =
      bits_below_lt
      (number_of C ws (drop 1 rows))
      (λ c. get_or (get_or rows 0 []) c false)
      (addr_to_chunk C w.addr)
      (touched C w.addr (length w.bytes))
      (points C ws)
      (number_of_lt ws (drop 1 rows))

  -- the number of some rows chooses as they do
  pub number_of_agrees : (K : ℕ) (ws : List Write) (rows : List (List Bool)) → AgreeOnTouched C K ws (rows_of C K ws (number_of C ws rows)) rows
  unfolding rows_of row_of number_of
  number_of_agrees K [] rows j c h k = absurd (false≢true (sym (nothing_touched C c) ∙ k))
  number_of_agrees K (w ∷ ws) rows zero c h k =
      let first = addr_to_chunk C w.addr in
      let t = touched C w.addr (length w.bytes) in
      let at = inside_bounds first t c k in
      let e : first + (c - first) ≡ c = omega arith in
      get_or_tab _ K c false h
      ∙ rw k (bit_of_bits_below (number_of C ws (drop 1 rows)) (λ c. get_or (get_or rows 0 []) c false) first t (c - first) (omega arith) ∙ rw e)
  number_of_agrees K (w ∷ ws) rows (suc j) c h k =
      let first = addr_to_chunk C w.addr in
      let t = touched C w.addr (length w.bytes) in
      rw (bits_below_high (number_of C ws (drop 1 rows)) (λ c. get_or (get_or rows 0 []) c false) first t)
      (number_of_agrees K ws (drop 1 rows) j c h k ∙ ap (λ r. get_or r c false) (get_or_tail rows j []))

module _ (C : ℕ) (C⁺ : 0 < C) (v : AsyncView) where
  pub number_leaves_the_image_of_its_rows : (rows : List (List Bool)) → choice_image C v (number_of C v.outstanding_writes rows) ≡ flush_selective C v rows
  number_leaves_the_image_of_its_rows rows =
      untouched_bits_change_nothing C C⁺ v _ rows (number_of_agrees C (view_chunks C v) v.outstanding_writes rows)

  -- every number leaves an image that a cut could leave, and every such image has a number below 2 ^ n
  pub number_crashes : (m : ℕ) → CanCrash C v (choice_image C v m)
  number_crashes m =
      let rows = rows_of C (view_chunks C v) v.outstanding_writes m in
      (rows, shaped_rows_crash C v rows (rows_of_shape C (view_chunks C v) v.outstanding_writes m))

  pub numbers_cover : (x : List ℕ) → CanCrash C v x ↔ ((m : ℕ) × (m < 2 ^ choice_points C v) × (x ≡ choice_image C v m))
  numbers_cover x = (to, from)
    where
      to : CanCrash C v x → (m : ℕ) × (m < 2 ^ choice_points C v) × (x ≡ choice_image C v m)
      to (rows, h) = (
        number_of C v.outstanding_writes rows,
        number_of_lt C v.outstanding_writes rows,
        h.leaves ∙ sym (number_leaves_the_image_of_its_rows rows),
      )

      from : ((m : ℕ) × (m < 2 ^ choice_points C v) × (x ≡ choice_image C v m)) → CanCrash C v x
      from (m, h, e) = rw e (number_crashes m)

  -- the last number keeps every point, the first none
  pub last_number_leaves_the_read_image : choice_image C v (2 ^ choice_points C v - 1) ≡ readable v
  last_number_leaves_the_read_image =
      flush_is_the_cut_that_keeps_everything
      C
      C⁺
      v
      _
      (λ j c h k. bit_of_choice C (view_chunks C v) v.outstanding_writes (2 ^ choice_points C v - 1) j c h
      ∙ rw k (bit_of_ones (choice_points C v) _ (point_below C v.outstanding_writes j c k)))

  pub number_zero_leaves_the_last_flush : choice_image C v 0 ≡ committed v
  number_zero_leaves_the_last_flush =
      cut_that_keeps_nothing
      C
      C⁺
      v
      _
      (λ j c h k. bit_of_choice C (view_chunks C v) v.outstanding_writes 0 j c h ∙ rw (k, zero-div))
