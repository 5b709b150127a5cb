-- With one write more, choice numbers below 2 ^ n leave exactly the pairs of a cut image without the write, under the number's older choices, and a
-- part-write over it. Assumes nothing.
use Prim.Native.Nat.{ℕ, ◌/◌, ◌^◌, ◌<◌}
use native.Mathlib.Omega.{arith}
use mathlib.Core.Path.{◌≡◌, sym, ap, subst, ◌∙◌}
use mathlib.Core.Logic.{◌↔◌}
use mathlib.Core.Bool.{Bool, false}
use mathlib.Core.List.{List, [], ◌∷◌, ◌++◌}
use lib.ListN.{length, get_or, get_or-append}
use Rattle.region.specs.Pmemspec.{CanResultFromPartialWrite}
use Rattle.pieces.specs.AsyncSpec.{Write, no_write, AsyncView, apply_write_selective, flush_selective, write, CanCrash}
use Rattle.pieces.specs.Choice.{points, row_of, rows_of}
use Rattle.cuts.specs.Bits.{AgreeOnTouched, view_chunks}
use Rattle.cuts.specs.Number.{number_of, choice_image, choice_points}
use Rattle.cuts.proofs.OneMore.{cut_of_a_write}
use Rattle.cuts.proofs.PartWrites.{row_lays_part_write, part_write_has_row}
use Rattle.cuts.proofs.Agree.{untouched_bits_change_nothing}
use Rattle.cuts.proofs.Choices.{touching_write_is_logged, rows_of_shape, rows_of_one_more}
use Rattle.cuts.proofs.Numbers.{number_of_lt, number_of_agrees, number_leaves_the_image_of_its_rows, number_crashes}

-- rows that agree with the last write in the log agree without it
older_rows_agree : (C K : ℕ) (ws : List Write) (w : Write) (rows rows' : List (List Bool)) (row row' : List Bool)
    → length rows ≡ length ws → length rows' ≡ length ws
    → AgreeOnTouched C K (ws ++ (w ∷ [])) (rows ++ (row ∷ [])) (rows' ++ (row' ∷ [])) → AgreeOnTouched C K ws rows rows'
older_rows_agree C K ws w rows rows' row row' l l' a j c h k =
    let b : j < length ws = touching_write_is_logged C ws j c k in
    ap (λ r. get_or r c false) (sym (get_or-append rows (row ∷ []) [] j (omega arith)))
    ∙ a j c h (rw (get_or-append ws (w ∷ []) no_write j b) k) ∙ ap (λ r. get_or r c false) (get_or-append rows' (row' ∷ []) [] j (omega arith))

module _ (C : ℕ) (C⁺ : 0 < C) (v : AsyncView) (w : Write) where
  -- the number's image with the write is the write's part, by the number's highest points, over its image without
  pub choice_of_a_write : (m : ℕ)
      → choice_image C (write v w) m
      ≡ apply_write_selective C (choice_image C v m) (w) (row_of C (view_chunks C v) (w) (m / 2 ^ choice_points C v))
  choice_of_a_write m =
      ap (flush_selective C (write v w)) (rows_of_one_more C (view_chunks C v) v.outstanding_writes (w) m)
      ∙ cut_of_a_write C v w _ _ (rows_of_shape C (view_chunks C v) v.outstanding_writes m).row_for_each_write

  pub choice_is_part_write : (m : ℕ) → CanResultFromPartialWrite C (choice_image C (write v w) m) (choice_image C v m) w.addr w.bytes
  choice_is_part_write m = rw (choice_of_a_write m) (row_lays_part_write C (choice_image C v m) w _)

  -- the number of rows with one row more leaves, without the write, the image of the rows
  older_choices : (rows : List (List Bool)) (row : List Bool) → length rows ≡ length v.outstanding_writes
      → choice_image C v (number_of C (write v w).outstanding_writes (rows ++ (row ∷ []))) ≡ flush_selective C v rows
  older_choices rows row l =
      let ws = v.outstanding_writes in
      let m = number_of C (ws ++ (w ∷ [])) (rows ++ (row ∷ [])) in
      let K = view_chunks C v in
      untouched_bits_change_nothing
      C
      C⁺
      v
      (rows_of C K ws m)
      rows
      (older_rows_agree
      C
      K
      ws
      w
      (rows_of C K ws m)
      rows
      (row_of C K w (m / 2 ^ points C ws))
      row
      (rows_of_shape C K ws m).row_for_each_write
      l
      (subst (λ r. AgreeOnTouched C K (ws ++ (w ∷ [])) r (rows ++ (row ∷ []))) (rows_of_one_more C K ws w m) (number_of_agrees C K (ws ++ (w ∷ [])) (rows ++ (row ∷ [])))))

  pub pairs_cover : (b a : List ℕ)
      → (CanCrash C v b × CanResultFromPartialWrite C a b w.addr w.bytes)
      ↔ ((m : ℕ) × (m < 2 ^ choice_points C (write v w)) × (b ≡ choice_image C v m) × (a ≡ choice_image C (write v w) m))
  pairs_cover b a = (to, from)
    where
      to : (CanCrash C v b × CanResultFromPartialWrite C a b w.addr w.bytes)
          → (m : ℕ) × (m < 2 ^ choice_points C (write v w)) × (b ≡ choice_image C v m) × (a ≡ choice_image C (write v w) m)
      to ((rows, h), p) =
          let found = part_write_has_row C b w C⁺ a p in
          let all = rows ++ (found.0 ∷ []) in
          let m = number_of C (write v w).outstanding_writes all in (
            m,
            number_of_lt C (write v w).outstanding_writes all,
            h.leaves ∙ sym (older_choices rows found.0 h.row_for_each_write),
            found.2 ∙ ap (λ x. apply_write_selective C x (w) found.0) h.leaves
                ∙ sym (cut_of_a_write C v w rows found.0 h.row_for_each_write)
                ∙ sym (number_leaves_the_image_of_its_rows C C⁺ (write v w) all),
          )

      from : ((m : ℕ) × (m < 2 ^ choice_points C (write v w)) × (b ≡ choice_image C v m) × (a ≡ choice_image C (write v w) m))
          → CanCrash C v b × CanResultFromPartialWrite C a b w.addr w.bytes
      from (m, h, e, f) = (rw e (number_crashes C C⁺ v m), rw (e, f) (choice_is_part_write m))
