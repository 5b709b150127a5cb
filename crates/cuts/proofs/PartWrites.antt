-- The images that a cut could leave with one write more are the part-writes over the images that it could leave before, for any log and any write.
-- The new write's row is its choice of chunks, and a part-write's choice of chunks is a row. Assumes nothing.
use Prim.Native.Nat.{ℕ, suc, ◌-◌, ◌/◌, ◌<◌}
use mathlib.Core.Path.{◌≡◌, refl, sym, ap, subst, ◌∙◌}
use mathlib.Core.Logic.{◌⊎◌, inl, inr, ◌↔◌}
use mathlib.Core.Bool.{Bool, true, false, cond, ◌&&◌, and-true, and-false}
use mathlib.Core.List.{List, [], ◌∷◌, ◌++◌}
use native.Mathlib.Numerals.{add-one}
use lib.ListN.{length, get_or, take, length-append}
use lib.Seq.{ext_get_or}
use Rattle.region.specs.Tab.{tab}
use Rattle.region.specs.Pmemspec.{ChunkCorresponds, CanResultFromPartialWrite}
use Rattle.region.proofs.Tab.{length_tab, get_or_tab}
use Rattle.pieces.specs.AsyncSpec.{Write, apply_write, AsyncView, size_to_chunks, apply_write_selective, flush_selective, write, CanCrashAs, CanCrash}
use Rattle.pieces.proofs.Touched.{chunk_below}
use Rattle.cuts.specs.Bits.{covers, view_chunks}
use Rattle.cuts.specs.Shape.{HasShape}
use Rattle.cuts.proofs.Lengths.{length_apply_write, length_apply_write_selective}
use Rattle.cuts.proofs.Column.{byte_of_write, byte_of_selective}
use Rattle.cuts.proofs.Shape.{shaped_rows_crash, crash_rows_shaped, shape_of_one_more, shape_of_one_less, last_row}
use Rattle.cuts.proofs.OneMore.{cut_of_a_write}

-- a part-write says of each chunk whether it was laid
laid : {A B : Type 0} → A ⊎ B → Bool
laid (inl a) = false
laid (inr b) = true

module _ (C : ℕ) (b : List ℕ) (w : Write) where
  -- the whole write is a part-write, and so is none of it
  pub whole_write_is_part_write : CanResultFromPartialWrite C (apply_write b w) b w.addr w.bytes
  whole_write_is_part_write = record { same_length = length_apply_write b w; each_chunk = λ c. inr (λ i h k. refl) }

  pub no_write_is_part_write : CanResultFromPartialWrite C b b w.addr w.bytes
  no_write_is_part_write = record { same_length = refl; each_chunk = λ c. inl (λ i h k. refl) }

  -- what a row lays of a write is a part-write
  pub row_lays_part_write : (row : List Bool) → CanResultFromPartialWrite C (apply_write_selective C b w row) b w.addr w.bytes
  row_lays_part_write row = record { same_length = long; each_chunk = λ c. go c (get_or row c false) refl }
    where
      long : length (apply_write_selective C b w row) ≡ length b
      long = length_apply_write_selective C b w row

      go : (c : ℕ) (t : Bool) → get_or row c false ≡ t
          → ChunkCorresponds C (apply_write_selective C b w row) b c
          ⊎ ChunkCorresponds C (apply_write_selective C b w row) (apply_write b w) c
      go c false e = inl (λ i h k. byte_of_selective C b w row i (rw long at h) ∙ rw (k, e, and-false (covers w i)))
      go c true e =
          inr
          (λ i h k. byte_of_selective C b w row i (rw long at h) ∙ rw (k, e, and-true (covers w i)) (sym (byte_of_write b w i (rw long at h))))

  -- a part-write is what some row lays
  pub part_write_has_row : 0 < C → (y : List ℕ) → CanResultFromPartialWrite C y b w.addr w.bytes
      → (row : List Bool) × (length row ≡ size_to_chunks C (length b)) × (y ≡ apply_write_selective C b w row)
  unfolding laid
  part_write_has_row C⁺ y p = (row, length_tab choice K, ext_get_or 0 y (apply_write_selective C b w row) (p.same_length ∙ sym long) same)
    where
      K : ℕ
      K = size_to_chunks C (length b)

      choice : ℕ → Bool
      choice c = laid (p.each_chunk c)

      row : List Bool
      row = tab choice K

      long : length (apply_write_selective C b w row) ≡ length b
      long = length_apply_write_selective C b w row

      byte : (i : ℕ) → i < length y → i < length b → (e : ChunkCorresponds C y b (i / C) ⊎ ChunkCorresponds C y (apply_write b w) (i / C))
          → get_or y i 0 ≡ cond (covers w i && laid e) (get_or w.bytes (i - w.addr) 0) (get_or b i 0)
      byte i h k (inl f) = rw (and-false (covers w i)) (f i h refl)
      byte i h k (inr f) = rw (and-true (covers w i)) (f i h refl ∙ byte_of_write b w i k)

      same : (i : ℕ) → i < length y → get_or y i 0 ≡ get_or (apply_write_selective C b w row) i 0
      same i h =
          let k : i < length b = rw p.same_length at h in
          byte i h k (p.each_chunk (i / C))
          ∙ sym (byte_of_selective C b w row i k ∙ rw (get_or_tab choice K (i / C) false (chunk_below C C⁺ i (length b) k)))

module _ (C : ℕ) (C⁺ : 0 < C) (v : AsyncView) (w : Write) where
  abbrev n : ℕ
  n = length v.outstanding_writes

  one_longer : length (write v w).outstanding_writes ≡ suc n
  one_longer = length-append v.outstanding_writes (w ∷ []) ∙ add-one n

  -- the rows of a cut with the write in the log: those of a cut without it, and its own, which lays a part-write
  older_rows : (y : List ℕ) (rows : List (List Bool)) → CanCrashAs C (write v w) y rows
      → CanCrashAs C v (flush_selective C v (take n rows)) (take n rows)
      × (y ≡ apply_write_selective C (flush_selective C v (take n rows)) (w) (get_or rows n []))
  older_rows y rows h =
      let shape : HasShape (view_chunks C v) (suc n) rows = rw one_longer at (crash_rows_shaped C (write v w) y rows h) in
      let older : HasShape (view_chunks C v) n (take n rows) = shape_of_one_less (view_chunks C v) n rows shape in (
        shaped_rows_crash C v (take n rows) older,
        h.leaves ∙ ap (λ r. flush_selective C (write v w) r) (last_row (view_chunks C v) n rows shape)
            ∙ cut_of_a_write C v w (take n rows) (get_or rows n []) older.row_for_each_write,
      )

  one_row_more : (b : List ℕ) (rows : List (List Bool)) (row : List Bool) → CanCrashAs C v b rows → length row ≡ size_to_chunks C (length b)
      → CanCrashAs C (write v w) (apply_write_selective C b (w) row) (rows ++ (row ∷ []))
  one_row_more b rows row h l =
      let shape : HasShape (view_chunks C v) (suc n) (rows ++ (row ∷ []))
      = shape_of_one_more (view_chunks C v) n rows row (crash_rows_shaped C v b rows h) (l ∙ ap (size_to_chunks C) h.same_length) in
      let leaves : flush_selective C (write v w) (rows ++ (row ∷ [])) ≡ apply_write_selective C b (w) row
      = cut_of_a_write C v w rows row h.row_for_each_write ∙ ap (λ x. apply_write_selective C x (w) row) (sym h.leaves) in
      rw leaves at (shaped_rows_crash C (write v w) (rows ++ (row ∷ [])) (rw one_longer shape))

  pub part_writes : (y : List ℕ) → CanCrash C (write v w) y ↔ ((b : List ℕ) × CanCrash C v b × CanResultFromPartialWrite C y b w.addr w.bytes)
  part_writes y = (to, from)
    where
      to : CanCrash C (write v w) y → (b : List ℕ) × CanCrash C v b × CanResultFromPartialWrite C y b w.addr w.bytes
      to (rows, h) =
          let older = flush_selective C v (take n rows) in
          let whole = older_rows y rows h in
          (older, (take n rows, whole.0), rw whole.1 (row_lays_part_write C older w (get_or rows n [])))

      from : ((b : List ℕ) × CanCrash C v b × CanResultFromPartialWrite C y b w.addr w.bytes) → CanCrash C (write v w) y
      from (b, (rows, h), p) =
          let found = part_write_has_row C b w C⁺ y p in
          let crash = one_row_more b rows found.0 h found.1 in
          (rows ++ (found.0 ∷ []), subst (λ x. CanCrashAs C (write v w) x (rows ++ (found.0 ∷ []))) (sym found.2) crash)
