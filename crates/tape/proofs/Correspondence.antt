-- The correspondence that pmem_async_equiv_t.rs sketches: for every log and every crash of it there is a tape that foretells just that crash, and the
-- predicted image is the original's durable state for the resolved prophecies. The other way round a tape's cut is a crash. Assumes nothing.
use Prim.Native.Nat.{ℕ}
use native.Mathlib.Omega.{arith}
use mathlib.Core.Path.{◌≡◌, refl, sym, ap, subst, subst⁻¹, ◌∙◌}
use mathlib.Core.Logic.{◌↔◌}
use mathlib.Core.Bool.{Bool, true, false, beq}
use mathlib.Core.List.{List, [], ◌++◌}
use lib.Dec.{lit<}
use lib.ListN.{length}
use Rattle.region.specs.Limits.{writes_limit}
use Rattle.pieces.specs.AsyncSpec.{AsyncView, CanCrashAs, CanCrash}
use Rattle.cuts.specs.Bits.{view_chunks}
use Rattle.cuts.specs.Packed.{AreBytes}
use Rattle.cuts.specs.Prophecy.{prophecy}
use Rattle.cuts.specs.Shape.{HasShape}
use Rattle.cuts.proofs.Packed.{bytes_of_append}
use Rattle.cuts.proofs.Shape.{crash_rows_shaped}
use Rattle.desk.specs.Desk.{Desk, chunk_size, chunks, view, sound}
use Rattle.desk.proofs.Soundness.{sound_facts}
use Rattle.desk.proofs.Views.{writes_counted}
use Rattle.epochs.specs.Epoch.{flush_foretold, epoch_rows, epoch_number}
use Rattle.epochs.specs.Foretold.{foretold, predicted_image, predicted_now}
use Rattle.epochs.specs.Future.{Foreseen, TellsEpoch, epoch_bytes}
use Rattle.epochs.proofs.Futures.{bytes_of_epoch, epoch_tells}
use Rattle.epochs.proofs.Foretells.{foretold_cut_is_a_crash}
use Rattle.tape.specs.Memory.{by_tape}
use Rattle.tape.specs.Cut.{tape_cut_number}
use Rattle.tape.proofs.NumberLaws.{tape_sound_there, ending_foretold}

-- a tape whose epoch at `start` is right for the log and resolves the original's prophecies so
pub record Resolves (C : ℕ) (v : AsyncView) (tape : List ℕ) (start : ℕ) (flushing : Bool) (rows : List (List Bool)) : Type 0 where
  pub right : epoch_number (view_chunks C v) (length v.outstanding_writes) tape start ≡ 0
  pub header_tells : flush_foretold tape start ≡ flushing
  pub rows_tell : epoch_rows (view_chunks C v) (length v.outstanding_writes) tape start ≡ rows
  pub view_is : foretold C tape start v ≡ prophecy C flushing v rows

module _ (C : ℕ) (v : AsyncView) where
  abbrev K : ℕ
  K = view_chunks C v

  abbrev n : ℕ
  n = length v.outstanding_writes

  -- an epoch that tells a future tells it of every log with as many writes
  pub telling_resolves : (tape : List ℕ) (start : ℕ) (e : Foreseen) → length e.rows ≡ n → TellsEpoch K tape start e
      → Resolves C v tape start e.flushing e.rows
  telling_resolves tape start e l t =
      let rows : epoch_rows K n tape start ≡ e.rows = subst (λ k. epoch_rows K k tape start ≡ e.rows) l t.rows_tell in
      record {
        right = subst (λ k. epoch_number K k tape start ≡ 0) l t.right;
        header_tells = t.header_tells;
        rows_tell = rows;
        view_is = ap (λ b. prophecy C b v (epoch_rows K n tape start)) t.header_tells ∙ ap (prophecy C e.flushing v) rows;
      }

  -- every resolution of the prophecies has a tape, whatever bytes stand before and behind
  pub every_prophecy_has_a_tape : (flushing : Bool) (rows : List (List Bool)) → HasShape K n rows → (before after : List ℕ)
      → Resolves C v (before ++ (epoch_bytes K (record { flushing = flushing; rows = rows }) ++ after)) (length before) flushing rows
  every_prophecy_has_a_tape flushing rows h before after =
      let e : Foreseen = record { flushing = flushing; rows = rows } in
      telling_resolves (before ++ (epoch_bytes K e ++ after)) (length before) e h.row_for_each_write
      (epoch_tells K e (record { row_for_each_write = refl; bit_for_each_chunk = h.bit_for_each_chunk }) before after)

  -- `crash` of the original: any crash of any log was foretold by some tape, and what is found is the predicted image
  pub every_crash_has_a_tape : (x : List ℕ) (rows : List (List Bool)) → CanCrashAs C v x rows
      → (tape : List ℕ) × AreBytes tape × Resolves C v tape 0 false rows × (x ≡ predicted_image C tape 0 v)
  every_crash_has_a_tape x rows h =
      let shape = crash_rows_shaped C v x rows h in
      let e : Foreseen = record { flushing = false; rows = rows } in
      let width : HasShape K (length rows) rows = record { row_for_each_write = refl; bit_for_each_chunk = shape.bit_for_each_chunk } in
      let resolves = every_prophecy_has_a_tape false rows shape [] [] in (
        epoch_bytes K e ++ [],
        bytes_of_append (epoch_bytes K e) [] (bytes_of_epoch K e width) (λ i. lit< tt),
        resolves,
        h.leaves ∙ sym (ap (λ w. w.durable_state) resolves.view_is),
      )

  -- so the cuts by tape are the crashes
  abbrev pub CutByTape : List ℕ → Type 0
  CutByTape x = (tape : List ℕ) × AreBytes tape × (epoch_number K n tape 0 ≡ 0) × (flush_foretold tape 0 ≡ false) × (x ≡ predicted_image C tape 0 v)

  pub tapes_cover : (x : List ℕ) → CanCrash C v x ↔ CutByTape x
  tapes_cover x = (to, from)
    where
      to : CanCrash C v x → CutByTape x
      to (rows, h) = let found = every_crash_has_a_tape x rows h in (found.0, found.1, found.2.right, found.2.header_tells, found.3)

      from : CutByTape x → CanCrash C v x
      from (tape, b, r, f, e) = (epoch_rows K n tape 0, subst⁻¹ (λ y. CanCrashAs C v y (epoch_rows K n tape 0)) e (foretold_cut_is_a_crash C tape 0 v f))

-- and at the call: every crash of a sound log is done by the tape cut of some tape, whose promise then leaves it as the image
pub every_crash_is_a_tape_cut : (d : Desk) (predicted : List ℕ)
    → length d.state.records ≡ writes_limit → sound d ≡ true → length predicted ≡ length d.image
    → (x : List ℕ) (rows : List (List Bool)) → CanCrashAs (chunk_size d) (view d) x rows
    → (tape : List ℕ) × AreBytes tape × (tape_cut_number (by_tape d 0 predicted) tape ≡ 0) × (predicted_now d tape 0 ≡ x)
every_crash_is_a_tape_cut d predicted sized good same x rows h =
    let found = every_crash_has_a_tape (chunk_size d) (view d) x rows h in
    let tape = found.0 in
    let few = (sound_facts (length d.image) d.state (length d.log) good).few in
    let epoch = subst (λ k. epoch_number (chunks d) k tape 0 ≡ 0) (writes_counted d (omega (arith, sized, few))) found.2.right in (
      tape,
      found.1,
      ending_foretold _ _ _ d.state _ tape _ _ (tape_sound_there _ d.state _ _ good same) epoch (ap (λ b. beq b false) found.2.header_tells),
      sym found.3,
    )
