-- Images that a cut could always leave: the read image, the image at the last flush, and with one write more whatever it could leave before. On an
-- empty log there is one image. Assumes nothing.
use Prim.Native.Nat.{ℕ, ◌-◌, ◌^◌, ◌<◌}
use native.Mathlib.Nat.{not-suc-le-zero}
use mathlib.Core.Path.{◌≡◌, refl}
use mathlib.Core.Logic.{◌↔◌}
use mathlib.Core.List.{List, []}
use Rattle.pieces.specs.AsyncSpec.{Write, AsyncView, flush, flush_writes_selective, committed, readable, write, CanCrash}
use Rattle.cuts.specs.Number.{choice_points}
use Rattle.cuts.proofs.Flush.{flush_leaves_the_read_image}
use Rattle.cuts.proofs.PartWrites.{no_write_is_part_write, part_writes}
use Rattle.cuts.proofs.Numbers.{number_crashes, last_number_leaves_the_read_image, number_zero_leaves_the_last_flush}

pub cut_of_nothing : (C : ℕ) (s x : List ℕ) → CanCrash C (record { state_at_last_flush = s; outstanding_writes = [] }) x ↔ (x ≡ s)
unfolding flush_writes_selective
cut_of_nothing C s x = (
  λ h. h.1.leaves,
  λ e. ([], record { same_length = rw e; row_for_each_write = refl; bit_for_each_chunk = λ j h. absurd (not-suc-le-zero h); leaves = e }),
)

pub cut_after_flush : (C : ℕ) (v : AsyncView) (x : List ℕ) → CanCrash C (flush v) x ↔ (x ≡ readable v)
cut_after_flush C v x = rw (flush_leaves_the_read_image v) (cut_of_nothing C (readable v) x)

module _ (C : ℕ) (C⁺ : 0 < C) (v : AsyncView) where
  pub cut_could_leave_the_read_image : CanCrash C v (readable v)
  cut_could_leave_the_read_image = rw (last_number_leaves_the_read_image C C⁺ v) at (number_crashes C C⁺ v (2 ^ choice_points C v - 1))

  pub cut_could_leave_the_last_flush : CanCrash C v (committed v)
  cut_could_leave_the_last_flush = rw (number_zero_leaves_the_last_flush C C⁺ v) at (number_crashes C C⁺ v 0)

  pub cut_could_lose_the_write : (w : Write) (x : List ℕ) → CanCrash C v x → CanCrash C (write v w) x
  cut_could_lose_the_write w x h = (part_writes C C⁺ v w x).1 (x, h, no_write_is_part_write C x w)
