-- The bit of a choice number that goes with a byte of a write. Assumes nothing.
use Prim.Native.Nat.{ℕ, zero, suc, ◌+◌, ◌-◌, ◌/◌, ◌≤◌, ◌<◌}
use native.Mathlib.Omega.{arith}
use mathlib.Core.Path.{◌≡◌, ap, ◌∙◌}
use mathlib.Core.Bool.{Bool, false, ◌&&◌}
use lib.ListN.{length, get_or}
use Rattle.region.specs.Limits.{const_persistence_chunk_size}
use Rattle.region.proofs.Tab.{get_or_tab, inside_in}
use Rattle.pieces.specs.AsyncSpec.{Write}
use Rattle.pieces.specs.Choice.{touched, keeps_point, row_of}

abbrev C : ℕ
C = const_persistence_chunk_size

module _ (w : Write) (i : ℕ) (low : w.addr ≤ i) (high : i < w.addr + length w.bytes) where
  -- the chunk of a byte of the write is one of those that the write touches
  pub byte_touches : i / C - w.addr / C < touched C w.addr (length w.bytes)
  unfolding touched
  byte_touches = some (length w.bytes) high
    where
      some : (n : ℕ) → i < w.addr + n → i / C - w.addr / C < touched C w.addr n
      some zero h = absurd (omega arith)
      some (suc n) h = omega arith

  pub chosen_bit : (K m : ℕ) → i / C < K → get_or (row_of C K w m) (i / C) false ≡ keeps_point m (i / C - w.addr / C)
  unfolding row_of
  chosen_bit K m k =
      get_or_tab _ K (i / C) false k
      ∙ ap (λ (b : Bool). b && keeps_point m (i / C - w.addr / C))
      (inside_in (w.addr / C) (touched C w.addr (length w.bytes)) (i / C) (omega arith) (omega (arith, byte_touches)))
