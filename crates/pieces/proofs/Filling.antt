-- "Filled with zero bits to a whole byte", bit by bit. Assumes nothing.
use Prim.Native.Nat.{ℕ, ◌+◌, ◌*◌, ◌≤◌, ◌<◌}
use native.Mathlib.Omega.{arith}
use mathlib.Core.Path.{◌≡◌}
use mathlib.Core.Logic.{◌↔◌}
use mathlib.Core.Bool.{true, false}
use mathlib.Core.List.{List}
use borrow.Author.Tests.{eq-eqb, eqb-true}
use Rattle.pieces.specs.Rows.{byte_bits, row_bytes, row_bit, row_filled}
use Rattle.pieces.proofs.ByteBits.{no_set_bits, none_is_set}

-- a row has room for its K bits, and fewer than a byte's bits are filled
pub row_bytes_exactly : (K : ℕ) → (K ≤ row_bytes K * byte_bits) × (row_bytes K * byte_bits < K + byte_bits)
row_bytes_exactly K = (omega arith, omega arith)

-- a row is filled exactly if every bit from K to the end of its last byte is 0
pub filled_exactly : (K : ℕ) (table : List ℕ) (at : ℕ)
    → row_filled K table at ≡ true ↔ ((c : ℕ) → K ≤ c → c < row_bytes K * byte_bits → row_bit table at c ≡ false)
unfolding row_filled
filled_exactly K table at = (
  (λ filled c l h. none_is_set (row_bit table at) K _ (eqb-true _ _ filled) c l (omega arith)),
  (λ zeros. eq-eqb _ _ (no_set_bits (row_bit table at) K _ (λ c l h. zeros c l (omega arith)))),
)
