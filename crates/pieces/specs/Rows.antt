-- Document 01's row table: "one row per logged write, K bits, chunk 0 in the top bit of the first byte, filled with zero bits to a whole byte".
use Rattle.std.specs.Prelude.{ℕ, zero, suc, ◌+◌, ◌-◌, ◌*◌, ◌/◌, ◌%◌, ◌^◌, Bool, true, cond, ◌&&◌, List, [], ◌∷◌, eqb, length, get_or}
use Rattle.region.specs.Tab.{tab}
pub use Rattle.bits.specs.Bits.{byte_bits}

-- the bytes of a row of K bits
abbrev pub row_bytes : ℕ → ℕ
row_bytes K = (K + byte_bits - 1) / byte_bits

-- bit c of the row that starts at a byte of the table
abbrev pub row_bit : (table : List ℕ) (at c : ℕ) → Bool
row_bit table at c = eqb (get_or table (at + c / byte_bits) 0 / 2 ^ (byte_bits - 1 - c % byte_bits) % 2) 1

-- the row of K bits that starts there
unfoldable pub row_at : (K : ℕ) (table : List ℕ) (at : ℕ) → List Bool
row_at K table at = tab (row_bit table at) K

-- the n rows from there on
unfoldable pub rows_at : (K n : ℕ) (table : List ℕ) (at : ℕ) → List (List Bool)
rows_at K zero table at = []
rows_at K (suc n) table at = row_at K table at ∷ rows_at K n table (at + row_bytes K)

-- how many of the n bits from a place on are set
unfoldable pub set_bits : (ℕ → Bool) → (from n : ℕ) → ℕ
set_bits b from zero = 0
set_bits b from (suc n) = cond (b from) 1 0 + set_bits b (suc from) n

-- "filled with zero bits to a whole byte": no bit from K to the end of the row's last byte is set (`proofs/Filling.antt`)
unfoldable pub row_filled : (K : ℕ) (table : List ℕ) (at : ℕ) → Bool
row_filled K table at = eqb (set_bits (row_bit table at) K (row_bytes K * byte_bits - K)) 0

unfoldable pub rows_filled : (K n : ℕ) (table : List ℕ) (at : ℕ) → Bool
rows_filled K zero table at = true
rows_filled K (suc n) table at = row_filled K table at && rows_filled K n table (at + row_bytes K)

-- a right table for n writes and K chunks: of the right length, every row filled with zero bits. Any other is refusal 9. A right table of bytes is the
-- packing of its rows, and every packing is right (`cuts`, `RightTables`).
abbrev pub rows_right : (K n : ℕ) (table : List ℕ) → Bool
rows_right K n table = eqb (length table) (n * row_bytes K) && rows_filled K n table 0
