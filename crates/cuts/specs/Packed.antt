-- Rows packed as document 01's row table: chunk 0 in the top bit of the first byte, filled with zero bits to a whole byte, each row by itself.
use Rattle.std.specs.Prelude.{ℕ, zero, suc, ◌+◌, ◌*◌, ◌≡◌, Bool, false, cond, List, [], ◌∷◌, ◌++◌, get_or}
use Rattle.region.specs.Tab.{tab}
pub use Rattle.bits.specs.Binary.{AreBytes}
use Rattle.pieces.specs.Rows.{byte_bits, row_bytes, rows_at}
use Rattle.cuts.specs.Shape.{HasShape}

-- the number whose n bits are b from, b (from + 1), .., most significant bit first
unfoldable pub top_bit_first : (b : ℕ → Bool) (from n : ℕ) → ℕ
top_bit_first b from zero = 0
top_bit_first b from (suc n) = top_bit_first b from n * 2 + cond (b (from + n)) 1 0

-- byte k of a row. A bit past the row's end is zero.
unfoldable pub packed_byte : List Bool → ℕ → ℕ
packed_byte row k = top_bit_first (λ c. get_or row c false) (k * byte_bits) byte_bits

unfoldable pub packed_row : ℕ → List Bool → List ℕ
packed_row K row = tab (packed_byte row) (row_bytes K)

unfoldable pub packed : ℕ → List (List Bool) → List ℕ
packed K [] = []
packed K (row ∷ rows) = packed_row K row ++ packed K rows

-- A table that is the packing of the rows that it says, and one that is the packing of some n rows of K bits: what `rows_right` tests
-- (`proofs/RightTables.antt: right_exactly`, `right_is_some_packing`).
abbrev pub PacksItsRows : (K n : ℕ) (table : List ℕ) → Type 0
PacksItsRows K n table = table ≡ packed K (rows_at K n table 0)

abbrev pub PacksSomeRows : (K n : ℕ) (table : List ℕ) → Type 0
PacksSomeRows K n table = (rows : List (List Bool)) × HasShape K n rows × (table ≡ packed K rows)
