-- Document 01's choice points and choice numbers, over the chunk size C. A choice number is a row table in another dress: `rows_of C K ws m`.
use Rattle.std.specs.Prelude.{ℕ, zero, suc, ◌+◌, ◌-◌, ◌/◌, ◌%◌, ◌^◌, Bool, ◌&&◌, List, [], ◌∷◌, leb, ltb, eqb, length}
use Rattle.region.specs.Tab.{tab}
use Rattle.pieces.specs.AsyncSpec.{Write, addr_to_chunk, size_to_chunks}
use Rattle.pieces.specs.Rows.{set_bits}

-- "A write touches no chunk if it is empty, otherwise those from addr div 8 to (addr+len-1) div 8": how many these are
unfoldable pub touched : (C addr n : ℕ) → ℕ
touched C addr zero = 0
touched C addr (suc n) = suc (addr_to_chunk C (addr + n) - addr_to_chunk C addr)

-- the touched chunks are a run from the chunk of addr on: those that some byte of the write lies in (`proofs/Touched.antt`)
abbrev pub touches : (C addr n c : ℕ) → Bool
touches C addr n c = leb (addr_to_chunk C addr) c && ltb c (addr_to_chunk C addr + touched C addr n)

-- the touched chunks of an image of L bytes, counted one by one: that `touched` is their number is `touched_counts` (`proofs/Touched.antt`)
abbrev pub touched_among : (C addr n L : ℕ) → ℕ
touched_among C addr n L = set_bits (touches C addr n) 0 (size_to_chunks C L)

-- "Each touched chunk is one choice point": the number of points of a log
unfoldable pub points : ℕ → List Write → ℕ
points C [] = 0
points C (w ∷ ws) = touched C w.addr (length w.bytes) + points C ws

-- "Choice number m keeps point i exactly if bit i of m (weight 2^i) is 1."
abbrev pub keeps_point : (m i : ℕ) → Bool
keeps_point m i = eqb (m / 2 ^ i % 2) 1

-- the row that m's lowest points give a write: its touched chunks, lowest first
unfoldable pub row_of : (C K : ℕ) → Write → (m : ℕ) → List Bool
row_of C K w m = tab (λ c. touches C w.addr (length w.bytes) c && keeps_point m (c - addr_to_chunk C w.addr)) K

-- "Points are numbered from 0, oldest write first, lowest chunk first": the rows of choice number m, for K chunks
unfoldable pub rows_of : (C K : ℕ) → List Write → (m : ℕ) → List (List Bool)
rows_of C K [] m = []
rows_of C K (w ∷ ws) m = row_of C K w m ∷ rows_of C K ws (m / 2 ^ touched C w.addr (length w.bytes))
