-- The choice number of a list of rows: point i is kept exactly if bit i is 1, points counted oldest write first and lowest chunk first.
use Rattle.std.specs.Prelude.{ℕ, zero, suc, ◌+◌, ◌*◌, Bool, false, cond, List, [], ◌∷◌, length, get_or, drop}
use Rattle.pieces.specs.AsyncSpec.{Write, AsyncView, addr_to_chunk, flush_selective}
use Rattle.pieces.specs.Choice.{touched, points, rows_of}
use Rattle.cuts.specs.Bits.{view_chunks}

-- the bits f from, f (from + 1), .., n of them, lowest first, put below the bits of hi
unfoldable pub bits_below : (hi : ℕ) (f : ℕ → Bool) (from n : ℕ) → ℕ
bits_below hi f from zero = hi
bits_below hi f from (suc n) = bits_below hi f (suc from) n * 2 + cond (f from) 1 0

unfoldable pub number_of : ℕ → List Write → List (List Bool) → ℕ
number_of C [] rows = 0
number_of C (w ∷ ws) rows =
    bits_below
    (number_of C ws (drop 1 rows))
    (λ c. get_or (get_or rows 0 []) c false)
    (addr_to_chunk C w.addr)
    (touched C w.addr (length w.bytes))

-- the image that a cut by choice number m leaves
abbrev pub choice_image : ℕ → AsyncView → ℕ → List ℕ
choice_image C v m = flush_selective C v (rows_of C (view_chunks C v) v.outstanding_writes m)

-- document 01's n of a view: "the number of choice points"
abbrev pub choice_points : ℕ → AsyncView → ℕ
choice_points C v = points C v.outstanding_writes
