-- A list of records as words, address and length of each, oldest record first: so a state crosses to another language.
use Rattle.std.specs.Prelude.{ℕ, List, [], ◌∷◌}
use Rattle.records.specs.declared.Record.{Record}

-- the records that a row of words says, two words each
unfoldable pub records_of : List ℕ → List Record
records_of [] = []
records_of (addr ∷ []) = []
records_of (addr ∷ (len ∷ words)) = record { addr = addr; len = len } ∷ records_of words

unfoldable pub record_words : List Record → List ℕ
record_words [] = []
record_words (r ∷ rs) = r.addr ∷ (r.len ∷ record_words rs)
