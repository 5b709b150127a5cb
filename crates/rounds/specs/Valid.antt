-- `ExampleApp` of power_sound_t.rs: its predicate on images, and document 01's sheet for it.
use Rattle.std.specs.Prelude.{ℕ, ◌+◌, ◌*◌, ◌/◌, ◌%◌, Bool, ◌&&◌, ◌||◌, List, [], ◌∷◌, ltb, eqb, length, get_or}
use Rattle.sheet.specs.Sheet.{Rule, clause, group, nil, cons, range, any}

-- one of two values
abbrev pub one_of : ℕ → ℕ → ℕ → Bool
one_of val0 val1 b = eqb b val0 || eqb b val1

-- `valid`: the address lies inside, and its byte is one of the two values
unfoldable pub app_valid : (addr val0 val1 : ℕ) → List ℕ → Bool
app_valid addr val0 val1 s = ltb addr (length s) && one_of val0 val1 (get_or s addr 0)

-- "any of: byte addr is val0; byte addr is val1"
abbrev pub app_rule : (addr val0 val1 : ℕ) → Rule
app_rule addr val0 val1 = group any (cons (clause (range addr val0 val0)) (cons (clause (range addr val1 val1)) nil))

-- The sheet of that rule. Edition, tag and count take 12 bits; the first clause lies across the bytes' edges, the second on them.
abbrev pub app_sheet : (addr val0 val1 : ℕ) → List ℕ
app_sheet addr val0 val1 =
    0x1C
    ∷ (0x20 + addr / 16384)
    ∷ (addr / 64 % 256)
    ∷ (addr % 64 * 4 + val0 / 64)
    ∷ (val0 % 64 * 4 + val0 / 64)
    ∷ (val0 % 64 * 4)
    ∷ (addr / 256)
    ∷ (addr % 256)
    ∷ val1
    ∷ val1
    ∷ []
