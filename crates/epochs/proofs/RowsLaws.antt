-- Rows go by the bytes that they lie in, wherever these stand, and one row more lies behind those before it. Assumes nothing.
use Prim.Native.Nat.{ℕ, zero, suc, ◌+◌, ◌-◌, ◌*◌, ◌/◌, ◌%◌, ◌^◌, ◌<◌}
use native.Mathlib.Nat.{add_assoc, suc-mul}
use native.Mathlib.Omega.{arith}
use mathlib.Core.Path.{◌≡◌, refl, ap, ap₂, ◌∙◌}
use mathlib.Core.Bool.{Bool, ◌&&◌}
use mathlib.Core.List.{List, [], ◌∷◌, ◌++◌}
use lib.Dec.{eqb}
use lib.ListN.{get_or}
use Rattle.region.proofs.Tab.{agree_tab}
use Rattle.pieces.specs.Rows.{byte_bits, row_bytes, row_bit, row_at, rows_at, row_filled, rows_filled}
use Rattle.pieces.proofs.ByteBits.{set_bits_agree}

-- the n bytes of t from `at` on are those of t' from at' on
abbrev pub SameBytes : (n : ℕ) (t : List ℕ) (at : ℕ) (t' : List ℕ) (at' : ℕ) → Type 0
SameBytes n t at t' at' = (i : ℕ) → i < n → get_or t (at + i) 0 ≡ get_or t' (at' + i) 0

pub rows_agree : (K n : ℕ) (t : List ℕ) (at : ℕ) (t' : List ℕ) (at' : ℕ) → SameBytes (n * row_bytes K) t at t' at'
    → (rows_at K n t at ≡ rows_at K n t' at') × (rows_filled K n t at ≡ rows_filled K n t' at')
unfolding rows_at rows_filled row_at row_filled
rows_agree K zero t at t' at' e = (refl, refl)
rows_agree K (suc n) t at t' at' e =
    let more = suc-mul n (row_bytes K) in
    let bits : (c : ℕ) → c < row_bytes K * byte_bits → row_bit t at c ≡ row_bit t' at' c
    = λ c h. ap (λ (x : ℕ). eqb (x / 2 ^ (byte_bits - 1 - c % byte_bits) % 2) 1) (e (c / byte_bits) (omega arith)) in
    let later = rows_agree K n t (at + row_bytes K) t' (at' + row_bytes K) (λ i h. rw (add_assoc, add_assoc) (e (row_bytes K + i) (omega arith))) in (
      ap₂ (◌∷◌) (agree_tab _ _ K (λ c h. bits c (omega arith))) later.0,
      ap₂ (◌&&◌) (ap (λ (k : ℕ). eqb k 0) (set_bits_agree _ _ K _ (λ c l h. bits c (omega arith)))) later.1,
    )

-- the last of n + 1 rows lies behind the n rows before it
pub rows_at_last : (K n : ℕ) (table : List ℕ) (at : ℕ) → rows_at K (suc n) table at ≡ rows_at K n table at ++ (row_at K table (at + n * row_bytes K) ∷ [])
unfolding rows_at
rows_at_last K zero table at = ap (λ (i : ℕ). row_at K table i ∷ []) (omega arith)
rows_at_last K (suc n) table at =
    ap (λ (rows : List (List Bool)). row_at K table at ∷ rows)
    (rows_at_last K n table (at + row_bytes K)
    ∙ ap (λ (i : ℕ). rows_at K n table (at + row_bytes K) ++ (row_at K table i ∷ [])) (omega (arith, suc-mul n (row_bytes K))))
