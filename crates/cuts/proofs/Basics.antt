-- Small facts that the laws of cuts share: a list's tail, and a byte that a write covers. Assumes nothing.
use Prim.Native.Nat.{ℕ, zero, suc, ◌/◌, ◌<◌}
use mathlib.Core.Path.{◌≡◌, refl}
use mathlib.Core.Bool.{true}
use mathlib.Core.List.{List, [], ◌∷◌}
use lib.ListN.{length, get_or, drop}
use Rattle.pieces.specs.AsyncSpec.{Write}
use Rattle.pieces.proofs.Touched.{byte_is_touched}
use Rattle.cuts.specs.Bits.{covers, touches_chunk}

pub get_or_tail {ℓ} : {A : Type ℓ} (l : List A) (j : ℕ) (d : A) → get_or (drop 1 l) j d ≡ get_or l (suc j) d
get_or_tail [] zero d = refl
get_or_tail [] (suc j) d = refl
get_or_tail (a ∷ l) j d = refl

-- a byte that a write covers lies in a chunk that it touches
pub covered_is_touched : (C : ℕ) → 0 < C → (w : Write) (i : ℕ) → covers w i ≡ true → touches_chunk C w (i / C) ≡ true
covered_is_touched C C⁺ w i e = byte_is_touched C C⁺ w.addr (length w.bytes) i e
