-- The viewer's promise settles the part. Assumes nothing.
use Prim.Native.Nat.{ℕ}
use mathlib.Core.Path.{◌≡◌, sym, ap₂, ◌∙◌}
use mathlib.Core.List.{List}
use denote.Ref.{Bor}
use Rattle.region.specs.Viewer.{Viewed}

-- Two parts that the promise allows lie in one place and have the same bytes. What is left is the ghost name, which no machine has.
pub viewed_once : (image : Bor (List ℕ)) (addr len : ℕ) (part other : Bor (List ℕ)) → Viewed image addr len part → Viewed image addr len other
    → (part.ref_ptr ≡ other.ref_ptr) × (part.now ≡ other.now)
viewed_once image addr len part other v w =
    (ap₂ (λ block offset. (block, offset)) (v.block ∙ sym w.block) (v.offset ∙ sym w.offset), v.bytes ∙ sym w.bytes)
