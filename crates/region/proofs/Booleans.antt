-- Tests put together and taken apart. Assumes nothing.
use mathlib.Core.Path.{◌≡◌, refl, ap, ◌∙◌}
use mathlib.Core.Bool.{Bool, true, false, cond, ◌&&◌, false≢true}

pub and_when : (a b : Bool) → a ≡ true → (a && b) ≡ b
and_when a b e = ap (λ (t : Bool). t && b) e

pub and_unless : (a b : Bool) → a ≡ false → (a && b) ≡ false
and_unless a b e = ap (λ (t : Bool). t && b) e

pub cond_when {ℓ} : {A : Type ℓ} (t : Bool) (x y : A) → t ≡ true → cond t x y ≡ x
cond_when t x y e = ap (λ (b : Bool). cond b x y) e

pub cond_unless {ℓ} : {A : Type ℓ} (t : Bool) (x y : A) → t ≡ false → cond t x y ≡ y
cond_unless t x y e = ap (λ (b : Bool). cond b x y) e

-- a conjunction's two halves
pub both : (a b : Bool) → (a && b) ≡ true → (a ≡ true) × (b ≡ true)
both true b e = (refl, e)
both false b e = absurd (false≢true e)

pub both_true : {a b : Bool} → a ≡ true → b ≡ true → (a && b) ≡ true
both_true {a} {b} e f = and_when a b e ∙ f
