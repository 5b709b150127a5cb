-- The scheme of a pin. A promise says what the answer's report is, its number with its values, and what is left, each as one function of the inputs; and a
-- report settles its answer. So any two outcomes that the promise allows are one. Assumes nothing.
use mathlib.Core.Path.{◌≡◌, sym, ◌∙◌}

-- a promise of an answer and of what is left leaves no choice
abbrev pub Pinned : {A L : Type 0} → (A → L → Type 0) → Type 0
Pinned {A} {L} Promise = (a b : A) (l k : L) → Promise a l → Promise b k → ◌≡◌ {A = A × L} (a, l) (b, k)

pub same : {A : Type 0} {x y z : A} → x ≡ z → y ≡ z → x ≡ y
same p q = p ∙ sym q

pub pin : {A R L : Type 0} (report : A → R) → ((a b : A) → report a ≡ report b → a ≡ b) → {Promise : A → L → Type 0} {told : R} {left : L}
    → ((a : A) (l : L) → Promise a l → report a ≡ told) → ((a : A) (l : L) → Promise a l → l ≡ left) → Pinned Promise
pin report settles answers leaves a b l k p q = λ i. (settles a b (same (answers a l p) (answers b k q)) i, same (leaves a l p) (leaves b k q) i)
