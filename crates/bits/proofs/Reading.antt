-- Laws of the readers: when a field is there and when the bytes are cut short, and what holds of whatever readers one after the other get. Assumes nothing.
use mathlib.Core.Path.{◌≡◌, refl, sym, ap, ◌∙◌}
use mathlib.Core.Bool.{Bool, true, false}
use mathlib.Core.List.{List}
use Prim.Native.Nat.{ℕ, zero, suc, ◌+◌, ◌*◌, ◌^◌, ◌<◌, ◌≤◌}
use native.Mathlib.Omega.{arith}
use native.Mathlib.Numerals.{add-one}
use lib.Dec.{leb}
use lib.Pow.{pow-add}
use borrow.Author.Tests.{lt-leb, le-leb}
use Rattle.std.specs.Prelude.{Option, Some, None}
use Rattle.bits.specs.Bits.{bit_count, field, Found, malformed, got, on_got, only_if, read_field, taken}

-- A field.

pub field_cut : (n : ℕ) (s : List ℕ) (at : ℕ) → bit_count s < at + n → read_field n s at ≡ malformed
unfolding read_field
field_cut n s at h = rw (lt-leb (at + n) (bit_count s) h)

pub field_there : (n : ℕ) (s : List ℕ) (at : ℕ) → at + n ≤ bit_count s → read_field n s at ≡ got (field s at n) (at + n)
unfolding read_field
field_there n s at h = rw (le-leb (at + n) (bit_count s) h)

-- What was found, of what the code tells.

pub took : (n : ℕ) (s : List ℕ) (at : ℕ) {x y : Option ℕ} (next : ℕ) → taken x next ≡ read_field n s at → x ≡ y → read_field n s at ≡ taken y next
took n s at next told e = sym told ∙ ap (λ (o : Option ℕ). taken o next) e

-- two fields, and what is read after them
pub took_pair : {B : Type 0} (m n : ℕ) (s : List ℕ) (at : ℕ) (k : (first second next : ℕ) → Found B) (x y : Option ℕ) (behind end : ℕ)
    → taken x behind ≡ read_field m s at → taken y end ≡ read_field n s behind
    → on_got (read_field m s at) (λ a next. on_got (read_field n s next) (λ b last. k a b last))
    ≡ on_got (taken x behind) (λ a next. on_got (taken y end) (λ b last. k a b last))
took_pair m n s at k x y behind end first second =
    ap (λ (f : Found ℕ). on_got f (λ a next. on_got (read_field n s next) (λ b last. k a b last))) (sym first) ∙ go x
  where
    go : (o : Option ℕ) → on_got (taken o behind) (λ a next. on_got (read_field n s next) (λ b last. k a b last))
        ≡ on_got (taken o behind) (λ a next. on_got (taken y end) (λ b last. k a b last))
    go None = refl
    go (Some a) = ap (λ (f : Found ℕ). on_got f (λ b last. k a b last)) (sym second)

-- A field of n bits is below 2 ^ n.
pub field_lt : (s : List ℕ) (at n : ℕ) → field s at n < 2 ^ n
unfolding field
field_lt s at zero = omega arith
field_lt s at (suc n) =
    let double : 2 ^ suc n ≡ 2 ^ n * 2 = ap (λ (k : ℕ). 2 ^ k) (sym (add-one n)) ∙ pow-add 2 n 1 in
    omega (arith, double, field_lt s at n)

pub only_if_got : {A : Type 0} (b : Bool) (f : Found A) {a : A} {next : ℕ} → only_if b f ≡ got a next → (b ≡ true) × (f ≡ got a next)
only_if_got true f e = (refl, e)
only_if_got false f e = (cc, cc)

pub field_got_lt : (n : ℕ) (s : List ℕ) (at : ℕ) {v next : ℕ} → read_field n s at ≡ got v next → v < 2 ^ n
unfolding read_field
field_got_lt n s at {v} {next} e =
    let read : ◌≡◌ {A = Found ℕ} (got (field s at n) (at + n)) (got v next) = (only_if_got (leb (at + n) (bit_count s)) (got (field s at n) (at + n)) e).1 in
    let same_value : field s at n ≡ v = cc in
    rw same_value at (field_lt s at n)

-- What is got, if anything is, has P, with the place behind it.

abbrev pub Gets : {A : Type 0} → (A → ℕ → Type 0) → Found A → Type 0
Gets P malformed = Unit
Gets P (got a next) = P a next

pub then_gets : {A B : Type 0} (P : A → ℕ → Type 0) (Q : B → ℕ → Type 0) (f : Found A) (g : A → ℕ → Found B)
    → Gets P f → ((a : A) (next : ℕ) → P a next → Gets Q (g a next)) → Gets Q (on_got f g)
then_gets P Q malformed g p q = tt
then_gets P Q (got a next) g p q = q a next p

pub gets_as : {A : Type 0} (P : A → ℕ → Type 0) (f : Found A) → ((a : A) (next : ℕ) → f ≡ got a next → P a next) → Gets P f
gets_as P malformed p = tt
gets_as P (got a next) p = p a next refl

pub only_if_gets : {A : Type 0} (P : A → ℕ → Type 0) (b : Bool) (f : Found A) → (b ≡ true → Gets P f) → Gets P (only_if b f)
only_if_gets P true f p = p refl
only_if_gets P false f p = tt
