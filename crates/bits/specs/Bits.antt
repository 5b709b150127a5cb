-- The bits of bytes, most significant first, and readers that go over them from a bit position. Nothing here says what the bytes are for.
use Rattle.std.specs.Prelude.{ℕ, zero, suc, ◌+◌, ◌-◌, ◌*◌, ◌/◌, ◌%◌, ◌^◌, Bool, true, false, List, Option, Some, None, leb, length, get_or}

abbrev pub byte_bits : ℕ
byte_bits = 8

-- The widest field that is taken in one go.
abbrev pub max_width : ℕ
max_width = 16

-- Bit i of a list of bytes, 0 past its end.
abbrev pub bit : List ℕ → ℕ → ℕ
bit s i = get_or s (i / byte_bits) 0 / 2 ^ (byte_bits - 1 - i % byte_bits) % 2

-- The number whose n bits stand at a bit position.
unfoldable pub field : (bytes : List ℕ) (at n : ℕ) → ℕ
field s at zero = 0
field s at (suc n) = field s at n * 2 + bit s (at + n)

abbrev pub bit_count : List ℕ → ℕ
bit_count s = byte_bits * length s

-- A reader has got something and stands after it, or the bytes are malformed.
pub data Found (A : Type 0) : Type 0 where
  malformed : Found A
  got : A → (next : ℕ) → Found A

abbrev pub Reader : Type 0 → Type 0
Reader A = List ℕ → ℕ → Found A

abbrev pub on_got : {A B : Type 0} → Found A → (A → ℕ → Found B) → Found B
on_got malformed f = malformed
on_got (got a next) f = f a next

infixl 10 ◌>>=◌
-- One reader, and then another from where the first one stands.
abbrev pub ◌>>=◌ : {A B : Type 0} → Reader A → (A → Reader B) → Reader B
◌>>=◌ first second s at = on_got (first s at) (λ a next. second a s next)

abbrev pub give : {A : Type 0} → A → Reader A
give a s at = got a at

abbrev pub only_if : {A : Type 0} → Bool → Found A → Found A
only_if true f = f
only_if false f = malformed

-- A field of n bits. Bytes that are cut short have not got it.
unfoldable pub read_field : ℕ → Reader ℕ
read_field n s at = only_if (leb (at + n) (bit_count s)) (got (field s at n) (at + n))

-- What the code has found: its answer, and where it stands after it.
abbrev pub taken : {A : Type 0} → Option A → (next : ℕ) → Found A
taken None next = malformed
taken (Some a) next = got a next
