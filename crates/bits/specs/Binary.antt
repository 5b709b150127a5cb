-- Numbers and bytes written out as bits, each 0 or 1, the most significant first, and bits packed into bytes. No reader has a part in it.
use Rattle.std.specs.Prelude.{ℕ, zero, suc, ◌+◌, ◌-◌, ◌*◌, ◌/◌, ◌%◌, ◌^◌, ◌<◌, List, [], ◌∷◌, ◌++◌, length, get_or}
use Rattle.bits.specs.Bits.{byte_bits}

-- A number's lowest n bits.
unfoldable pub binary : (n value : ℕ) → List ℕ
binary zero v = []
binary (suc n) v = binary n (v / 2) ++ (v % 2 ∷ [])

-- The bits of bytes, in order.
unfoldable pub bits_of : (bytes : List ℕ) → List ℕ
bits_of [] = []
bits_of (b ∷ bs) = binary byte_bits b ++ bits_of bs

-- The number that the n bits from `at` on make. Past the end of the list each is 0.
unfoldable pub number_at : (bits : List ℕ) (at n : ℕ) → ℕ
number_at xs at zero = 0
number_at xs at (suc n) = number_at xs at n * 2 + get_or xs (at + n) 0

-- n bytes of these bits, from byte i on
unfoldable pub bytes_from : (bits : List ℕ) (i n : ℕ) → List ℕ
bytes_from xs i zero = []
bytes_from xs i (suc n) = number_at xs (byte_bits * i) byte_bits ∷ bytes_from xs (suc i) n

-- Bits packed into bytes, the last one filled with zero bits.
unfoldable pub bytes_of : (bits : List ℕ) → List ℕ
bytes_of xs = bytes_from xs 0 ((length xs + (byte_bits - 1)) / byte_bits)

-- every entry is a byte
abbrev pub AreBytes : List ℕ → Type 0
AreBytes s = (i : ℕ) → get_or s i 0 < 2 ^ byte_bits

-- every entry is 0 or 1
abbrev pub AreBits : List ℕ → Type 0
AreBits xs = (i : ℕ) → get_or xs i 0 < 2
