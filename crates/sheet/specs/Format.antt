-- What a sheet is: the way from a rule to its bits, as document 01 writes it, "most significant bit first". `Sheet` has the way back;
-- `proofs/Exact.antt` says that it is just that.
use Rattle.std.specs.Prelude.{ℕ, suc, ◌^◌, ◌<◌, ◌≤◌, ◌≡◌, List, [], ◌++◌, length, replicate}
use Rattle.bits.specs.Bits.{byte_bits}
use Rattle.bits.specs.Binary.{binary, bits_of, bytes_of}
use Rattle.sheet.specs.Sheet.{max_bytes, max_depth, edition_bits, the_edition, tag_bits, address_bits, count_bits, range, same, Kind, all, any, Entry, one, many, Rule, clause, group, Rules, nil, cons, depth}

-- "A rule starts with a 2-bit tag."
abbrev pub tagged : (tag : ℕ) (fields : List ℕ) → List ℕ
tagged tag fields = binary tag_bits tag ++ fields

abbrev pub group_tag : Kind → ℕ
group_tag all = 0b10
group_tag any = 0b11

-- "00: address (16), low (8), high (8) .. 01: two addresses (16 each) .. 10: member count (6) .. 11: the same"
unfoldable pub entry_bits : Entry → List ℕ
entry_bits (one (range address low high)) = tagged 0b00 (binary address_bits address ++ (binary byte_bits low ++ binary byte_bits high))
entry_bits (one (same first second)) = tagged 0b01 (binary address_bits first ++ binary address_bits second)
entry_bits (many k count) = tagged (group_tag k) (binary count_bits count)

-- An entry that can be said: each of its numbers has room in its field.
unfoldable pub EntrySayable : Entry → Type 0
EntrySayable (one (range address low high)) = (address < 2 ^ address_bits) × (low < 2 ^ byte_bits) × (high < 2 ^ byte_bits)
EntrySayable (one (same first second)) = (first < 2 ^ address_bits) × (second < 2 ^ address_bits)
EntrySayable (many k count) = count < 2 ^ count_bits

abbrev pub member_count : Rules → ℕ
member_count nil = 0
member_count (cons r rs) = suc (member_count rs)

-- A clause is its entry; a group is its entry, and behind it its members.
unfoldable mutual
  pub rule_bits : Rule → List ℕ
  rule_bits (clause c) = entry_bits (one c)
  rule_bits (group k ms) = entry_bits (many k (member_count ms)) ++ members_bits ms

  pub members_bits : Rules → List ℕ
  members_bits nil = []
  members_bits (cons r rs) = rule_bits r ++ members_bits rs

unfoldable mutual
  pub EntriesSayable : Rule → Type 0
  EntriesSayable (clause c) = EntrySayable (one c)
  EntriesSayable (group k ms) = EntrySayable (many k (member_count ms)) × MembersSayable ms

  pub MembersSayable : Rules → Type 0
  MembersSayable nil = Unit
  MembersSayable (cons r rs) = EntriesSayable r × MembersSayable rs

-- A rule that a sheet can say.
pub record Sayable (r : Rule) : Type 0 where
  -- every number in its field
  pub in_fields : EntriesSayable r
  -- "at most 8"
  pub shallow : depth r ≤ max_depth

-- "edition (4 bits, 1), one rule"
unfoldable pub sheet_bits : Rule → List ℕ
sheet_bits r = binary edition_bits the_edition ++ rule_bits r

-- The bytes say the rule.
pub record Says (sheet : List ℕ) (r : Rule) : Type 0 where
  pub sayable : Sayable r
  -- "A sheet has at most 512 bytes."
  pub short : length sheet ≤ max_bytes
  -- "then fewer than 8 zero bits to the byte's end"
  pub zeros : ℕ
  pub few : zeros < byte_bits
  pub written : bits_of sheet ≡ sheet_bits r ++ replicate zeros 0

-- The rule's sheet.
unfoldable pub sheet_of : Rule → List ℕ
sheet_of r = bytes_of (sheet_bits r)
