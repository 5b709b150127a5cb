-- The rule sheet of document 01: its rules, how it is read and what an image must be to obey it.
-- A sheet is a list of bytes, "bit-packed, most significant bit first". Reading it needs no image, so whether a sheet is well-formed can't
-- depend on one.
use Rattle.std.specs.Prelude.{ℕ, zero, suc, ◌-◌, max, Bool, true, false, ◌&&◌, ◌||◌, List, leb, ltb, eqb, length, get_or}
use Rattle.std.proofs.Math.Option.{Option, none, some}
use Rattle.region.specs.Answer.{unless}
use Rattle.bits.specs.Bits.{byte_bits, bit_count, field, Found, malformed, got, Reader, ◌>>=◌, give, only_if, read_field}

-- The numbers of the format, each once.

-- "A sheet has at most 512 bytes."
abbrev pub max_bytes : ℕ
max_bytes = 512

-- "Depth: .. at most 8."
abbrev pub max_depth : ℕ
max_depth = 8

-- "edition (4 bits, 1)"
abbrev pub edition_bits : ℕ
edition_bits = 4

abbrev pub the_edition : ℕ
the_edition = 1

-- "A rule starts with a 2-bit tag."
abbrev pub tag_bits : ℕ
tag_bits = 2

-- "address (16)"
abbrev pub address_bits : ℕ
address_bits = 16

-- "member count (6)"
abbrev pub count_bits : ℕ
count_bits = 6

-- A clause: "that byte is from low to high", "the two bytes are equal".
pub data Clause : Type 0 where
  range : (address low high : ℕ) → Clause
  same : (first second : ℕ) → Clause

-- A group: "all hold", "any holds".
pub data Kind : Type 0 where
  all any : Kind

-- A rule is a tree: a clause, or a group of member rules.
mutual
  pub data Rule : Type 0 where
    clause : Clause → Rule
    group : Kind → Rules → Rule

  pub data Rules : Type 0 where
    nil : Rules
    cons : Rule → Rules → Rules

-- "An address at or past L makes a clause false.", L being the length of the image.
-- "With low above high it is never true", since no byte is between.
-- The clauses of edition 1 look at the image after alone.
unfoldable pub clause_holds : Clause → (before after : List ℕ) → Bool
clause_holds (range a low high) before after = ltb a (length after) && (leb low (get_or after a 0) && leb (get_or after a 0) high)
clause_holds (same a b) before after = (ltb a (length after) && ltb b (length after)) && eqb (get_or after a 0) (get_or after b 0)

-- "Empty 10 is true, empty 11 false."
unfoldable pub empty_holds : Kind → Bool
empty_holds all = true
empty_holds any = false

-- "all hold", "any holds": two truths of a group as one.
unfoldable pub join : Kind → Bool → Bool → Bool
join all a b = a && b
join any a b = a || b

-- Whether a rule holds of a pair of images, the one before and the one after. A later edition has a clause that looks at both.
unfoldable mutual
  pub holds : Rule → (before after : List ℕ) → Bool
  holds (clause c) before after = clause_holds c before after
  holds (group k ms) before after = members_hold ms k before after

  pub members_hold : Rules → Kind → (before after : List ℕ) → Bool
  members_hold nil k before after = empty_holds k
  members_hold (cons r rs) k before after = join k (holds r before after) (members_hold rs k before after)

-- "Depth: a clause or empty group is 1, another group 1 + its deepest member". Reading counts levels instead, which is the same:
-- `proofs/Depth.antt` has `levels_are_depth`.
unfoldable mutual
  pub depth : Rule → ℕ
  depth (clause c) = 1
  depth (group k ms) = suc (deepest ms)

  pub deepest : Rules → ℕ
  deepest nil = 0
  deepest (cons r rs) = max (depth r) (deepest rs)

-- What stands before a rule's members: a whole clause, or a group's kind and member count.
pub data Entry : Type 0 where
  one : Clause → Entry
  many : Kind → (count : ℕ) → Entry

-- "00: address (16), low (8), high (8)"
abbrev pub read_range : Reader Entry
read_range = do
  address ← read_field address_bits
  low ← read_field byte_bits
  high ← read_field byte_bits
  give (one (range address low high))

-- "01: two addresses (16 each)"
abbrev pub read_same : Reader Entry
read_same = do
  first ← read_field address_bits
  second ← read_field address_bits
  give (one (same first second))

-- "10: member count (6), members: all hold. 11: the same, any holds."
abbrev pub read_many : Kind → Reader Entry
read_many k = do
  count ← read_field count_bits
  give (many k count)

abbrev pub if_tag : Bool → Reader Entry → Reader Entry → Reader Entry
if_tag true then other = then
if_tag false then other = other

-- The tags, as document 01 lists them.
unfoldable pub read_tagged : ℕ → Reader Entry
read_tagged tag =
    if_tag (eqb tag 0b00) read_range
    (if_tag (eqb tag 0b01) read_same
    (if_tag (eqb tag 0b10) (read_many all)
    (if_tag (eqb tag 0b11) (read_many any) (λ s at. malformed))))

-- "A rule starts with a 2-bit tag."
unfoldable pub read_entry : Reader Entry
read_entry = read_field tag_bits >>= read_tagged

-- As many members as the count says, one after the other.
unfoldable pub read_members : ℕ → Reader Rule → Reader Rules
read_members zero member = give nil
read_members (suc n) member = do
  r ← member
  rs ← read_members n member
  give (cons r rs)

-- What follows the entry: nothing after a clause, after a group's its members.
unfoldable pub read_rest : Reader Rule → Entry → Reader Rule
read_rest member (one c) = give (clause c)
read_rest member (many k count) = do
  ms ← read_members count member
  give (group k ms)

-- A rule of at most so many levels. On the last one a group can have no members.
unfoldable pub read_rule : (levels : ℕ) → Reader Rule
read_rule zero = λ s at. malformed
read_rule (suc levels) = read_entry >>= read_rest (read_rule levels)

-- Each edition has its rules; there is one edition.
unfoldable pub read_edition : ℕ → Reader Rule
read_edition e s at = only_if (eqb e the_edition) (read_rule max_depth s at)

-- "then fewer than 8 zero bits to the byte's end"
unfoldable pub filling : List ℕ → ℕ → Bool
filling s at = ltb (bit_count s - at) byte_bits && eqb (field s at (bit_count s - at)) 0

unfoldable pub read_filling : Rule → Reader Rule
read_filling r s at = only_if (filling s at) (got r at)

-- "edition (4 bits, 1), one rule, then" the filling
unfoldable pub read_whole : Reader Rule
read_whole = do
  e ← read_field edition_bits
  r ← read_edition e
  read_filling r

abbrev pub rule_of : Found Rule → Option Rule
rule_of malformed = none
rule_of (got r next) = some r

-- The rule that a sheet says. There is none where it is "empty, too long, other edition, cut short, too deep, bad filling".
unfoldable pub read_sheet : List ℕ → Option Rule
read_sheet s = rule_of (only_if (leb (length s) max_bytes) (read_whole s 0))

abbrev pub is_rule : Option Rule → Bool
is_rule none = false
is_rule (some r) = true

-- A sheet that says a rule. No image has a part in it.
unfoldable pub well_formed : List ℕ → Bool
well_formed s = is_rule (read_sheet s)

abbrev pub rule_holds : Option Rule → (before after : List ℕ) → Bool
rule_holds none before after = false
rule_holds (some r) before after = holds r before after

-- The sheet says a rule, and it holds: `permits` of power_t.rs and power_v.rs, where the predicate is ghost.
unfoldable pub obeys : List ℕ → (before after : List ℕ) → Bool
obeys s before after = rule_holds (read_sheet s) before after

-- An image that the sheet allows is one that obeys it, compared with itself: an opening asks this, and edition 1 never more.
abbrev pub allows : (sheet image : List ℕ) → Bool
allows s image = obeys s image image

-- What judging one image by a sheet answers. No image has a part in 5.
abbrev pub sheet_number : (sheet image : List ℕ) → ℕ
sheet_number s image =
    unless (well_formed s) 5
    (unless (allows s image) 6
    0)
