-- Bytes say a rule exactly if they are the rule's own sheet, so that equal rules mean equal bytes and different rules different ones.
-- Assumes nothing.
use mathlib.Core.Path.{◌≡◌, refl, sym, ap, ◌∙◌}
use mathlib.Core.Logic.{◌↔◌}
use mathlib.Core.List.{List, ◌++◌}
use mathlib.Core.Option.{Option, some}
use Prim.Native.Nat.{ℕ, ◌≤◌}
use lib.Dec.{lit<}
use lib.ListN.{length}
use Rattle.bits.specs.Bits.{byte_bits}
use Rattle.bits.specs.Binary.{binary, bytes_of, AreBytes, AreBits}
use Rattle.bits.proofs.Packing.{bits_append, binary_bits, bytes_of_are_bytes, packed_exactly}
use Rattle.sheet.specs.Sheet.{max_bytes, edition_bits, the_edition, tag_bits, address_bits, count_bits, range, same, Entry, one, many, Rule, clause, group, Rules, nil, cons, read_sheet}
use Rattle.sheet.specs.Format.{group_tag, entry_bits, member_count, rule_bits, members_bits, Sayable, sheet_bits, sheet_of}
use Rattle.sheet.proofs.Exact.{reads_exactly}

-- What is written out are bits.

-- a field, and what stands behind it
field_before : (n v : ℕ) (ys : List ℕ) → AreBits ys → AreBits (binary n v ++ ys)
field_before n v ys b = bits_append (binary n v) ys (binary_bits n v) b

pair_are_bits : (n v m w : ℕ) → AreBits (binary n v ++ binary m w)
pair_are_bits n v m w = field_before n v (binary m w) (binary_bits m w)

entry_are_bits : (e : Entry) → AreBits (entry_bits e)
unfolding entry_bits
entry_are_bits (one (range a low high)) =
    let ends : List ℕ = binary byte_bits low ++ binary byte_bits high in
    field_before tag_bits 0b00 (binary address_bits a ++ ends) (field_before address_bits a ends (pair_are_bits byte_bits low byte_bits high))
entry_are_bits (one (same a b)) = field_before tag_bits 0b01 (binary address_bits a ++ binary address_bits b) (pair_are_bits address_bits a address_bits b)
entry_are_bits (many k n) = pair_are_bits tag_bits (group_tag k) count_bits n

mutual
  unfolding rule_bits

  rule_are_bits : (r : Rule) → AreBits (rule_bits r)
  rule_are_bits (clause c) = entry_are_bits (one c)
  rule_are_bits (group k ms) =
      bits_append (entry_bits (many k (member_count ms))) (members_bits ms) (entry_are_bits (many k (member_count ms))) (members_are_bits ms)

  members_are_bits : (ms : Rules) → AreBits (members_bits ms)
  members_are_bits nil = λ i. lit< tt
  members_are_bits (cons r rs) = bits_append (rule_bits r) (members_bits rs) (rule_are_bits r) (members_are_bits rs)

sheet_are_bits : (r : Rule) → AreBits (sheet_bits r)
unfolding sheet_bits
sheet_are_bits r = field_before edition_bits the_edition (rule_bits r) (rule_are_bits r)

-- Its own sheet is in bytes.
pub sheet_of_are_bytes : (r : Rule) → AreBytes (sheet_of r)
unfolding sheet_of
sheet_of_are_bytes r = bytes_of_are_bytes (sheet_bits r) (sheet_are_bits r)

-- Bytes are read as a rule exactly if a sheet can say it, and they are its sheet, and short enough.
pub own_exactly : (s : List ℕ) {r : Rule} → AreBytes s → (read_sheet s ≡ some r) ↔ (Sayable r × (length s ≤ max_bytes) × (s ≡ sheet_of r))
unfolding sheet_of
own_exactly s {r} bytes = (there, back)
  where
    there : read_sheet s ≡ some r → Sayable r × (length s ≤ max_bytes) × (s ≡ bytes_of (sheet_bits r))
    there e =
        let w = (reads_exactly s).0 e in
        (w.sayable, w.short, (packed_exactly s (sheet_bits r) bytes (sheet_are_bits r)).0 (w.zeros, w.few, w.written))

    back : Sayable r × (length s ≤ max_bytes) × (s ≡ bytes_of (sheet_bits r)) → read_sheet s ≡ some r
    back p =
        let z = (packed_exactly s (sheet_bits r) bytes (sheet_are_bits r)).1 p.2 in
        (reads_exactly s).1 (record { sayable = p.0; short = p.1; zeros = z.0; few = z.1; written = z.2 })

-- A rule's own sheet says it.
pub own_is_read : (r : Rule) → Sayable r → length (sheet_of r) ≤ max_bytes → read_sheet (sheet_of r) ≡ some r
own_is_read r sayable short = (own_exactly (sheet_of r) (sheet_of_are_bytes r)).1 (sayable, short, refl)

-- Of two sheets, the rules are equal exactly if the bytes are.
pub equal_rules_equal_bytes : (s t : List ℕ) {q r : Rule} → AreBytes s → AreBytes t → read_sheet s ≡ some q → read_sheet t ≡ some r → (q ≡ r) ↔ (s ≡ t)
equal_rules_equal_bytes s t {q} {r} bs bt es et = (there, λ e. one_rule (sym es ∙ ap read_sheet e ∙ et))
  where
    there : q ≡ r → s ≡ t
    there e = ((own_exactly s bs).0 es).2 ∙ ap sheet_of e ∙ sym ((own_exactly t bt).0 et).2

    one_rule : ◌≡◌ {A = Option Rule} (some q) (some r) → q ≡ r
    one_rule e = cc
