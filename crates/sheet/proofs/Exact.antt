-- A sheet is read as a rule exactly if it is the rule written out, within the limits. Assumes nothing.
use mathlib.Core.Path.{◌≡◌, refl, sym, ap, ◌∙◌, subst}
use mathlib.Core.Logic.{◌↔◌}
use mathlib.Core.Bool.{true, false}
use mathlib.Core.List.{List, [], ◌++◌}
use mathlib.Core.Option.{Option, none, some}
use Prim.Native.Nat.{ℕ, zero, suc, ◌+◌, ◌-◌, ◌^◌, ◌<◌, ◌≤◌}
use native.Mathlib.Decide.{dec_lt}
use native.Mathlib.Omega.{arith}
use lib.Dec.{leb, eqb, lit<}
use lib.ListN.{length, replicate}
use lib.Pow.{pow_pos}
use borrow.Author.Tests.{leb-true, eqb-true, le-leb}
use Rattle.bits.specs.Bits.{byte_bits, bit_count, field, Found, malformed, got, on_got, only_if, Reader, read_field}
use Rattle.bits.specs.Binary.{binary}
use Rattle.bits.proofs.Reading.{Gets, then_gets, gets_as, only_if_gets}
use Rattle.bits.proofs.Spelled.{Spelled, ends, spelled_in, spelled_append, spelled_split, field_is_spelled, spelled_is_field, field_exactly, bits_exactly, binary_zero}
use Rattle.sheet.specs.Sheet.{max_bytes, max_depth, edition_bits, the_edition, tag_bits, address_bits, count_bits, range, same, Kind, all, any, Entry, one, many, Rule, clause, group, Rules, nil, cons, depth, deepest, read_tagged, read_entry, read_members, read_rest, read_rule, read_edition, filling, read_filling, read_whole, rule_of, read_sheet, is_rule, well_formed}
use Rattle.sheet.specs.Format.{entry_bits, EntrySayable, member_count, rule_bits, members_bits, EntriesSayable, MembersSayable, sheet_bits, Says}
use Rattle.sheet.proofs.Depth.{read_is_shallow}
use Rattle.sheet.proofs.Whole.{much_left, little_left}

module _ (s : List ℕ) where
  -- A field, an entry, members and a rule stand there, written out.

  abbrev FieldAt : (at n : ℕ) → ℕ → ℕ → Type 0
  FieldAt at n v next = (v < 2 ^ n) × Spelled s at (binary n v) next

  abbrev EntryAt : (at : ℕ) → Entry → ℕ → Type 0
  EntryAt at e next = EntrySayable e × Spelled s at (entry_bits e) next

  abbrev MembersAt : (at n : ℕ) → Rules → ℕ → Type 0
  MembersAt at n ms next = (member_count ms ≡ n) × MembersSayable ms × Spelled s at (members_bits ms) next

  abbrev RuleAt : (at : ℕ) → Rule → ℕ → Type 0
  RuleAt at r next = EntriesSayable r × Spelled s at (rule_bits r) next

  -- the next field, and what is read behind it
  then_field : {B : Type 0} (Q : B → ℕ → Type 0) (at n : ℕ) (g : ℕ → ℕ → Found B) → ((v next : ℕ) → FieldAt at n v next → Gets Q (g v next))
      → Gets Q (on_got (read_field n s at) g)
  then_field Q at n g q =
      then_gets (FieldAt at n) Q (read_field n s at) g (gets_as (FieldAt at n) (read_field n s at) (λ v next e. (field_exactly s n at).0 e)) q

  -- From reading to bits.

  tagged_there : (tag at mid : ℕ) → FieldAt at tag_bits tag mid → Gets (EntryAt at) (read_tagged tag s mid)
  unfolding read_tagged entry_bits EntrySayable
  tagged_there zero at mid t =
      then_field (EntryAt at) mid address_bits _ λ a m p.
      then_field (EntryAt at) m byte_bits _ λ low k q.
      then_field (EntryAt at) k byte_bits _ λ high end o.
      ((p.0, q.0, o.0), spelled_append s t.1 (spelled_append s p.1 (spelled_append s q.1 o.1)))
  tagged_there (suc zero) at mid t =
      then_field (EntryAt at) mid address_bits _ λ a m p.
      then_field (EntryAt at) m address_bits _ λ b end q.
      ((p.0, q.0), spelled_append s t.1 (spelled_append s p.1 q.1))
  tagged_there (suc (suc zero)) at mid t =
      then_field (EntryAt at) mid count_bits _ λ n end p. (p.0, spelled_append s t.1 p.1)
  tagged_there (suc (suc (suc zero))) at mid t =
      then_field (EntryAt at) mid count_bits _ λ n end p. (p.0, spelled_append s t.1 p.1)
  tagged_there (suc (suc (suc (suc tag)))) at mid t = absurd (omega (arith, t.0))

  entry_there : (at : ℕ) → Gets (EntryAt at) (read_entry s at)
  unfolding read_entry
  entry_there at = then_field (EntryAt at) at tag_bits _ λ tag mid t. tagged_there tag at mid t

  members_there : (member : Reader Rule) → ((at : ℕ) → Gets (RuleAt at) (member s at)) → (n at : ℕ) → at ≤ bit_count s
      → Gets (MembersAt at n) (read_members n member s at)
  unfolding read_members members_bits MembersSayable
  members_there member there zero at h = (refl, tt, ends {at = at} h)
  members_there member there (suc n) at h =
      then_gets (RuleAt at) (MembersAt at (suc n)) (member s at) _ (there at) λ r mid p.
      then_gets (MembersAt mid n) (MembersAt at (suc n)) (read_members n member s mid) _
      (members_there member there n mid (spelled_in s p.1).1) λ ms end q.
      (ap suc q.0, (p.0, q.1), spelled_append s p.1 q.2)

  rest_there : (member : Reader Rule) → ((at : ℕ) → Gets (RuleAt at) (member s at)) → (e : Entry) (at mid : ℕ) → EntryAt at e mid
      → Gets (RuleAt at) (read_rest member e s mid)
  unfolding read_rest rule_bits EntriesSayable
  rest_there member there (one c) at mid p = p
  rest_there member there (many k n) at mid p =
      then_gets (MembersAt mid n) (RuleAt at) (read_members n member s mid) _ (members_there member there n mid (spelled_in s p.1).1) λ ms end q.
      let head : EntryAt at (many k (member_count ms)) mid = rw q.0 p in
      ((head.0, q.1), spelled_append s head.1 q.2)

  rule_there : (levels at : ℕ) → Gets (RuleAt at) (read_rule levels s at)
  unfolding read_rule
  rule_there zero at = tt
  rule_there (suc levels) at =
      then_gets (EntryAt at) (RuleAt at) (read_entry s at) _ (entry_there at) λ e mid p. rest_there (read_rule levels) (rule_there levels) e at mid p

  -- From bits to reading.

  field_back : (n : ℕ) {v at next : ℕ} → v < 2 ^ n → Spelled s at (binary n v) next → read_field n s at ≡ got v next
  field_back n {at = at} h p = (field_exactly s n at).1 (h, p)

  group_back : (k : Kind) (n at next : ℕ) → EntryAt at (many k n) next → read_entry s at ≡ got (many k n) next
  unfolding read_entry read_tagged entry_bits EntrySayable
  group_back all n at next p =
      let t = spelled_split s (binary tag_bits 0b10) (binary count_bits n) p.1 in
      rw (field_back tag_bits (lit< tt) t.1, field_back count_bits p.0 t.2)
  group_back any n at next p =
      let t = spelled_split s (binary tag_bits 0b11) (binary count_bits n) p.1 in
      rw (field_back tag_bits (lit< tt) t.1, field_back count_bits p.0 t.2)

  entry_back : (e : Entry) (at next : ℕ) → EntryAt at e next → read_entry s at ≡ got e next
  unfolding read_entry read_tagged entry_bits EntrySayable
  entry_back (one (range a low high)) at next p =
      let t = spelled_split s (binary tag_bits 0b00) (binary address_bits a ++ (binary byte_bits low ++ binary byte_bits high)) p.1 in
      let q = spelled_split s (binary address_bits a) (binary byte_bits low ++ binary byte_bits high) t.2 in
      let o = spelled_split s (binary byte_bits low) (binary byte_bits high) q.2 in
      let last = field_back byte_bits p.0.2 o.2 in
      rw (field_back tag_bits (lit< tt) t.1, field_back address_bits p.0.0 q.1, field_back byte_bits p.0.1 o.1, last)
  entry_back (one (same a b)) at next p =
      let t = spelled_split s (binary tag_bits 0b01) (binary address_bits a ++ binary address_bits b) p.1 in
      let q = spelled_split s (binary address_bits a) (binary address_bits b) t.2 in
      rw (field_back tag_bits (lit< tt) t.1, field_back address_bits p.0.0 q.1, field_back address_bits p.0.1 q.2)
  entry_back (many k n) at next p = group_back k n at next p

  nothing_between : {at next : ℕ} → Spelled s at [] next → at ≡ next
  nothing_between (ends h) = refl

  mutual
    unfolding depth read_rule read_rest read_members rule_bits EntriesSayable

    rule_back : (r : Rule) (levels at next : ℕ) → depth r ≤ levels → RuleAt at r next → read_rule levels s at ≡ got r next
    rule_back (clause c) zero at next d p = absurd (omega arith)
    rule_back (clause c) (suc levels) at next d p = rw (entry_back (one c) at next p)
    rule_back (group k ms) zero at next d p = absurd (omega arith)
    rule_back (group k ms) (suc levels) at next d p =
        let q = spelled_split s (entry_bits (many k (member_count ms))) (members_bits ms) p.1 in
        rw (entry_back (many k (member_count ms)) at q.0 (p.0.0, q.1), members_back ms levels q.0 next (omega arith) p.0.1 q.2)

    members_back : (ms : Rules) (levels at next : ℕ) → deepest ms ≤ levels → MembersSayable ms → Spelled s at (members_bits ms) next
        → read_members (member_count ms) (read_rule levels) s at ≡ got ms next
    members_back nil levels at next d ok p = ap (got nil) (nothing_between p)
    members_back (cons r rs) levels at next d ok p =
        let q = spelled_split s (rule_bits r) (members_bits rs) p in
        rw (rule_back r levels at q.0 (omega arith) (ok.0, q.1), members_back rs levels q.0 next (omega arith) ok.1 q.2)

  -- The filling.

  abbrev ZerosAt : ℕ → Type 0
  ZerosAt at = (zeros : ℕ) × (zeros < byte_bits) × Spelled s at (replicate zeros 0) (bit_count s)

  filling_there : (at : ℕ) → at ≤ bit_count s → filling s at ≡ true → ZerosAt at
  filling_there at h e = go (dec_lt (bit_count s - at) byte_bits)
    where
      go : Dec (bit_count s - at < byte_bits) → ZerosAt at
      go (yes few) =
          let n : ℕ = bit_count s - at in
          let none_set : field s at n ≡ 0 = eqb-true (field s at n) 0 (sym (little_left s at few) ∙ e) in
          let end : at + n ≡ bit_count s = omega arith in
          (n, few, rw (none_set, end, binary_zero n) at (field_is_spelled s n at (omega arith)))
      go (no many_left) =
          let denied : filling s at ≡ false = much_left s at (omega arith) in
          absurd (let z : ◌≡◌ {A = ℕ} 0 1 = cc in omega arith)

  filling_back : (at : ℕ) → ZerosAt at → filling s at ≡ true
  filling_back at z =
      let there : Spelled s at (binary z.0 0) (bit_count s) = rw (binary_zero z.0) z.2 in
      let f = spelled_is_field s z.0 0 at (bit_count s) (pow_pos z.0) there in
      let left : bit_count s - at ≡ z.0 = omega (arith, f.1) in
      little_left s at (rw left z.1) ∙ rw (left, f.0)

  -- The whole sheet.

  -- a rule of the edition, within the levels
  abbrev RuleOf : (edition at : ℕ) → Rule → ℕ → Type 0
  RuleOf edition at r next = (edition ≡ the_edition) × (depth r ≤ max_depth) × RuleAt at r next

  edition_there : (edition at : ℕ) → Gets (RuleOf edition at) (read_edition edition s at)
  unfolding read_edition
  edition_there edition at =
      only_if_gets (RuleOf edition at) (eqb edition the_edition) (read_rule max_depth s at) λ first.
      gets_as (RuleOf edition at) (read_rule max_depth s at) λ r next read.
      (eqb-true edition the_edition first, read_is_shallow s max_depth at read, subst (Gets (RuleAt at)) read (rule_there max_depth at))

  whole_there : length s ≤ max_bytes → Gets (λ r next. Says s r) (read_whole s 0)
  unfolding read_whole read_filling sheet_bits
  whole_there short =
      then_field (λ r next. Says s r) 0 edition_bits _ λ edition start t.
      then_gets (RuleOf edition start) (λ r next. Says s r) (read_edition edition s start) _ (edition_there edition start) λ r end p.
      only_if_gets (λ q next. Says s q) (filling s end) (got r end) λ filled.
      let z = filling_there end (spelled_in s p.2.1).1 filled in
      let first : Spelled s 0 (binary edition_bits the_edition) start = rw p.0 at t.1 in
      let there : Spelled s 0 (sheet_bits r ++ replicate z.0 0) (bit_count s) = spelled_append s (spelled_append s first p.2.1) z.2 in
      record {
        sayable = record { in_fields = p.2.0; shallow = p.1 };
        short = short;
        zeros = z.0;
        few = z.1;
        written = (bits_exactly s (sheet_bits r ++ replicate z.0 0)).0 there;
      }

  says_there : {r : Rule} → read_sheet s ≡ some r → Says s r
  unfolding read_sheet
  says_there =
      some_gets (only_if (leb (length s) max_bytes) (read_whole s 0))
      (only_if_gets (λ r next. Says s r) (leb (length s) max_bytes) (read_whole s 0) (λ h. whole_there (leb-true (length s) max_bytes h)))
    where
      some_gets : (f : Found Rule) {r : Rule} → Gets (λ q next. Says s q) f → rule_of f ≡ some r → Says s r
      some_gets malformed p e = absurd (let z : ◌≡◌ {A = ℕ} 0 1 = cc in omega arith)
      some_gets (got q next) {r} p e = let same_rule : q ≡ r = cc in subst (Says s) same_rule p

  says_back : {r : Rule} → Says s r → read_sheet s ≡ some r
  unfolding read_sheet read_whole read_edition read_filling sheet_bits
  says_back {r} w =
      let z = spelled_split s (sheet_bits r) (replicate w.zeros 0) ((bits_exactly s (sheet_bits r ++ replicate w.zeros 0)).1 w.written) in
      let t = spelled_split s (binary edition_bits the_edition) (rule_bits r) z.1 in
      rw (
        le-leb (length s) max_bytes w.short,
        field_back edition_bits (lit< tt) t.1,
        rule_back r max_depth t.0 z.0 w.sayable.shallow (w.sayable.in_fields, t.2),
        filling_back z.0 (w.zeros, w.few, z.2),
      )

-- A sheet is read as a rule exactly if it says it.
pub reads_exactly : (s : List ℕ) {r : Rule} → (read_sheet s ≡ some r) ↔ Says s r
reads_exactly s = (says_there s, says_back s)

-- It is well-formed exactly if there is a rule that it says.
pub formed_exactly : (s : List ℕ) → (well_formed s ≡ true) ↔ ((r : Rule) × Says s r)
unfolding well_formed
formed_exactly s = (λ e. there (read_sheet s) refl e, λ w. rw ((reads_exactly s).1 w.1))
  where
    there : (f : Option Rule) → read_sheet s ≡ f → is_rule f ≡ true → (r : Rule) × Says s r
    there none read e = absurd (let z : ◌≡◌ {A = ℕ} 0 1 = cc in omega arith)
    there (some r) read e = (r, (reads_exactly s).0 read)
