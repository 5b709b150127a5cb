-- What a rule and a group come to once their parts are judged: the laws that the cycle of `judge_rule` and `judge_members` rests on.
-- Assumes nothing.
use mathlib.Core.Path.{◌≡◌, refl, sym, ap, ◌∙◌}
use mathlib.Core.Bool.{Bool, true, false}
use mathlib.Core.List.{List}
use Prim.Native.Nat.{ℕ, suc, ◌-◌, ◌<◌}
use native.Mathlib.Omega.{arith}
use Rattle.std.specs.Prelude.{Option, Some}
use Rattle.bits.specs.Bits.{Found, malformed, got, on_got, Reader, taken}
use Rattle.sheet.specs.Sheet.{Clause, Kind, all, any, Entry, one, many, Rule, Rules, group, cons, empty_holds, join, clause_holds, holds, members_hold, read_entry, read_members, read_rest, read_rule}
use Rattle.sheet.specs.Inner.{rule_truth, group_truth}

-- What a truth says of the rule that was read.

pub truth_malformed : (image : List ℕ) (f : Found Rule) → malformed ≡ rule_truth image f → f ≡ malformed
truth_malformed image malformed e = refl
truth_malformed image (got r next) e = cc

pub truth_good : (image : List ℕ) (f : Found Rule) {next : ℕ} {h : Bool} → got h next ≡ rule_truth image f
    → (r : Rule) × (f ≡ got r next) × (holds r image image ≡ h)
truth_good image malformed e = absurd cc
truth_good image (got r end) e = (r, cc, cc)

pub step_good : (image : List ℕ) (f : Found Rule) {x : Option Bool} (next : ℕ) {h : Bool} → taken x next ≡ rule_truth image f → x ≡ Some h
    → (r : Rule) × (f ≡ got r next) × (holds r image image ≡ h)
step_good image f next told e = truth_good image f (rw e at told)

-- A rule, by its entry.

module _ (image s : List ℕ) (at : ℕ) where
  pub no_levels : {levels : ℕ} → levels ≡ 0 → malformed ≡ rule_truth image (read_rule levels s at)
  unfolding read_rule
  no_levels e = rw e

  module _ {levels d : ℕ} (deeper : suc d ≡ levels) where
    by_entry : Found Entry → Found Bool
    by_entry f = rule_truth image (on_got f (λ e next. read_rest (read_rule d) e s next))

    entered : {f : Found Entry} → f ≡ read_entry s at → by_entry f ≡ rule_truth image (read_rule levels s at)
    unfolding read_rule by_entry
    entered e = rw (sym deeper, e)

    pub no_entry : malformed ≡ read_entry s at → malformed ≡ rule_truth image (read_rule levels s at)
    unfolding by_entry
    no_entry e = entered e

    pub one_clause : {c : Clause} {next : ℕ} → got (one c) next ≡ read_entry s at
        → got (clause_holds c image image) next ≡ rule_truth image (read_rule levels s at)
    unfolding by_entry read_rest holds
    one_clause e = entered e

    grouped : (k : Kind) (f : Found Rules) → group_truth k image f ≡ rule_truth image (on_got f (λ ms next. got (group k ms) next))
    unfolding holds
    grouped k malformed = refl
    grouped k (got ms next) = refl

    pub many_members : {k : Kind} {n next : ℕ} → got (many k n) next ≡ read_entry s at
        → group_truth k image (read_members n (read_rule d) s next) ≡ rule_truth image (read_rule levels s at)
    unfolding by_entry read_rest
    many_members {k} {n} {next} e = grouped k (read_members n (read_rule d) s next) ∙ entered e

-- A group, by its members from the first on.

-- what is to be answered where the members so far come to acc, and these are left
abbrev pub left_truth : Kind → (image : List ℕ) → Bool → Found Rules → Found Bool
left_truth k image acc malformed = malformed
left_truth k image acc (got ms next) = got (join k acc (members_hold ms k image image)) next

pub nothing_joined : (k : Kind) (image : List ℕ) (f : Found Rules) → left_truth k image (empty_holds k) f ≡ group_truth k image f
unfolding join empty_holds
nothing_joined k image malformed = refl
nothing_joined all image (got ms next) = refl
nothing_joined any image (got ms next) = refl

join_empty : (k : Kind) (acc : Bool) → join k acc (empty_holds k) ≡ acc
unfolding join empty_holds
join_empty all true = refl
join_empty all false = refl
join_empty any true = refl
join_empty any false = refl

join_assoc : (k : Kind) (a b c : Bool) → join k a (join k b c) ≡ join k (join k a b) c
unfolding join
join_assoc all true b c = refl
join_assoc all false b c = refl
join_assoc any true b c = refl
join_assoc any false b c = refl

-- What is left comes to `whole`: each law says what comes to it then, when no member is left, and after the next member.
module _ (k : Kind) (image : List ℕ) (member : Reader Rule) (s : List ℕ) where
  pub none_left : (acc : Bool) (at : ℕ) {left : ℕ} {whole : Found Bool} → left ≡ 0 → left_truth k image acc (read_members left member s at) ≡ whole
      → got acc at ≡ whole
  unfolding read_members members_hold
  none_left acc at {left} e invariant =
      let empty : left_truth k image acc (read_members left member s at) ≡ got acc at = rw (e, join_empty) in
      sym empty ∙ invariant

  first_told : (acc : Bool) (r : Rule) (f : Found Rules)
      → left_truth k image acc (on_got f (λ ms next. got (cons r ms) next)) ≡ left_truth k image (join k acc (holds r image image)) f
  unfolding holds
  first_told acc r malformed = refl
  first_told acc r (got ms next) = ap (λ (b : Bool). got b next) (join_assoc k acc (holds r image image) (members_hold ms k image image))

  -- what is to be answered, by the member that comes first
  abbrev from_member : Bool → ℕ → Found Rule → Found Bool
  from_member acc n f = left_truth k image acc (on_got f (λ r next. on_got (read_members n member s next) (λ ms end. got (cons r ms) end)))

  one_of : (acc : Bool) (at : ℕ) {left : ℕ} → 0 < left → left_truth k image acc (read_members left member s at) ≡ from_member acc (left - 1) (member s at)
  unfolding read_members
  one_of acc at {left} some =
      let e : left ≡ suc (left - 1) = omega arith in
      ap (λ (n : ℕ). left_truth k image acc (read_members n member s at)) e

  module _ (acc : Bool) (at : ℕ) {left : ℕ} {whole : Found Bool} (some : 0 < left)
      (invariant : left_truth k image acc (read_members left member s at) ≡ whole) where
    pub member_malformed : malformed ≡ rule_truth image (member s at) → malformed ≡ whole
    member_malformed e = sym (one_of acc at some ∙ rw (truth_malformed image (member s at) e)) ∙ invariant

    pub member_judged : {next : ℕ} {h : Bool} → got h next ≡ rule_truth image (member s at)
        → left_truth k image (join k acc h) (read_members (left - 1) member s next) ≡ whole
    member_judged {next} e =
        let g = truth_good image (member s at) e in
        let others : Found Rules = read_members (left - 1) member s next in
        sym (one_of acc at some ∙ ap (from_member acc (left - 1)) g.1 ∙ first_told acc g.0 others
        ∙ ap (λ (b : Bool). left_truth k image (join k acc b) others) g.2)
        ∙ invariant
