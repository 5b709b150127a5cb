-- What a caller of `judge` learns. The answer is malformed by the sheet alone, and otherwise obeys or breaks as the sheet's rule says; a
-- sheet of edition 1 doesn't look at the image before. Assumes nothing.
use Prim.Native.Nat.{ℕ, ◌≤◌, ◌<◌}
use native.Mathlib.Decide.{dec_le}
use native.Mathlib.Omega.{arith}
use mathlib.Core.Path.{◌≡◌, refl, sym, ap, ◌∙◌}
use mathlib.Core.Bool.{Bool, true, false, ◌&&◌}
use mathlib.Core.List.{List}
use mathlib.Core.Option.{Option, none, some}
use lib.Dec.{leb, ltb}
use lib.ListN.{length, get_or}
use borrow.Author.Tests.{le-leb, lt-leb}
use Rattle.region.specs.Answer.{Answer, answer_number, done, unless}
use Rattle.region.specs.declared.Refusal.TheVariants.{BadSheet, BrokenImage}
use Rattle.region.proofs.AnswerLaws.{refusal_not_done}
use Rattle.std.specs.Prelude.{Ok, Err, is_ok}
use Rattle.sheet.specs.Sheet.{Clause, range, same, Rule, clause, group, Rules, nil, cons, Kind, clause_holds, join, holds, members_hold, read_sheet, well_formed, obeys, allows, rule_holds, is_rule, sheet_number}

-- A sheet of edition 1 looks at the image after alone.

unseen_by_clause : (c : Clause) (before other after : List ℕ) → clause_holds c before after ≡ clause_holds c other after
unfolding clause_holds
unseen_by_clause (range a low high) before other after = refl
unseen_by_clause (same a b) before other after = refl

mutual
  unfolding holds

  unseen_by_rule : (r : Rule) (before other after : List ℕ) → holds r before after ≡ holds r other after
  unseen_by_rule (clause c) before other after = unseen_by_clause c before other after
  unseen_by_rule (group k ms) before other after = unseen_by_members ms k before other after

  unseen_by_members : (ms : Rules) (k : Kind) (before other after : List ℕ) → members_hold ms k before after ≡ members_hold ms k other after
  unseen_by_members nil k before other after = refl
  unseen_by_members (cons r rs) k before other after =
      ap (λ (h : Bool). join k h (members_hold rs k before after)) (unseen_by_rule r before other after)
      ∙ ap (join k (holds r other after)) (unseen_by_members rs k before other after)

pub before_unseen : (s before other after : List ℕ) → obeys s before after ≡ obeys s other after
unfolding obeys
before_unseen s before other after = go (read_sheet s)
  where
    go : (r : Option Rule) → rule_holds r before after ≡ rule_holds r other after
    go none = refl
    go (some r) = unseen_by_rule r before other after

-- The answer, from its number. Each is stated for any image before, so the one that `judge` compares with itself never shows.

abbrev by_tests : (formed obeyed : Bool) → ℕ
by_tests formed obeyed = unless formed 5 (unless obeyed 6 0)

module _ (s image : List ℕ) where
  unseen : (before : List ℕ) → sheet_number s image ≡ by_tests (well_formed s) (obeys s before image)
  unseen before = ap (by_tests (well_formed s)) (before_unseen s image before image)

  module _ {r : Answer} (told : answer_number r ≡ sheet_number s image) where
    pub told_malformed : r ≡ Err BadSheet → well_formed s ≡ false
    told_malformed is = go (well_formed s) (allows s image) (sym (ap answer_number is) ∙ told)
      where
        go : (formed obeyed : Bool) → answer_number (Err BadSheet) ≡ by_tests formed obeyed → formed ≡ false
        go false obeyed e = refl
        go true true e = absurd (omega (arith, e))
        go true false e = absurd (omega (arith, e))

    pub told_obeys : r ≡ done → (before : List ℕ) → (well_formed s ≡ true) × (obeys s before image ≡ true)
    told_obeys is before = go (well_formed s) (obeys s before image) (sym (ap answer_number is) ∙ told ∙ unseen before)
      where
        go : (formed obeyed : Bool) → answer_number done ≡ by_tests formed obeyed → (formed ≡ true) × (obeyed ≡ true)
        go false obeyed e = absurd (omega (arith, e))
        go true true e = (refl, refl)
        go true false e = absurd (omega (arith, e))

    pub told_breaks : r ≡ Err BrokenImage → (before : List ℕ) → (well_formed s ≡ true) × (obeys s before image ≡ false)
    told_breaks is before = go (well_formed s) (obeys s before image) (sym (ap answer_number is) ∙ told ∙ unseen before)
      where
        go : (formed obeyed : Bool) → answer_number (Err BrokenImage) ≡ by_tests formed obeyed → (formed ≡ true) × (obeyed ≡ false)
        go false obeyed e = absurd (omega (arith, e))
        go true true e = absurd (omega (arith, e))
        go true false e = (refl, refl)

-- What is obeyed is well-formed, and what is malformed nothing obeys.
pub obeyed_is_formed : (s before after : List ℕ) → obeys s before after ≡ true → well_formed s ≡ true
unfolding obeys well_formed
obeyed_is_formed s before after = go (read_sheet s)
  where
    go : (r : Option Rule) → rule_holds r before after ≡ true → is_rule r ≡ true
    go none e = cc
    go (some r) e = refl

pub malformed_is_not_obeyed : (s before after : List ℕ) → well_formed s ≡ false → obeys s before after ≡ false
unfolding obeys well_formed
malformed_is_not_obeyed s before after = go (read_sheet s)
  where
    go : (r : Option Rule) → is_rule r ≡ false → rule_holds r before after ≡ false
    go none e = refl
    go (some r) e = cc

-- "With low above high it is never true."
pub low_above_high : (a low high : ℕ) (before after : List ℕ) → high < low → clause_holds (range a low high) before after ≡ false
unfolding clause_holds
low_above_high a low high before after h = go (ltb a (length after)) (dec_le low (get_or after a 0))
  where
    go : (inside : Bool) → Dec (low ≤ get_or after a 0) → inside && (leb low (get_or after a 0) && leb (get_or after a 0) high) ≡ false
    go false d = refl
    go true (yes above) = rw (le-leb low (get_or after a 0) above) (lt-leb (get_or after a 0) high (omega arith))
    go true (no below) = rw (lt-leb low (get_or after a 0) (omega arith))

-- The answer is Ok exactly if the image obeys the sheet.
pub told_ok : (s image : List ℕ) (r : Answer) → answer_number r ≡ sheet_number s image → (before : List ℕ) → is_ok r ≡ obeys s before image
told_ok s image r told before =
    go r (well_formed s) (obeys s before image) (malformed_is_not_obeyed s before image) (told ∙ unseen s image before)
  where
    go : (r : Answer) (formed obeyed : Bool) → (formed ≡ false → obeyed ≡ false) → answer_number r ≡ by_tests formed obeyed → is_ok r ≡ obeyed
    go (Ok unit) false obeyed unobeyed e = absurd (omega (arith, e))
    go (Ok unit) true true unobeyed e = refl
    go (Ok unit) true false unobeyed e = absurd (omega (arith, e))
    go (Err why) false obeyed unobeyed e = sym (unobeyed refl)
    go (Err why) true true unobeyed e = absurd (omega (arith, e, refusal_not_done why))
    go (Err why) true false unobeyed e = refl
