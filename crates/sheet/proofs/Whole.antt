-- A whole sheet, by the stages in which it is read: its length, its edition, its rule, its filling. Assumes nothing.
use mathlib.Core.Path.{◌≡◌, refl, ap, ◌∙◌}
use mathlib.Core.Bool.{Bool, true, false}
use mathlib.Core.List.{List}
use mathlib.Core.Option.{Option as Maybe, none, some}
use Rattle.std.specs.Prelude.{Option, Some, None}
use Rattle.std.specs.Bool.{then_some}
use Rattle.region.specs.Answer.{unless}
use Prim.Native.Nat.{ℕ, ◌-◌, ◌<◌, ◌≤◌}
use native.Mathlib.Omega.{arith}
use lib.Dec.{eqb}
use lib.ListN.{length}
use borrow.Author.Tests.{lt-leb, le-leb, lt-ltb, le-ltb, eq-eqb, ne_eqb}
use Rattle.bits.specs.Bits.{byte_bits, bit_count, field, Found, malformed, got, on_got, only_if, read_field}
use Rattle.sheet.specs.Sheet.{max_bytes, max_depth, edition_bits, the_edition, Rule, holds, read_rule, read_edition, filling, read_filling, read_whole, rule_of, read_sheet, well_formed, obeys, allows, sheet_number}
use Rattle.sheet.specs.Inner.{rule_truth, judged}
use Rattle.sheet.proofs.Judging.{truth_malformed, truth_good}

-- The filling.

module _ (s : List ℕ) (at : ℕ) where
  pub nothing_left : bit_count s ≤ at → filling s at ≡ true
  unfolding filling field
  nothing_left h = let e : bit_count s - at ≡ 0 = omega arith in rw e

  pub much_left : byte_bits ≤ bit_count s - at → filling s at ≡ false
  unfolding filling
  much_left h = rw (le-ltb (bit_count s - at) byte_bits h)

  pub little_left : bit_count s - at < byte_bits → filling s at ≡ eqb (field s at (bit_count s - at)) 0
  unfolding filling
  little_left h = rw (lt-ltb (bit_count s - at) byte_bits h)

-- The stages.

module _ (s image : List ℕ) where
  none_judged : read_sheet s ≡ none → judged s image ≡ None
  unfolding judged well_formed obeys
  none_judged e = rw e

  pub too_long : max_bytes < length s → judged s image ≡ None
  unfolding read_sheet
  too_long h = none_judged (rw (lt-leb (length s) max_bytes h))

  module _ (short : length s ≤ max_bytes) where
    sheet_is : read_sheet s ≡ rule_of (read_whole s 0)
    unfolding read_sheet
    sheet_is = rw (le-leb (length s) max_bytes short)

    pub no_edition : read_field edition_bits s 0 ≡ malformed → judged s image ≡ None
    unfolding read_whole
    no_edition e = none_judged (sheet_is ∙ rw e)

    module _ {edition at : ℕ} (read : read_field edition_bits s 0 ≡ got edition at) where
      pub other_edition : (edition ≡ the_edition → ⊥) → judged s image ≡ None
      unfolding read_whole read_edition
      other_edition h = none_judged (sheet_is ∙ rw (read, ne_eqb edition the_edition h))

      -- what is left to be said once the rule is read
      abbrev rest : Found Rule → Maybe Rule
      rest f = rule_of (on_got f (λ r end. only_if (filling s end) (got r end)))

      rule_is : edition ≡ the_edition → read_sheet s ≡ rest (read_rule max_depth s at)
      unfolding read_whole read_edition read_filling
      rule_is h = sheet_is ∙ rw (read, eq-eqb edition the_edition h)

      pub no_rule : edition ≡ the_edition → malformed ≡ rule_truth image (read_rule max_depth s at) → judged s image ≡ None
      no_rule h e = none_judged (rule_is h ∙ rw (truth_malformed image (read_rule max_depth s at) e))

      by_filling : (r : Rule) (end : ℕ) (b : Bool) → filling s end ≡ b → read_sheet s ≡ rest (got r end) → judged s image ≡ then_some b (holds r image image)
      unfolding judged well_formed obeys
      by_filling r end true f whole = let e : read_sheet s ≡ some r = whole ∙ rw f in rw e
      by_filling r end false f whole = none_judged (whole ∙ rw f)

      pub one_rule : {end : ℕ} {h : Bool} → edition ≡ the_edition → got h end ≡ rule_truth image (read_rule max_depth s at)
          → judged s image ≡ then_some (filling s end) h
      one_rule {end} {h} good e =
          let g = truth_good image (read_rule max_depth s at) e in
          by_filling g.0 end (filling s end) refl (rule_is good ∙ ap rest g.1) ∙ ap (λ (b : Bool). then_some (filling s end) b) g.2

-- The number of what is judged.

abbrev pub judged_number : Option Bool → ℕ
judged_number None = 5
judged_number (Some true) = 0
judged_number (Some false) = 6

pub number_of_judged : (s image : List ℕ) {o : Option Bool} → o ≡ judged s image → judged_number o ≡ sheet_number s image
unfolding judged
number_of_judged s image e = ap judged_number e ∙ go (well_formed s) (allows s image)
  where
    go : (formed obeyed : Bool) → judged_number (then_some formed obeyed) ≡ unless formed 5 (unless obeyed 6 0)
    go false obeyed = refl
    go true true = refl
    go true false = refl
