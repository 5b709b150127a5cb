-- Document 01's four sheets, read, written and judged; and the borders of each reason for refusal 5, one side and the other. One table, one proof:
-- antt computes the definitions of `Sheet` and `Format` on each row. Assumes nothing.
use mathlib.Core.Path.{◌≡◌, refl}
use mathlib.Core.List.{List, [], ◌∷◌, map}
use mathlib.Core.Option.{some}
use Prim.Native.Nat.{ℕ}
use lib.ListN.{replicate, set}
use Rattle.bits.specs.Bits.{field, read_field}
use Rattle.bits.specs.Binary.{binary, number_at, bytes_from, bytes_of}
use Rattle.sheet.specs.Sheet.{Rule, clause, group, nil, cons, range, same, all, any, clause_holds, empty_holds, join, holds, read_tagged, read_entry, read_members, read_rest, read_rule, read_edition, filling, read_filling, read_whole, read_sheet, well_formed, obeys, sheet_number}
use Rattle.sheet.specs.Format.{entry_bits, rule_bits, sheet_bits, sheet_of}
use Rattle.region.specs.Answer.{Answer, answer_number, done}
use Rattle.region.specs.declared.Refusal.TheVariants.{BadSheet, BrokenImage}
use Rattle.std.specs.Prelude.{Err}

-- "`18 00` always holds, `1C 00` never. `14 00 1C 00 20` says byte 7 = byte 8. `1C 20 00 0C 44 44 00 03 22 22` says byte 3 is 11 or 22 (hex)."
abbrev always : List ℕ
always = 0x18 ∷ 0x00 ∷ []

abbrev never : List ℕ
never = 0x1C ∷ 0x00 ∷ []

abbrev seven_is_eight : List ℕ
seven_is_eight = 0x14 ∷ 0x00 ∷ 0x1C ∷ 0x00 ∷ 0x20 ∷ []

abbrev three_is_11_or_22 : List ℕ
three_is_11_or_22 = 0x1C ∷ 0x20 ∷ 0x00 ∷ 0x0C ∷ 0x44 ∷ 0x44 ∷ 0x00 ∷ 0x03 ∷ 0x22 ∷ 0x22 ∷ []

abbrev the_four : List (List ℕ)
the_four = always ∷ never ∷ seven_is_eight ∷ three_is_11_or_22 ∷ []

abbrev their_rules : List Rule
their_rules =
    group all nil ∷ group any nil ∷ clause (same 7 8)
    ∷ group any (cons (clause (range 3 0x11 0x11)) (cons (clause (range 3 0x22 0x22)) nil)) ∷ []

the_four_are_read : map read_sheet the_four ≡ map some their_rules
unfolding field read_field read_tagged read_entry read_members read_rest read_rule read_edition filling read_filling read_whole read_sheet
the_four_are_read = refl

the_four_are_written : map sheet_of their_rules ≡ the_four
unfolding binary number_at bytes_from bytes_of entry_bits rule_bits sheet_bits sheet_of
the_four_are_written = refl

-- A sheet and an image, and what judging answers.
record Trial : Type 0 where
  sheet : List ℕ
  image : List ℕ
  answer : Answer

abbrev trial : List ℕ → List ℕ → Answer → Trial
trial s i j = record { sheet = s; image = i; answer = j }

abbrev trials : List Trial
trials =
    -- the four sheets
    trial always [] done ∷
    trial never (replicate 16 0) (Err BrokenImage) ∷
    trial seven_is_eight (replicate 16 0) done ∷
    trial seven_is_eight (set (replicate 16 0) 7 0xAA) (Err BrokenImage) ∷
    trial three_is_11_or_22 (set (replicate 4 0) 3 0x11) done ∷
    trial three_is_11_or_22 (set (replicate 4 0) 3 0x22) done ∷
    trial three_is_11_or_22 (set (replicate 4 0) 3 0x12) (Err BrokenImage) ∷
    -- an address at L, and one below it
    trial seven_is_eight (replicate 8 0) (Err BrokenImage) ∷
    trial seven_is_eight (replicate 9 0) done ∷
    trial three_is_11_or_22 (replicate 3 0) (Err BrokenImage) ∷
    -- a byte from 4 to 6: below, at each end, above; and low above high
    trial (0x10 ∷ 0x00 ∷ 0x00 ∷ 0x10 ∷ 0x18 ∷ []) (0x03 ∷ []) (Err BrokenImage) ∷
    trial (0x10 ∷ 0x00 ∷ 0x00 ∷ 0x10 ∷ 0x18 ∷ []) (0x04 ∷ []) done ∷
    trial (0x10 ∷ 0x00 ∷ 0x00 ∷ 0x10 ∷ 0x18 ∷ []) (0x06 ∷ []) done ∷
    trial (0x10 ∷ 0x00 ∷ 0x00 ∷ 0x10 ∷ 0x18 ∷ []) (0x07 ∷ []) (Err BrokenImage) ∷
    trial (0x10 ∷ 0x00 ∷ 0x00 ∷ 0x18 ∷ 0x10 ∷ []) (0x04 ∷ []) (Err BrokenImage) ∷
    trial (0x10 ∷ 0x00 ∷ 0x00 ∷ 0x18 ∷ 0x10 ∷ []) (0x05 ∷ []) (Err BrokenImage) ∷
    trial (0x10 ∷ 0x00 ∷ 0x00 ∷ 0x18 ∷ 0x10 ∷ []) (0x06 ∷ []) (Err BrokenImage) ∷
    -- empty, and cut short by a bit
    trial [] (replicate 16 0) (Err BadSheet) ∷
    trial (0x18 ∷ []) (replicate 16 0) (Err BadSheet) ∷
    trial (0x14 ∷ 0x00 ∷ 0x1C ∷ 0x00 ∷ []) (replicate 16 0) (Err BadSheet) ∷
    -- other editions
    trial (0x28 ∷ 0x00 ∷ []) (replicate 16 0) (Err BadSheet) ∷
    trial (0x08 ∷ 0x00 ∷ []) (replicate 16 0) (Err BadSheet) ∷
    -- each of the four filling bits set, and a byte too many
    trial (0x18 ∷ 0x01 ∷ []) (replicate 16 0) (Err BadSheet) ∷
    trial (0x18 ∷ 0x02 ∷ []) (replicate 16 0) (Err BadSheet) ∷
    trial (0x18 ∷ 0x04 ∷ []) (replicate 16 0) (Err BadSheet) ∷
    trial (0x18 ∷ 0x08 ∷ []) (replicate 16 0) (Err BadSheet) ∷
    trial (0x18 ∷ 0x00 ∷ 0x00 ∷ []) (replicate 16 0) (Err BadSheet) ∷
    -- eight levels, the last an empty group or a clause; nine
    trial (0x18 ∷ 0x18 ∷ 0x18 ∷ 0x18 ∷ 0x18 ∷ 0x18 ∷ 0x18 ∷ 0x18 ∷ 0x00 ∷ []) [] done ∷
    trial (0x18 ∷ 0x18 ∷ 0x18 ∷ 0x18 ∷ 0x18 ∷ 0x18 ∷ 0x18 ∷ 0x1C ∷ 0x00 ∷ []) [] (Err BrokenImage) ∷
    trial (0x18 ∷ 0x18 ∷ 0x18 ∷ 0x18 ∷ 0x18 ∷ 0x18 ∷ 0x18 ∷ 0x10 ∷ 0x00 ∷ 0x00 ∷ 0x00 ∷ 0x00 ∷ []) (0x00 ∷ []) done ∷
    trial (0x18 ∷ 0x18 ∷ 0x18 ∷ 0x18 ∷ 0x18 ∷ 0x18 ∷ 0x18 ∷ 0x10 ∷ 0x00 ∷ 0x00 ∷ 0x00 ∷ 0x00 ∷ []) (0x01 ∷ []) (Err BrokenImage) ∷
    trial (0x18 ∷ 0x18 ∷ 0x18 ∷ 0x18 ∷ 0x18 ∷ 0x18 ∷ 0x18 ∷ 0x18 ∷ 0x18 ∷ 0x00 ∷ []) [] (Err BadSheet) ∷
    trial (0x18 ∷ 0x18 ∷ 0x18 ∷ 0x18 ∷ 0x18 ∷ 0x18 ∷ 0x18 ∷ 0x18 ∷ 0x10 ∷ 0x00 ∷ 0x00 ∷ 0x00 ∷ 0x00 ∷ []) (0x00 ∷ []) (Err BadSheet) ∷
    -- a member that is malformed, after one that decides
    trial (0x1C ∷ 0x28 ∷ 0x00 ∷ []) [] (Err BadSheet) ∷
    trial (0x18 ∷ 0x2C ∷ 0x00 ∷ []) [] (Err BadSheet) ∷
    trial (0x1C ∷ 0x28 ∷ 0x0C ∷ 0x00 ∷ []) [] done ∷
    trial (0x18 ∷ 0x2C ∷ 0x08 ∷ 0x00 ∷ []) [] (Err BrokenImage) ∷
    []

judged_as_told : map (λ (t : Trial). sheet_number t.sheet t.image) trials ≡ map (λ (t : Trial). answer_number t.answer) trials
unfolding field clause_holds empty_holds join holds read_field read_tagged read_entry read_members read_rest read_rule read_edition filling read_filling read_whole read_sheet well_formed obeys
judged_as_told = refl
