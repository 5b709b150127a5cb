-- The levels of a reader are document 01's depth, exactly: what a reader of d levels reads is at most d deep, and whatever a reader of more
-- levels reads that is at most d deep, a reader of d levels reads too. Assumes nothing.
use mathlib.Core.Path.{◌≡◌, refl, ◌∙◌, subst}
use mathlib.Core.Logic.{◌↔◌}
use mathlib.Core.List.{List}
use Prim.Native.Nat.{ℕ, zero, suc, ◌≤◌}
use native.Mathlib.Omega.{arith}
use Rattle.bits.specs.Bits.{Found, malformed, got, on_got, Reader}
use Rattle.bits.proofs.Reading.{Gets, then_gets, gets_as}
use Rattle.sheet.specs.Sheet.{Rule, clause, group, Rules, cons, depth, deepest, Entry, one, many, read_entry, read_members, read_rest, read_rule}

module _ (s : List ℕ) where
  shallow_members : (d : ℕ) (member : Reader Rule) → ((at : ℕ) → Gets (λ r next. depth r ≤ d) (member s at))
      → (n at : ℕ) → Gets (λ ms next. deepest ms ≤ d) (read_members n member s at)
  unfolding read_members depth
  shallow_members d member shallow zero at = omega arith
  shallow_members d member shallow (suc n) at =
      then_gets (λ r next. depth r ≤ d) (λ ms next. deepest ms ≤ d) (member s at) _ (shallow at) λ r next p.
      then_gets (λ ms next. deepest ms ≤ d) (λ ms next. deepest ms ≤ d) (read_members n member s next) _ (shallow_members d member shallow n next) λ ms end q.
      omega arith

  shallow_rest : (d : ℕ) (member : Reader Rule) → ((at : ℕ) → Gets (λ r next. depth r ≤ d) (member s at))
      → (e : Entry) (at : ℕ) → Gets (λ r next. depth r ≤ suc d) (read_rest member e s at)
  unfolding read_rest depth
  shallow_rest d member shallow (one c) at = omega arith
  shallow_rest d member shallow (many k n) at =
      then_gets (λ ms next. deepest ms ≤ d) (λ r next. depth r ≤ suc d) (read_members n member s at) _ (shallow_members d member shallow n at) λ ms end p.
      omega arith

  shallow : (d at : ℕ) → Gets (λ r next. depth r ≤ d) (read_rule d s at)
  unfolding read_rule
  shallow zero at = tt
  shallow (suc d) at =
      then_gets (λ e next. Unit) (λ r next. depth r ≤ suc d) (read_entry s at) _ (gets_as (λ e next. Unit) (read_entry s at) (λ e next read. tt)) λ e next p.
      shallow_rest d (read_rule d) (shallow d) e next

pub read_is_shallow : (s : List ℕ) (d at : ℕ) {r : Rule} {next : ℕ} → read_rule d s at ≡ got r next → depth r ≤ d
read_is_shallow s d at e = subst (Gets (λ r next. depth r ≤ d)) e (shallow s d at)

-- The other way round: g has what f has, if that is at most d by a measure.
abbrev Keeps : {A : Type 0} (measure : A → ℕ) (d : ℕ) (f g : Found A) → Type 0
Keeps m d malformed g = Unit
Keeps m d (got a next) g = m a ≤ d → g ≡ got a next

module _ (s : List ℕ) where
  keeps_members : (d : ℕ) (member fewer : Reader Rule) → ((at : ℕ) → Keeps depth d (member s at) (fewer s at))
      → (n at : ℕ) → Keeps deepest d (read_members n member s at) (read_members n fewer s at)
  unfolding read_members depth
  keeps_members d member fewer keeps zero at = λ h. refl
  keeps_members d member fewer keeps (suc n) at = first (member s at) (keeps at) (keeps_members d member fewer keeps n)
    where
      others : (r : Rule) (next : ℕ) (f : Found Rules) → (depth r ≤ d → fewer s at ≡ got r next) → Keeps deepest d f (read_members n fewer s next)
          → Keeps deepest d (on_got f (λ ms end. got (cons r ms) end)) (read_members (suc n) fewer s at)
      others r next malformed p q = tt
      others r next (got ms end) p q = λ h. rw (p (omega arith), q (omega arith))

      first : (f : Found Rule) → Keeps depth d f (fewer s at) → ((next : ℕ) → Keeps deepest d (read_members n member s next) (read_members n fewer s next))
          → Keeps deepest d (on_got f (λ r next. on_got (read_members n member s next) (λ ms end. got (cons r ms) end))) (read_members (suc n) fewer s at)
      first malformed p q = tt
      first (got r next) p q = others r next (read_members n member s next) p (q next)

  -- a rule whose entry is read, with its members
  keeps_rest : (d : ℕ) (member fewer : Reader Rule) → ((at : ℕ) → Keeps depth d (member s at) (fewer s at))
      → (f : Found Entry) → Keeps depth (suc d) (on_got f (λ e next. read_rest member e s next)) (on_got f (λ e next. read_rest fewer e s next))
  unfolding read_rest depth
  keeps_rest d member fewer keeps malformed = tt
  keeps_rest d member fewer keeps (got (one c) next) = λ h. refl
  keeps_rest d member fewer keeps (got (many k n) next) = grouped (read_members n member s next) (keeps_members d member fewer keeps n next)
    where
      grouped : (f : Found Rules) → Keeps deepest d f (read_members n fewer s next)
          → Keeps depth (suc d) (on_got f (λ ms end. got (group k ms) end)) (on_got (read_members n fewer s next) (λ ms end. got (group k ms) end))
      grouped malformed p = tt
      grouped (got ms end) p = λ h. rw (p (omega arith))

  deep_enough : (more d at : ℕ) → Keeps depth d (read_rule more s at) (read_rule d s at)
  unfolding read_rule depth
  deep_enough zero d at = tt
  deep_enough (suc more) zero at = none_so_shallow (read_rule (suc more) s at)
    where
      none_so_shallow : (f : Found Rule) → Keeps depth 0 f malformed
      none_so_shallow malformed = tt
      none_so_shallow (got (clause c) next) = λ h. absurd (omega arith)
      none_so_shallow (got (group k ms) next) = λ h. absurd (omega arith)
  deep_enough (suc more) (suc d) at = keeps_rest d (read_rule more) (read_rule d) (deep_enough more d) (read_entry s at)

  read_keeps : (d : ℕ) (f g : Found Rule) {r : Rule} {next : ℕ} → Keeps depth d f g → f ≡ got r next → depth r ≤ d → g ≡ got r next
  read_keeps d malformed g keeps e h = cc
  read_keeps d (got q last) g {r} {next} keeps e h =
      let same_rule : q ≡ r = cc in
      let low : depth q ≤ d = rw same_rule h in
      keeps low ∙ e

  deep_enough_reads : (more d at : ℕ) {r : Rule} {next : ℕ} → read_rule more s at ≡ got r next → depth r ≤ d → read_rule d s at ≡ got r next
  deep_enough_reads more d at e h = read_keeps d (read_rule more s at) (read_rule d s at) (deep_enough more d at) e h

-- A reader of d levels reads just what a reader of more levels does and is at most d deep.
pub levels_are_depth : (s : List ℕ) {d more : ℕ} (at : ℕ) {r : Rule} {next : ℕ} → d ≤ more
    → (read_rule d s at ≡ got r next) ↔ ((read_rule more s at ≡ got r next) × (depth r ≤ d))
levels_are_depth s {d} {more} at h =
    (λ e. let low = read_is_shallow s d at e in (deep_enough_reads s d more at e (omega arith), low), λ p. deep_enough_reads s more d at p.0 p.1)
