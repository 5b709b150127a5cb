-- The gate's search over choice numbers is a covering of all that the write could really make, so its finding means what demand 2 says, for any log,
-- any write and any number of points. Assumes nothing.
use Prim.Native.Nat.{ℕ, ◌-◌, ◌<◌}
use mathlib.Core.Path.{◌≡◌, refl, sym, ap₂}
use mathlib.Core.Logic.{◌↔◌}
use mathlib.Core.Bool.{Bool}
use mathlib.Core.List.{List}
use Rattle.region.specs.Pmemspec.{CanResultFromPartialWrite}
use Rattle.pieces.specs.AsyncSpec.{Write, AsyncView, write, CanCrash}
use Rattle.cuts.specs.Number.{choice_image}
use Rattle.cuts.proofs.Numbers.{number_crashes, last_number_leaves_the_read_image}
use Rattle.cuts.proofs.PartWrites.{part_writes}
use Rattle.cuts.proofs.Pairs.{choice_is_part_write, pairs_cover}
use Rattle.cuts.specs.Search.{Finding, none_bad, first_bad}
use Rattle.cuts.specs.Covering.{Test, after_alone, Covering}
use Rattle.cuts.specs.Gate.{gate_numbers, gate_test, gate_finding, gate_image, CouldMake, JudgesPairs, JudgesImages}
use Rattle.cuts.proofs.Search.{denies_exactly_the_least_bad}
use Rattle.cuts.proofs.Covering.{covering_admits, covering_denies}

module _ (C : ℕ) (C⁺ : 0 < C) (v : AsyncView) (w : Write) where
  pub choice_numbers_cover : (rule : Test)
      → Covering rule (CouldMake C v w) (choice_image C v) (choice_image C (write v w)) (gate_numbers C v w)
  choice_numbers_cover rule =
      record {
        real = λ m h. (number_crashes C C⁺ v m, choice_is_part_write C C⁺ v w m);
        covered = λ b a r. let found = (pairs_cover C C⁺ v w b a).0 r in
            (found.0, found.1, ap₂ rule (sym found.2) (sym found.3));
      }

  pub gate_judges_pairs : (rule : Test) → JudgesPairs C rule v w (gate_finding C rule v w)
  gate_judges_pairs rule =
      let before = choice_image C v in
      let after = choice_image C (write v w) in
      record {
        admits = covering_admits rule (CouldMake C v w) before after (gate_numbers C v w) (choice_numbers_cover rule);
        denies = covering_denies rule (CouldMake C v w) before after (gate_numbers C v w) (choice_numbers_cover rule);
        names_the_first = denies_exactly_the_least_bad (gate_test C rule v w) (gate_numbers C v w);
      }

  -- the theorem of the gate
  pub gate_judges_images : (obeys : List ℕ → Bool) → JudgesImages C obeys v w (gate_finding C (after_alone obeys) v w)
  gate_judges_images obeys =
      record {
        admits = (
          λ e x h. let made = (cuts x).0 h in
              pairs.admits.0 e made.0 x (made.1, made.2),
          λ f. pairs.admits.1 (λ b a r. f a ((cuts a).1 (b, r.0, r.1))),
        );
        denies = (
          λ d. let bad = pairs.denies.0 d in
              (bad.1, (cuts bad.1).1 (bad.0, bad.2.0, bad.2.1), bad.3),
          λ d. let made = (cuts d.0).0 d.1 in
              pairs.denies.1 (made.0, d.0, (made.1, made.2), d.2),
        );
        names_the_first = pairs.names_the_first;
        by_part_writes = (λ e b a h p. pairs.admits.0 e b a (h, p), λ f. pairs.admits.1 (λ b a r. f b a r.0 r.1));
      }
    where
      pairs : JudgesPairs C (after_alone obeys) v w (gate_finding C (after_alone obeys) v w)
      pairs = gate_judges_pairs (after_alone obeys)

      cuts : (x : List ℕ) → CanCrash C (write v w) x ↔ ((b : List ℕ) × CanCrash C v b × CanResultFromPartialWrite C x b w.addr w.bytes)
      cuts = part_writes C C⁺ v w

  -- an admitted search ends on the read image: its last trial is the working image already
  pub last_trial_is_the_read_image : choice_image C (write v w) (gate_numbers C v w - 1) ≡ gate_image C v w none_bad
  last_trial_is_the_read_image = last_number_leaves_the_read_image C C⁺ (write v w)

-- the meaning leaves no choice: any two findings that judge so are one
pub judges_pairs_pins : (C : ℕ) (rule : Test) (v : AsyncView) (w : Write) (r r' : Finding)
    → JudgesPairs C rule v w r → JudgesPairs C rule v w r' → r ≡ r'
judges_pairs_pins C rule v w none_bad r' j j' = sym (j'.admits.1 (j.admits.0 refl))
judges_pairs_pins C rule v w (first_bad m) r' j j' = sym ((j'.names_the_first m).1 ((j.names_the_first m).0 refl))

pub judges_images_pins : (C : ℕ) (obeys : List ℕ → Bool) (v : AsyncView) (w : Write) (r r' : Finding)
    → JudgesImages C obeys v w r → JudgesImages C obeys v w r' → r ≡ r'
judges_images_pins C obeys v w none_bad r' j j' = sym (j'.admits.1 (j.admits.0 refl))
judges_images_pins C obeys v w (first_bad m) r' j j' = sym ((j'.names_the_first m).1 ((j.names_the_first m).0 refl))
