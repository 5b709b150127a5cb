-- Which entry a tag starts. Assumes nothing.
use mathlib.Core.Path.{◌≡◌, ap, ◌∙◌}
use mathlib.Core.List.{List}
use Prim.Native.Nat.{ℕ, ◌<◌}
use native.Mathlib.Omega.{arith}
use Rattle.bits.specs.Bits.{got, read_field}
use Rattle.bits.proofs.Reading.{field_got_lt}
use Rattle.sheet.specs.Sheet.{all, any, tag_bits, read_range, read_same, read_many, read_tagged, read_entry}

module _ (s : List ℕ) (at : ℕ) {tag next : ℕ} (read : read_field tag_bits s at ≡ got tag next) where
  tagged : read_entry s at ≡ read_tagged tag s next
  unfolding read_entry
  tagged = rw read

  pub entry_range : tag ≡ 0 → read_entry s at ≡ read_range s next
  unfolding read_tagged
  entry_range e = tagged ∙ ap (λ (k : ℕ). read_tagged k s next) e

  pub entry_same : tag ≡ 1 → read_entry s at ≡ read_same s next
  unfolding read_tagged
  entry_same e = tagged ∙ ap (λ (k : ℕ). read_tagged k s next) e

  pub entry_all : tag ≡ 2 → read_entry s at ≡ read_many all s next
  unfolding read_tagged
  entry_all e = tagged ∙ ap (λ (k : ℕ). read_tagged k s next) e

  pub entry_any : 2 < tag → read_entry s at ≡ read_many any s next
  unfolding read_tagged
  entry_any above =
      let small : tag < 4 = field_got_lt tag_bits s at read in
      let e : tag ≡ 3 = omega (arith, small) in
      tagged ∙ ap (λ (k : ℕ). read_tagged k s next) e
