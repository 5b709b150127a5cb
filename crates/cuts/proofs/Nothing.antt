-- A cut that keeps nothing leaves the image at the last flush. Assumes nothing.
use Prim.Native.Nat.{ℕ, ◌<◌}
use mathlib.Core.Path.{◌≡◌, refl, ap, ◌∙◌}
use mathlib.Core.Bool.{Bool, true, false, and-false}
use mathlib.Core.List.{List, [], ◌∷◌}
use lib.Seq.{ext_get_or}
use Rattle.pieces.specs.AsyncSpec.{Write, AsyncView, apply_write_selective, flush_writes_selective, flush_selective, committed}
use Rattle.cuts.specs.Bits.{write_at, row_bit_at, covers, touches_chunk, view_chunks}
use Rattle.cuts.proofs.Lengths.{length_apply_write_selective}
use Rattle.cuts.proofs.Column.{byte_of_selective}
use Rattle.cuts.proofs.Agree.{untouched_bits_change_nothing}

lost_write : (C : ℕ) (s : List ℕ) (w : Write) → apply_write_selective C s w [] ≡ s
lost_write C s w =
    let long = length_apply_write_selective C s w [] in
    ext_get_or 0 (apply_write_selective C s w []) s long (λ i h. byte_of_selective C s w [] i (rw long at h) ∙ rw (and-false (covers w i)))

lost_writes : (C : ℕ) (s : List ℕ) (ws : List Write) → flush_writes_selective C s ws [] ≡ s
unfolding flush_writes_selective
lost_writes C s [] = refl
lost_writes C s (w ∷ ws) = ap (λ x. flush_writes_selective C x ws []) (lost_write C s w) ∙ lost_writes C s ws

pub cut_that_keeps_nothing : (C : ℕ) → 0 < C → (v : AsyncView) (rows : List (List Bool))
    → ((j c : ℕ) → c < view_chunks C v → touches_chunk C (write_at v.outstanding_writes j) c ≡ true → row_bit_at rows j c ≡ false)
    → flush_selective C v rows ≡ committed v
cut_that_keeps_nothing C C⁺ v rows k =
    untouched_bits_change_nothing C C⁺ v rows [] k ∙ lost_writes C v.state_at_last_flush v.outstanding_writes
