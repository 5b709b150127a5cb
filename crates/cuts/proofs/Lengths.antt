-- A replay keeps the image's length, whatever the writes and rows. Assumes nothing.
use Prim.Native.Nat.{ℕ}
use mathlib.Core.Path.{◌≡◌, refl, ◌∙◌}
use mathlib.Core.Bool.{Bool}
use mathlib.Core.List.{List, [], ◌∷◌}
use lib.ListN.{length, get_or, drop}
use Rattle.region.proofs.Tab.{length_tab}
use Rattle.pieces.specs.AsyncSpec.{Write, AsyncView, len, apply_write, apply_write_selective, flush_writes, flush_writes_selective, flush, flush_selective}
use Rattle.pieces.proofs.Laid.{length_update}

pub length_apply_write : (s : List ℕ) (w : Write) → length (apply_write s w) ≡ length s
length_apply_write s w = length_update s w.addr w.bytes

pub length_apply_write_selective : (C : ℕ) (s : List ℕ) (w : Write) (row : List Bool) → length (apply_write_selective C s w row) ≡ length s
unfolding apply_write_selective
length_apply_write_selective C s w row = length_tab _ (length s)

pub length_flush_writes : (s : List ℕ) (ws : List Write) → length (flush_writes s ws).state_at_last_flush ≡ length s
unfolding flush_writes
length_flush_writes s [] = refl
length_flush_writes s (w ∷ ws) = length_flush_writes (apply_write s w) ws ∙ length_apply_write s w

pub length_flush_writes_selective : (C : ℕ) (s : List ℕ) (ws : List Write) (rows : List (List Bool)) → length (flush_writes_selective C s ws rows) ≡ length s
unfolding flush_writes_selective
length_flush_writes_selective C s [] rows = refl
length_flush_writes_selective C s (w ∷ ws) rows =
    length_flush_writes_selective C (apply_write_selective C s w (get_or rows 0 [])) ws (drop 1 rows) ∙ length_apply_write_selective C s w (get_or rows 0 [])

pub length_flush : (v : AsyncView) → len (flush v) ≡ len v
length_flush v = length_flush_writes v.state_at_last_flush v.outstanding_writes

pub length_flush_selective : (C : ℕ) (v : AsyncView) (rows : List (List Bool)) → length (flush_selective C v rows) ≡ len v
length_flush_selective C v rows = length_flush_writes_selective C v.state_at_last_flush v.outstanding_writes rows
