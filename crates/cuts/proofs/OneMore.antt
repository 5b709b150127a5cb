-- A longer log is replayed over what its older part leaves, by a cut and by a flush: so one write more is laid over the replay before it.
-- Assumes nothing.
use Prim.Native.Nat.{ℕ}
use native.Mathlib.Omega.{arith}
use mathlib.Core.Path.{◌≡◌, refl, ap}
use mathlib.Core.Bool.{Bool}
use mathlib.Core.List.{List, [], ◌∷◌, ◌++◌}
use lib.ListN.{length}
use Rattle.pieces.specs.AsyncSpec.{Write, AsyncView, apply_write, apply_write_selective, flush_writes, flush_writes_selective, flush_selective, readable, write}

-- a replay of two logs, one after the other, with the rows of each
replay_in_two : (C : ℕ) (s : List ℕ) (ws ws' : List Write) (rows rows' : List (List Bool)) → length rows ≡ length ws
    → flush_writes_selective C s (ws ++ ws') (rows ++ rows') ≡ flush_writes_selective C (flush_writes_selective C s ws rows) ws' rows'
unfolding flush_writes_selective
replay_in_two C s [] ws' [] rows' l = refl
replay_in_two C s [] ws' (r ∷ rows) rows' l = absurd (omega arith)
replay_in_two C s (w ∷ ws) ws' [] rows' l = absurd (omega arith)
replay_in_two C s (w ∷ ws) ws' (r ∷ rows) rows' l = replay_in_two C (apply_write_selective C s w r) ws ws' rows rows' (omega arith)

pub read_in_two : (s : List ℕ) (ws ws' : List Write) → flush_writes s (ws ++ ws') ≡ flush_writes (flush_writes s ws).state_at_last_flush ws'
unfolding flush_writes
read_in_two s [] ws' = refl
read_in_two s (w ∷ ws) ws' = read_in_two (apply_write s w) ws ws'

pub cut_of_a_write : (C : ℕ) (v : AsyncView) (w : Write) (rows : List (List Bool)) (row : List Bool)
    → length rows ≡ length v.outstanding_writes
    → flush_selective C (write v w) (rows ++ (row ∷ []))
    ≡ apply_write_selective C (flush_selective C v rows) (w) row
unfolding flush_writes_selective
cut_of_a_write C v w rows row l =
    replay_in_two C v.state_at_last_flush v.outstanding_writes (w ∷ []) rows (row ∷ []) l

pub read_of_a_write : (v : AsyncView) (w : Write) → readable (write v w) ≡ apply_write (readable v) w
unfolding flush_writes
read_of_a_write v w =
    ap (λ x. x.state_at_last_flush) (read_in_two v.state_at_last_flush v.outstanding_writes (w ∷ []))
