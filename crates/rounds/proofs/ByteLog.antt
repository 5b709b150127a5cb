-- A log of one-byte writes at one address. Laid or lost, each leaves the image with some value at that address and nothing else changed; so where the
-- image and the writes have one of two values there, every image that a cut could leave has too. Assumes nothing.
use Prim.Native.Nat.{ℕ, ◌+◌, ◌/◌, ◌<◌}
use native.Mathlib.Nat.{add-zero}
use native.Mathlib.Omega.{arith}
use mathlib.Core.Path.{◌≡◌, refl, sym, ap, ap₂, subst⁻¹, ◌∙◌}
use mathlib.Core.Bool.{Bool, true, false, cond, ◌&&◌}
use mathlib.Core.List.{List, [], ◌∷◌, ◌++◌}
use lib.Dec.{ltb}
use lib.ListN.{length, get_or, drop, set, length-set}
use lib.Seq.{get_or-set_same, set-get_or, set-set}
use borrow.Author.Tests.{lt-ltb}
use Rattle.region.specs.Pmemspec.{update_bytes}
use Rattle.region.proofs.Booleans.{both, both_true}
use Rattle.pieces.specs.AsyncSpec.{Write, write_of, AsyncView, apply_write_selective, flush_writes, flush_writes_selective, readable, CanCrash}
use Rattle.pieces.specs.Choice.{touched, points}
use Rattle.pieces.specs.Laid.{lay}
use Rattle.pieces.proofs.Laid.{update_is_lay, lay_none, lay_kept, lay_lost}
use Rattle.rounds.specs.Valid.{one_of, app_valid}

-- the write of one byte
abbrev pub byte_write : (addr v : ℕ) → Write
byte_write addr v = write_of addr (v ∷ [])

-- one byte laid
module _ (s : List ℕ) (addr v : ℕ) (lies : addr < length s) where
  here : addr + 0 < length s
  here = omega arith

  kept_byte : (keep : ℕ → Bool) → keep addr ≡ true → lay keep s addr (v ∷ []) ≡ set s addr v
  kept_byte keep k =
      lay_kept keep s addr (v ∷ []) 0 here (omega arith) (ap keep (add-zero addr) ∙ k)
      ∙ ap₂ (λ (x : List ℕ) (i : ℕ). set x i v) (lay_none keep s addr) (add-zero addr)

  lost_byte : (keep : ℕ → Bool) → keep addr ≡ false → lay keep s addr (v ∷ []) ≡ s
  lost_byte keep k = lay_lost keep s addr (v ∷ []) 0 here (omega arith) (ap keep (add-zero addr) ∙ k) ∙ lay_none keep s addr

  pub byte_laid : update_bytes s addr (v ∷ []) ≡ set s addr v
  byte_laid = update_is_lay s addr (v ∷ []) ∙ kept_byte (λ i. true) refl

  module _ (C : ℕ) (row : List Bool) where
    selective_is_lay : apply_write_selective C s (byte_write addr v) row ≡ lay (λ i. get_or row (i / C) false) s addr (v ∷ [])
    unfolding apply_write_selective lay
    selective_is_lay = refl

    pub byte_selected : apply_write_selective C s (byte_write addr v) row ≡ cond (get_or row (addr / C) false) (set s addr v) s
    byte_selected = go (get_or row (addr / C) false) refl
      where
        go : (b : Bool) → get_or row (addr / C) false ≡ b → apply_write_selective C s (byte_write addr v) row ≡ cond b (set s addr v) s
        go true e = selective_is_lay ∙ kept_byte (λ i. get_or row (i / C) false) e
        go false e = selective_is_lay ∙ lost_byte (λ i. get_or row (i / C) false) e

-- the log that has written these values, oldest first
unfoldable pub byte_writes : ℕ → List ℕ → List Write
byte_writes addr [] = []
byte_writes addr (u ∷ us) = byte_write addr u ∷ byte_writes addr us

abbrev pub byte_log : List ℕ → ℕ → List ℕ → AsyncView
byte_log image addr us = record { state_at_last_flush = image; outstanding_writes = byte_writes addr us }

pub byte_writes_last : (addr : ℕ) (us : List ℕ) (v : ℕ) → byte_writes addr us ++ (byte_write addr v ∷ []) ≡ byte_writes addr (us ++ (v ∷ []))
unfolding byte_writes
byte_writes_last addr [] v = refl
byte_writes_last addr (u ∷ us) v = ap (λ (ws : List Write). byte_write addr u ∷ ws) (byte_writes_last addr us v)

-- each write is one choice point
pub byte_points : (C addr : ℕ) (us : List ℕ) → points C (byte_writes addr us) ≡ length us
unfolding points byte_writes touched
byte_points C addr [] = refl
byte_points C addr (u ∷ us) = let same = add-zero addr in omega (arith, byte_points C addr us, ap (λ (i : ℕ). i / C) same)

-- a read sees the last value
pub last_read : (addr v : ℕ) (us s : List ℕ) → addr < length s → readable (byte_log s addr (us ++ (v ∷ []))) ≡ set s addr v
unfolding flush_writes byte_writes
last_read addr v [] s lies = byte_laid s addr v lies
last_read addr v (u ∷ us) s lies =
    ap (λ (x : List ℕ). readable (byte_log x addr (us ++ (v ∷ [])))) (byte_laid s addr u lies)
    ∙ last_read addr v us (set s addr u) (rw (length-set s addr u) lies) ∙ set-set s addr u v

-- every value is one of the two
unfoldable pub all_of : ℕ → ℕ → List ℕ → Bool
all_of a b [] = true
all_of a b (u ∷ us) = one_of a b u && all_of a b us

module _ (image : List ℕ) (addr a b : ℕ) (lies : addr < length image) where
  -- the image with one of the two values at addr, and nothing else changed
  abbrev pub Left : List ℕ → Type 0
  Left x = (u : ℕ) × (one_of a b u ≡ true) × (x ≡ set image addr u)

  pub left_valid : (x : List ℕ) → Left x → app_valid addr a b x ≡ true
  unfolding app_valid
  left_valid x (u, one, e) =
      rw e (both_true (lt-ltb addr (length (set image addr u)) (rw (length-set image addr u) lies)) (rw (get_or-set_same image addr u 0 lies) one))

  -- one write more, kept or lost, before the rest of a replay
  kept_or_lost : (rest : List ℕ → List ℕ) (u v : ℕ) → Left (rest (set image addr u)) → Left (rest (set image addr v))
      → (kept : Bool) → Left (rest (cond kept (set (set image addr u) addr v) (set image addr u)))
  kept_or_lost rest u v lost laid true = rw (set-set image addr u v) laid
  kept_or_lost rest u v lost laid false = lost

  replay_left : (C : ℕ) (us : List ℕ) (rows : List (List Bool)) (u : ℕ) → one_of a b u ≡ true → all_of a b us ≡ true
      → Left (flush_writes_selective C (set image addr u) (byte_writes addr us) rows)
  unfolding flush_writes_selective byte_writes all_of
  replay_left C [] rows u one all = (u, one, refl)
  replay_left C (v ∷ us) rows u one all =
      let values = both (one_of a b v) (all_of a b us) all in
      subst⁻¹ (λ (s : List ℕ). Left (flush_writes_selective C s (byte_writes addr us) (drop 1 rows)))
      (byte_selected (set image addr u) addr v (rw (length-set image addr u) lies) C (get_or rows 0 []))
      (kept_or_lost (λ s. flush_writes_selective C s (byte_writes addr us) (drop 1 rows)) u v
      (replay_left C us (drop 1 rows) u one values.1) (replay_left C us (drop 1 rows) v values.0 values.1) (get_or (get_or rows 0 []) (addr / C) false))

  -- The heart of the example: whatever a cut keeps of such a log, one of the two values is left.
  pub cut_leaves_a_value : (C : ℕ) (us : List ℕ) → app_valid addr a b image ≡ true → all_of a b us ≡ true
      → (x : List ℕ) → CanCrash C (byte_log image addr us) x → Left x
  unfolding app_valid
  cut_leaves_a_value C us good all x (rows, h) =
      let one = (both (ltb addr (length image)) (one_of a b (get_or image addr 0)) good).1 in
      let start = replay_left C us rows (get_or image addr 0) one all in
      (start.0, start.1, h.leaves ∙ ap (λ (s : List ℕ). flush_writes_selective C s (byte_writes addr us) rows) (sym (set-get_or image addr 0)) ∙ start.2)
