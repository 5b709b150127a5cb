-- The kept count is the count of ones of the rows' choice number, and inside the image a number below 2 ^ n is that of its own rows. Assumes nothing.
use Prim.Native.Nat.{ℕ, zero, suc, ◌+◌, ◌-◌, ◌*◌, ◌/◌, ◌%◌, ◌^◌, ◌<◌}
use native.Mathlib.Nat.{zero-add, add-zero, add-suc, suc-add, add_comm, add_assoc, div-one, mod-lt}
use native.Mathlib.Omega.{arith}
use mathlib.Core.Path.{◌≡◌, refl, sym, ap, ◌∙◌}
use mathlib.Core.Bool.{Bool, true, false, cond}
use mathlib.Core.List.{List, [], ◌∷◌}
use lib.Dec.{lit<}
use lib.ListN.{length, get_or, drop}
use lib.Arith.{lt-one}
use lib.Pow.{shr_lt}
use lib.Count.{ones, ones_cat}
use Rattle.region.proofs.Tab.{get_or_tab, inside_in}
use Rattle.pieces.specs.AsyncSpec.{Write, AsyncView, WritesValid, addr_to_chunk}
use Rattle.pieces.specs.Choice.{touched, points, keeps_point, row_of, rows_of}
use Rattle.pieces.specs.Rows.{set_bits}
use Rattle.pieces.specs.Kept.{kept, kept_of}
use Rattle.cuts.specs.Bits.{write_at, touches_chunk, view_chunks}
use Rattle.cuts.specs.Number.{bits_below, number_of, choice_points}
use Rattle.cuts.proofs.Digits.{shr_suc, bit_suc, lowest_digit}
use Rattle.cuts.proofs.Within.{touched_chunk_below}

one_digit : (x : ℕ) (t : Bool) → ones (x * 2 + cond t 1 0) ≡ cond t 1 0 + ones x
unfolding ones
one_digit x true = ones_cat 1 x 1 (lit< tt) ∙ add_comm (ones x) 1
one_digit x false = ones_cat 1 x 0 (lit< tt) ∙ add_comm (ones x) 0

ones_of_bits_below : (hi : ℕ) (f : ℕ → Bool) (from n : ℕ) → ones (bits_below hi f from n) ≡ set_bits f from n + ones hi
unfolding bits_below set_bits
ones_of_bits_below hi f from zero = sym (zero-add (ones hi))
ones_of_bits_below hi f from (suc n) =
    one_digit (bits_below hi f (suc from) n) (f from)
    ∙ ap (λ x. cond (f from) 1 0 + x) (ones_of_bits_below hi f (suc from) n) ∙ sym (add_assoc (cond (f from) 1 0) (set_bits f (suc from) n) (ones hi))

pub kept_is_ones : (C : ℕ) (ws : List Write) (rows : List (List Bool)) → kept C ws rows ≡ ones (number_of C ws rows)
unfolding kept kept_of number_of ones
kept_is_ones C [] rows = refl
kept_is_ones C (w ∷ ws) rows = rw (kept_is_ones C ws (drop 1 rows)) (sym (ones_of_bits_below (number_of C ws (drop 1 rows)) _ _ _))

-- a number is its lowest bits below the rest of it
bits_of_number : (f : ℕ → Bool) (from n m : ℕ) → ((k : ℕ) → k < n → f (from + k) ≡ keeps_point m k) → bits_below (m / 2 ^ n) f from n ≡ m
unfolding bits_below
bits_of_number f from zero m a = div-one m
bits_of_number f from (suc n) m a =
    let rest : bits_below (m / 2 / 2 ^ n) f (suc from) n ≡ m / 2 =
    bits_of_number f (suc from) n (m / 2) (λ k h. ap f (suc-add from k ∙ sym (add-suc from k)) ∙ a (suc k) (omega arith) ∙ bit_suc m k) in
    let low : cond (f from) 1 0 ≡ m % 2 =
    ap (λ t. cond t 1 0) (ap f (sym (add-zero from)) ∙ a 0 (omega arith)) ∙ rw div-one (lowest_digit (m % 2) (mod-lt m (lit< tt))) in
    let whole : bits_below (m / 2 / 2 ^ n) f from (suc n) ≡ m = omega (arith, rest, low) in
    ap (λ (x : ℕ). bits_below x f from (suc n)) (shr_suc m n) ∙ whole

module _ (C K : ℕ) where
  -- where every touched chunk has its bit, a number's rows have that number
  number_of_rows_of : (ws : List Write) (m : ℕ) → ((j c : ℕ) → touches_chunk C (write_at ws j) c ≡ true → c < K) → m < 2 ^ points C ws
      → number_of C ws (rows_of C K ws m) ≡ m
  unfolding number_of rows_of row_of points
  number_of_rows_of [] m p h = sym (lt-one h)
  number_of_rows_of (w ∷ ws) m p h =
      let first = addr_to_chunk C w.addr in
      let t = touched C w.addr (length w.bytes) in
      let below : m / 2 ^ t < 2 ^ points C ws = shr_lt (points C ws) t (rw (add_comm (points C ws) t) h) in
      rw (number_of_rows_of ws (m / 2 ^ t) (λ j c k. p (suc j) c k) below)
      (bits_of_number
      (λ c. get_or (row_of C K w m) c false)
      first
      t
      m
      (λ k b. let hit : touches_chunk C w (first + k) ≡ true = inside_in first t (first + k) (omega arith) (omega arith) in
      let e : first + k - first ≡ k = omega arith in
      get_or_tab _ K (first + k) false (p 0 (first + k) hit) ∙ rw (hit, e)))

module _ (C : ℕ) (C⁺ : 0 < C) (v : AsyncView) (inside : WritesValid v) (m : ℕ) (h : m < 2 ^ choice_points C v) where
  pub number_of_choice : number_of C v.outstanding_writes (rows_of C (view_chunks C v) v.outstanding_writes m) ≡ m
  number_of_choice = number_of_rows_of C (view_chunks C v) v.outstanding_writes m (touched_chunk_below C C⁺ v inside) h

  -- the kept count of a choice number is its count of ones
  pub kept_of_choice : kept C v.outstanding_writes (rows_of C (view_chunks C v) v.outstanding_writes m) ≡ ones m
  kept_of_choice = kept_is_ones C v.outstanding_writes _ ∙ ap ones number_of_choice
