-- A turn takes at least one bit, no more than are left, and stays in one byte. Assumes nothing.
use Rattle.std.proofs.Common.{◌≡◌, ◌+◌, ℕ, sym, ap, ◌∙◌, arith}
use native.Mathlib.Nat.{add-zero}
use Rattle.pieces.specs.Rows.{row_bit, set_bits}
use Rattle.pieces.proofs.ByteBits.{first_in_byte, set_bits_le}
use Rattle.pieces.proofs.rows.set_bits.Goals as goal

pub overflow_add-sum : goal.overflow_add-sum
overflow_add-sum c =
    let l = c.loop-left in
    let a = c.args in
    omega (
      arith,
      first_in_byte a.rows.now a.at l.c l.left c.min-here.result (omega arith) (omega arith),
      set_bits_le (row_bit a.rows.now a.at) a.from a.n,
    )

pub loop-left-preserved : goal.loop-left-preserved
loop-left-preserved c =
    let l = c.loop-left in
    let a = c.args in
    (omega arith, omega (arith, first_in_byte a.rows.now a.at l.c l.left c.min-here.result (omega arith) (omega arith)))

pub returns : goal.returns
unfolding set_bits
returns c =
    let l = c.loop-left in
    let a = c.args in
    let none : l.left ≡ 0 = omega arith in
    sym (add-zero l.sum) ∙ ap (λ (n : ℕ). l.sum + set_bits (row_bit a.rows.now a.at) l.c n) (sym none) ∙ l.invariant.1
