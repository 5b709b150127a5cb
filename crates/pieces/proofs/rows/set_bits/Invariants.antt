-- What is counted, and the set bits of what is left, are the set bits of the whole run.
use Rattle.std.proofs.Common.{◌≡◌, ◌+◌}
use Rattle.pieces.specs.Rows.{row_bit, set_bits}
use Rattle.pieces.proofs.rows.set_bits.Given as goal

abbrev pub invariant-loop-left : goal.invariant-loop-left
invariant-loop-left l =
    (l.c + l.left ≡ l.from + l.n)
    × (l.sum + set_bits (row_bit l.rows l.at) l.c l.left ≡ set_bits (row_bit l.rows l.at) l.from l.n)

abbrev pub decreases-loop-left : goal.decreases-loop-left
decreases-loop-left l = l.left
