-- The mask leaves exactly the bits asked for. Assumes nothing.
use Rattle.std.proofs.Common.{◌-◌, ◌≤◌, arith}
use lib.Pow.{pow_mono}
use Rattle.pieces.proofs.ByteBits.{masked, one_shifted}
use Rattle.pieces.proofs.rows.ones_among.Goals as goal

-- the lower shift is at most the higher one
pub overflow_sub-mask-4 : goal.overflow_sub-mask-4
overflow_sub-mask-4 c =
    let a = c.args in
    let low : 8 - a.skipped - a.n ≤ 8 = omega arith in
    let high : 8 - a.skipped ≤ 8 = omega arith in
    rw (one_shifted (8 - a.skipped - a.n) low, one_shifted (8 - a.skipped) high) (pow_mono (omega arith))

pub returns : goal.returns
returns c = rw c.from.ensures (masked c.args.byte c.args.skipped c.args.n c.requires)
