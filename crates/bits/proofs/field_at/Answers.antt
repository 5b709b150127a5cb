-- `field_at` shifts the window of three bytes to the field's end and drops what stands before the field. Assumes nothing.
use Rattle.std.proofs.Common.{arith}
use Rattle.bits.proofs.Window.{field_by_window}
use Rattle.bits.proofs.field_at.Goals as goal

pub returns : goal.returns
returns c =
    let a = c.args in
    field_by_window a.bytes.now (λ j. omega (arith, c.type_inv.bytes j)) a.at a.width _ _ _
    c.byte_at.ensures.0 c.byte_at-2.ensures.0 c.byte_at-3.ensures.0 (omega arith)
