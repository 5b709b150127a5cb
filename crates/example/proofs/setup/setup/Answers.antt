-- A line for each return. Assumes nothing.
use Rattle.std.proofs.Common.{refl, arith}
use Rattle.region.specs.declared.Refusal.TheVariants.{BadState, OutOfRange}
use Rattle.example.proofs.NumberLaws.{sets_up_refused, sets_up_done, setup_long, setup_outside, setup_inside}
use Rattle.example.proofs.setup.setup.Goals as goal

pub returns-then-image-gt-IMAGE_LIMIT : goal.returns-then-image-gt-IMAGE_LIMIT
returns-then-image-gt-IMAGE_LIMIT c =
    let a = c.args in
    sets_up_refused a.image.now a.addr a.val0 BadState (setup_long a.image.now a.addr a.val0 (omega arith))

pub returns-then-image-addr : goal.returns-then-image-addr
returns-then-image-addr c =
    let a = c.args in
    sets_up_refused a.image.now a.addr a.val0 OutOfRange (setup_outside a.image.now a.addr a.val0 (omega arith) (omega arith))

pub returns : goal.returns
returns c =
    let a = c.args in
    sets_up_done a.image.now a.addr a.val0 (setup_inside a.image.now a.addr a.val0 (omega arith) (omega arith)) refl
