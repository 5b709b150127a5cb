-- A write of a whole image at 0 takes its place. Assumes nothing.
use Rattle.std.proofs.Common.{◌∙◌}
use Rattle.pieces.proofs.Laid.{update_whole}
use Rattle.pieces.proofs.lay.copy.Goals as goal

pub returns : goal.returns
returns c = let a = c.args in c.lay.ensures ∙ update_whole a.work.now a.image.now c.requires
