-- Every address is kept. Assumes nothing.
use Rattle.std.proofs.Common.{◌≡◌, true, sym, ◌∙◌, rules}
use Rattle.pieces.proofs.Laid.{update_is_lay}
use Rattle.pieces.proofs.lay.lay.Goals as goal

pub returns : goal.returns
returns c =
    let a = c.args in
    let w = a.write in
    c.lay_where.ensures (λ i. true) (λ i b low high told. search rules) ∙ sym (update_is_lay a.work.now w.addr w.bytes.now)
