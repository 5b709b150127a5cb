-- A turn lays one byte or none, as the test answers for its address. Assumes nothing.
use Rattle.std.proofs.Common.{◌≡◌, ◌+◌, ℕ, List, get_or, set, sym, ap, ◌∙◌, arith, add-one}
use Rattle.pieces.proofs.Laid.{lay_none, lay_kept, lay_lost}
use Rattle.pieces.proofs.lay.lay_where.Goals as goal
use Rattle.pieces.proofs.lay.lay_where.Goals.{then-keeps, else-keeps}

pub loop-j-init : goal.loop-j-init
loop-j-init g c = λ keep tells. sym (lay_none keep c.args.work.now c.args.write.addr)

pub loop-j-preserved : goal.loop-j-preserved
loop-j-preserved g c =
    λ keep tells.
    let l = c.loop-j in
    let w = c.args.write in
    let bytes = w.bytes.now in
    let so_far = l.invariant keep tells in
    let here : c.keeps.result ≡ keep (w.addr + l.j) = tells _ _ (omega arith) (omega arith) c.keeps.ensures in
    elim c.if-keeps.branch [
      | then-keeps t ↦ rw add-one (t.work-is ∙ ap (λ (x : List ℕ). set x (w.addr + l.j) (get_or bytes l.j 0)) so_far
          ∙ sym (lay_kept keep c.args.work.now w.addr bytes l.j (omega arith) (omega arith) (sym here ∙ t.if-keeps.true)))
      | else-keeps t ↦ rw add-one (t.work-is ∙ so_far ∙ sym (lay_lost keep c.args.work.now w.addr bytes l.j (omega arith) (omega arith) (sym here ∙ t.if-keeps.false)))
    ]
