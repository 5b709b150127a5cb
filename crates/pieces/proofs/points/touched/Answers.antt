-- An empty write touches no chunk, and any other those from its first byte's to its last byte's. Assumes nothing.
use Rattle.std.proofs.Common.{◌≡◌, ◌+◌, ◌-◌, ◌/◌, suc, sym, ap, ◌∙◌, arith}
use Rattle.region.specs.Limits.{const_persistence_chunk_size}
use Rattle.pieces.specs.Choice.{touched}
use Rattle.pieces.proofs.points.touched.Goals as goal

pub returns-then-len-eq0 : goal.returns-then-len-eq0
unfolding touched
returns-then-len-eq0 c = sym (ap (touched const_persistence_chunk_size c.args.addr) c.if-len-eq0.true)

pub returns : goal.returns
unfolding touched
returns c =
    let a = c.args in
    let C = const_persistence_chunk_size in
    let some : a.len ≡ suc (a.len - 1) = omega arith in
    let run : (a.addr + a.len - 1) / C - a.addr / C + 1 ≡ suc ((a.addr + (a.len - 1)) / C - a.addr / C) = omega arith in
    run ∙ sym (ap (touched C a.addr) some)
