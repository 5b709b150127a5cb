-- Of the first j bytes those are laid whose addresses the test keeps.
use Rattle.std.proofs.Common.{◌≡◌, ℕ, Bool, take}
use Rattle.pieces.specs.AsyncSpec.{write_of}
use Rattle.pieces.specs.Laid.{lay, Tells}
use Rattle.pieces.proofs.lay.lay_where.Given as goal

abbrev pub invariant-loop-j : goal.invariant-loop-j
invariant-loop-j g l =
    (keep : ℕ → Bool) → Tells (goal.F-post g l.keeps) keep (write_of l.write.addr l.write.bytes.now)
    → l.work ≡ lay keep l.fn.work l.write.addr (take l.j l.write.bytes.now)
