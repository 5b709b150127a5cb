-- The rounds so far are done, and what they leave is under the sheet.
use Rattle.region.specs.Answer.{done}
use Rattle.desk.specs.Desk.{desk}
use Rattle.rounds.specs.Steps.{Under}
use Rattle.example.specs.Run.{Repeats}
use Rattle.example.proofs.run.repeat.Given as goal

abbrev pub invariant-loop : goal.invariant-loop
invariant-loop l = Under (desk l.image l.state l.log) l.sheet l.work l.addr l.val0 l.val1
    × Repeats l.fn.image l.fn.log l.fn.work l.addr l.val0 l.val1 l.counter done l.image l.log l.work
