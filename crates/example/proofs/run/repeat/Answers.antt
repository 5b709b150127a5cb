-- A round goes there and back, and ends under the sheet again. Assumes nothing.
use Rattle.rounds.proofs.StepLaws.{first_value, second_value, under_after, under_turned, goes_on}
use Rattle.example.proofs.RepeatLaws.{repeats_more}
use Rattle.example.proofs.run.repeat.Goals as goal

pub pair-requires-in-loop : goal.pair-requires-in-loop
pair-requires-in-loop c = let a = c.args in under_turned (under_after c.loop.invariant.0 c.pair.ensures (second_value a.val0 a.val1))

pub loop-preserved : goal.loop-preserved
loop-preserved c =
    let a = c.args in
    let round = goes_on c.pair.ensures c.pair-in-loop.ensures in (
      under_after c.loop.invariant.0 round (first_value a.val0 a.val1),
      repeats_more c.loop.invariant.1 round,
    )
