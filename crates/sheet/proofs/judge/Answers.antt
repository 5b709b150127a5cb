-- `judge` gives each answer of `rule_holds` its number. Assumes nothing.
use Rattle.sheet.proofs.Whole.{number_of_judged}
use Rattle.sheet.proofs.judge.Goals as goal

pub returns-in-None : goal.returns-in-None
returns-in-None c = number_of_judged _ _ c.in-None.ensures

pub returns-in-Some-true : goal.returns-in-Some-true
returns-in-Some-true c = number_of_judged _ _ (rw c.in-Some-true.field-0-test at c.in-Some-true.ensures)

pub returns-in-Some-false : goal.returns-in-Some-false
returns-in-Some-false c = number_of_judged _ _ (rw c.in-Some-false.field-0-test at c.in-Some-false.ensures)
