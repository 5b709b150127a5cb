-- `take_entry` goes by the tag as `read_entry` does. A tag that is none of 0, 1 and 2 is 3, since it has two bits. Assumes nothing.
use Rattle.std.proofs.Common.{sym, arith}
use Rattle.sheet.specs.Sheet.{read_entry}
use Rattle.sheet.proofs.Reading.{entry_range, entry_same, entry_all, entry_any}
use Rattle.sheet.proofs.entry.take_entry.Goals as goal

pub returns-in_err-take-clause-entry : goal.returns-in_err-take-clause-entry
unfolding read_entry
returns-in_err-take-clause-entry c = rw (sym c.in_err-take.ensures.field, c.from_residual.ensures)

pub returns-in-0-clause-entry : goal.returns-in-0-clause-entry
returns-in-0-clause-entry c = rw (entry_range _ _ (sym c.in_ok-take.ensures.field) c.in-0.is, sym c.in_ok-take.ensures.bytes) c.take_range.ensures.entry

pub returns-in-1-clause-entry : goal.returns-in-1-clause-entry
returns-in-1-clause-entry c = rw (entry_same _ _ (sym c.in_ok-take.ensures.field) c.in-1.is, sym c.in_ok-take.ensures.bytes) c.take_same.ensures.entry

pub returns-in-2-clause-entry : goal.returns-in-2-clause-entry
returns-in-2-clause-entry c = rw (entry_all _ _ (sym c.in_ok-take.ensures.field) c.in-2.is, sym c.in_ok-take.ensures.bytes) c.take_many.ensures.entry

pub returns-in_default-clause-entry : goal.returns-in_default-clause-entry
returns-in_default-clause-entry c = rw (entry_any _ _ (sym c.in_ok-take.ensures.field) (omega arith), sym c.in_ok-take.ensures.bytes) c.take_many-in_default.ensures.entry
