-- `take` answers a field exactly where it ends within the bytes. Assumes nothing.
use Rattle.std.proofs.Common.{sym, arith}
use Rattle.bits.proofs.Reading.{field_cut, field_there}
use Rattle.bits.proofs.reader.BitReader.take.Goals as goal

pub returns-then-left-width-clause-field : goal.returns-then-left-width-clause-field
returns-then-left-width-clause-field c = let r = c.args.self.now in sym (field_cut c.args.width r.bytes.now r.at (omega arith))

pub returns-then-bits-self-clause-field : goal.returns-then-bits-self-clause-field
returns-then-bits-self-clause-field c = let r = c.args.self.now in sym (field_cut c.args.width r.bytes.now r.at (omega arith))

pub returns-clause-field : goal.returns-clause-field
returns-clause-field c = let r = c.args.self.now in rw (field_there c.args.width r.bytes.now r.at (omega arith), c.field_at-value.ensures)
