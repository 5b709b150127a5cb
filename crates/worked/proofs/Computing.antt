-- What the worked calls compute with. To unfold `calls` is to unfold all that its line names, and all that is named by what it names.
use Rattle.region.specs.Tab.{tab, tab_from}
use Rattle.region.specs.Pmemspec.{update_bytes}
use Rattle.pieces.specs.AsyncSpec.{apply_write_selective, flush_writes, flush_writes_selective}
use Rattle.pieces.specs.Choice.{touched, points, row_of, rows_of}
use Rattle.pieces.specs.Rows.{row_at, rows_at, set_bits, row_filled, rows_filled}
use Rattle.pieces.specs.Kept.{kept, kept_of}
use Rattle.cuts.specs.Search.{finding, finding_from}
use Rattle.bits.specs.Bits.{field, read_field}
use Rattle.sheet.specs.Sheet.{clause_holds, empty_holds, join, holds, read_tagged, read_entry, read_members, read_rest, read_rule, read_edition}
use Rattle.sheet.specs.Sheet.{filling, read_filling, read_whole, read_sheet, well_formed, obeys}
use Rattle.desk.specs.State.{together, writes_of, records_inside, sound_for}
use Rattle.writelog.specs.Write.{write_number}
use Rattle.writelog.specs.Read.{asked_number}
use Rattle.writelog.specs.Flush.{flush_number}
use Rattle.writelog.specs.Cut.{cut_number}
use Rattle.gate.specs.Opening.{open_number}
use Rattle.gate.specs.Judgement.{judge_refusal}
use Rattle.epochs.specs.Epoch.{epoch_number}
use Rattle.tape.specs.Write.{tape_room_number, tape_write_number}
use Rattle.tape.specs.Ending.{ending_number}

unfoldable images : Type 0
unfolding tab tab_from update_bytes apply_write_selective flush_writes flush_writes_selective
images = record {}

unfoldable choices : Type 0
unfolding touched points row_of rows_of row_at rows_at set_bits row_filled rows_filled kept kept_of finding finding_from
choices = record {}

unfoldable rules : Type 0
unfolding clause_holds empty_holds join holds well_formed obeys
rules = record {}

unfoldable reading : Type 0
unfolding field read_field read_tagged read_entry read_members read_rest read_rule read_edition filling read_filling read_whole read_sheet
reading = record {}

unfoldable numbers : Type 0
unfolding together writes_of records_inside sound_for write_number asked_number flush_number cut_number open_number judge_refusal
numbers = record {}

unfoldable tapes : Type 0
unfolding epoch_number tape_room_number tape_write_number ending_number
tapes = record {}

unfoldable pub calls : Type 0
unfolding images choices rules reading numbers tapes
calls = record {}
