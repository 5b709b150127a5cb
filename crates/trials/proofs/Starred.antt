-- Every starred trial gives what document 01 says: one table, one computation. To unfold a definition is to unfold all that its line names. Assumes nothing.
use mathlib.Core.Path.{◌≡◌, refl}
use mathlib.Core.List.{map}
use Rattle.region.specs.Tab.{tab, tab_from}
use Rattle.region.specs.Pmemspec.{update_bytes}
use Rattle.pieces.specs.AsyncSpec.{apply_write_selective, flush_writes, flush_writes_selective}
use Rattle.pieces.specs.Choice.{touched, points, row_of, rows_of}
use Rattle.pieces.specs.Rows.{row_at, rows_at, set_bits, rows_filled, row_filled}
use Rattle.pieces.specs.Kept.{kept, kept_of}
use Rattle.cuts.specs.Search.{finding, finding_from}
use Rattle.bits.specs.Bits.{field, read_field}
use Rattle.sheet.specs.Sheet.{clause_holds, empty_holds, join, holds, members_hold, read_tagged, read_entry, read_members, read_rest, read_rule}
use Rattle.sheet.specs.Sheet.{read_edition, filling, read_filling, read_whole, read_sheet, well_formed, obeys}
use Rattle.desk.specs.State.{writes_of, together, records_inside, sound_for}
use Rattle.writelog.specs.Read.{asked_number}
use Rattle.writelog.specs.Cut.{cut_number}
use Rattle.gate.specs.Judgement.{judge_refusal}
use Rattle.epochs.specs.Epoch.{epoch_number}
use Rattle.tape.specs.Write.{tape_room_number, tape_write_number}
use Rattle.tape.specs.Ending.{ending_number}
use Rattle.trials.specs.Table.{Trial, starred}

unfoldable Images : Type 0
unfolding tab tab_from update_bytes apply_write_selective flush_writes flush_writes_selective
Images = record {}

unfoldable Choices : Type 0
unfolding touched points row_of rows_of row_at rows_at set_bits row_filled rows_filled kept kept_of finding finding_from
Choices = record {}

unfoldable Sheets : Type 0
unfolding field read_field read_tagged read_entry read_members read_rest read_rule read_edition filling read_filling read_whole read_sheet
Sheets = record {}

unfoldable Rules : Type 0
unfolding clause_holds empty_holds join holds members_hold well_formed obeys
Rules = record {}

unfoldable Numbers : Type 0
unfolding writes_of together records_inside sound_for asked_number cut_number judge_refusal epoch_number tape_room_number tape_write_number ending_number
Numbers = record {}

pub starred_trials_hold : map (λ (t : Trial). t.gives) starred ≡ map (λ (t : Trial). t.says) starred
unfolding starred Images Choices Sheets Rules Numbers
starred_trials_hold = refl
