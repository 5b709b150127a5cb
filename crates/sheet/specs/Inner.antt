-- Inner: what the functions below `judge` answer, as the code tells it. The contract of `judge` cites none of this.
use Rattle.std.specs.Prelude.{ℕ, Bool, List, Option}
use Rattle.std.specs.Bool.{then_some}
use Rattle.bits.specs.Bits.{Found, malformed, got}
use Rattle.sheet.specs.Sheet.{Clause, range, same, Kind, all, any, Entry, one, many, Rule, Rules, holds, members_hold, well_formed, allows}
use Rattle.sheet.specs.declared.clause.Clause.{Clause as ClauseTold}
use Rattle.sheet.specs.declared.clause.Clause.TheVariants.{Range, Same}
use Rattle.sheet.specs.declared.entry.Kind.{Kind as KindTold}
use Rattle.sheet.specs.declared.entry.Kind.TheVariants.{All, Any}
use Rattle.sheet.specs.declared.entry.Entry.{Entry as EntryTold}
use Rattle.sheet.specs.declared.entry.Entry.TheVariants.{One, Many}

abbrev pub clause_of : ClauseTold → Clause
clause_of (Range address low high) = range address low high
clause_of (Same first second) = same first second

abbrev pub kind_of : KindTold → Kind
kind_of All = all
kind_of Any = any

abbrev pub entry_of : EntryTold → Entry
entry_of (One c) = one (clause_of c)
entry_of (Many k count) = many (kind_of k) count

-- A rule, or a group's members, with what was found judged at once.
abbrev pub rule_truth : (image : List ℕ) → Found Rule → Found Bool
rule_truth image malformed = malformed
rule_truth image (got r next) = got (holds r image image) next

abbrev pub group_truth : Kind → (image : List ℕ) → Found Rules → Found Bool
group_truth k image malformed = malformed
group_truth k image (got ms next) = got (members_hold ms k image image) next

-- A whole sheet: if it is well-formed, whether its rule holds.
unfoldable pub judged : (sheet image : List ℕ) → Option Bool
judged s image = then_some (well_formed s) (allows s image)
