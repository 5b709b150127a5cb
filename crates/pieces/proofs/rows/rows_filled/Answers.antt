-- All rows are filled if each is. Assumes nothing.
use Rattle.std.proofs.Common.{◌≡◌, ◌+◌, ◌*◌, ◌∙◌, ap, arith, rules}
use borrow.Author.Tests.{tests}
use Rattle.std.proofs.lemmas.Iterator.{YieldsList-from_range}
use Rattle.std.proofs.lemmas.Iterator.Search.{all_from_yields_List}
use Rattle.pieces.specs.Rows.{row_bytes, row_filled, rows_filled}
use Rattle.pieces.proofs.RowBits.{each_row_filled}
use Rattle.pieces.proofs.rows.rows_filled.Goals as goal

pub returns : goal.returns
returns c =
    let a = c.args in
    let first : a.from + 0 * row_bytes a.chunks ≡ a.from = omega arith in
    all_from_yields_List (λ i. row_filled a.chunks a.rows.now (a.from + i * row_bytes a.chunks)) _ _ c.all.result c.all.ensures.ran
    (YieldsList-from_range 0 a.n a.n (cc) (omega arith)) (λ x b q k. search (rules, tests))
    ∙ each_row_filled a.chunks a.n a.rows.now a.from 0
    ∙ ap (rows_filled a.chunks a.n a.rows.now) first
