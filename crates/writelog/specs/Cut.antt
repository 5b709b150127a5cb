-- The cut. Document 01: "A cut makes the replay with the rows the image and reports the kept count" and empties the log; it meets 1 and 9.
use Rattle.std.specs.Prelude.{ℕ, ◌≡◌, Bool, List, [], ◌∷◌}
use Rattle.region.specs.Answer.{Report, unless, if_done, Counted, counted_report}
use Rattle.pieces.specs.AsyncSpec.{flush_selective}
use Rattle.pieces.specs.Rows.{rows_right, rows_at}
use Rattle.pieces.specs.Kept.{kept}
use Rattle.desk.specs.Desk.{Desk, chunk_size, chunks, view, sound, settled_desk}

-- the report of a cut with this number: the kept count where it is done, and nothing else
abbrev pub cut_told : (kept number : ℕ) → Report
cut_told kept number = record { number = number; values = if_done number (kept ∷ []) [] }

-- the rows that lie in these bytes from `at` on, one for each record of the desk's log: what a cut by them leaves, and the pieces that it keeps
module _ (d : Desk) (bytes : List ℕ) (at : ℕ) where
  abbrev pub desk_rows : List (List Bool)
  desk_rows = rows_at (chunks d) d.state.count bytes at

  abbrev pub image_by_rows : List ℕ
  image_by_rows = flush_selective (chunk_size d) (view d) desk_rows

  abbrev pub kept_by_rows : ℕ
  kept_by_rows = kept (chunk_size d) (view d).outstanding_writes desk_rows

module _ (d : Desk) (table : List ℕ) where
  unfoldable pub cut_number : ℕ
  cut_number =
      unless (sound d) 1
      (unless (rows_right (chunks d) d.state.count table) 9
      0)

  -- what a cut promises: its number with the kept count, and the desk afterwards
  pub record Cuts (answer : Counted) (d' : Desk) : Type 0 where
    pub answers : counted_report answer ≡ cut_told (kept_by_rows d table 0) cut_number
    pub leaves : d' ≡ if_done cut_number (settled_desk d (image_by_rows d table 0)) d
