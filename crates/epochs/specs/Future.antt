-- A future, epoch by epoch: how each ends, and what a cut would keep of its writes. The original draws these as prophecies one at
-- a time and resolves them as they come true; here a future is data, and a tape tells it (`proofs/Futures.antt`: every future has a tape).
use Rattle.std.specs.Prelude.{ℕ, ◌≡◌, Bool, cond, List, [], ◌∷◌, ◌++◌, length}
use Rattle.cuts.specs.Shape.{HasShape}
use Rattle.cuts.specs.Packed.{packed}
use Rattle.epochs.specs.Epoch.{flush_header, cut_header, flush_foretold, epoch_rows, row_place, epoch_number}

-- `flush` and `durability` of `PMRegionProph`, resolved
pub record Foreseen : Type 0 where
  pub flushing : Bool
  pub rows : List (List Bool)

-- the epoch at `start` is right and tells this
pub record TellsEpoch (K : ℕ) (tape : List ℕ) (start : ℕ) (e : Foreseen) : Type 0 where
  pub right : epoch_number K (length e.rows) tape start ≡ 0
  pub header_tells : flush_foretold tape start ≡ e.flushing
  pub rows_tell : epoch_rows K (length e.rows) tape start ≡ e.rows

-- and so on from the place behind its rows
pub data Tells (K : ℕ) (tape : List ℕ) : ℕ → List Foreseen → Type 0 where
  nothing : {start : ℕ} → Tells K tape start []
  next : {start : ℕ} {e : Foreseen} {es : List Foreseen} → TellsEpoch K tape start e → Tells K tape (row_place K start (length e.rows)) es
      → Tells K tape start (e ∷ es)

-- each row of the future has a bit for each chunk
abbrev pub RowsOfWidth : ℕ → Foreseen → Type 0
RowsOfWidth K e = HasShape K (length e.rows) e.rows

pub data AllOfWidth (K : ℕ) : List Foreseen → Type 0 where
  none : AllOfWidth K []
  more : {e : Foreseen} {es : List Foreseen} → RowsOfWidth K e → AllOfWidth K es → AllOfWidth K (e ∷ es)

-- the tape of a future: header and packed rows, epoch after epoch
abbrev pub epoch_bytes : ℕ → Foreseen → List ℕ
epoch_bytes K e = cond e.flushing flush_header cut_header ∷ packed K e.rows

unfoldable pub tape_of : ℕ → List Foreseen → List ℕ
tape_of K [] = []
tape_of K (e ∷ es) = epoch_bytes K e ++ tape_of K es
