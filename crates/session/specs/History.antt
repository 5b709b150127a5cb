-- The history of a session, and its replay. An event is read off a call's arguments and answer, and the replay is a fold over the events alone: it
-- looks at no state and no log buffer. Its terms are those of pmem_async_spec_t.rs: the view, `write`, `flush`, `flush_selective`.
use Rattle.std.specs.Prelude.{ℕ, Bool, false, List, [], length, replicate, Err, Ok}
use Rattle.region.specs.Answer.{Answer, Counted}
use Rattle.pieces.specs.AsyncSpec.{Write, AsyncView, write, flush, flush_selective}
use Rattle.pieces.specs.Rows.{rows_at}
use Rattle.cuts.specs.Bits.{view_chunks}
use Rattle.gate.specs.declared.Verdict.TheVariants as verdict
use Rattle.gate.specs.Judgement.{Judged}

pub data Event : Type 0 where
  -- a refusal, a denial, a verdict, a read
  nothing : Event
  written : Write → Event
  flushed : Event
  -- by the rows that lie in these bytes from there on: a cut's table has them from 0 on, a tape behind its epoch's header
  cut_by : (table : List ℕ) (at : ℕ) → Event
  reopened : Event

-- oldest first
pub data History : Type 0 where
  opening : History
  ◌then◌ : History → Event → History

infixl 10 ◌then◌
-- the event of an answer
abbrev pub if_answered : Answer → Event → Event
if_answered (Ok unit) e = e
if_answered (Err why) e = nothing

abbrev pub if_admitted : Judged → Event → Event
if_admitted (Ok (verdict.Admitted n)) e = e
if_admitted (Ok (verdict.Denied m)) e = nothing
if_admitted (Err why) e = nothing

abbrev pub if_cut : Counted → Event → Event
if_cut (Ok k) e = e
if_cut (Err why) e = nothing

-- an image with an empty log
abbrev pub settled : List ℕ → AsyncView
settled image = record { state_at_last_flush = image; outstanding_writes = [] }

module _ (C : ℕ) where
  -- a cut's rows, read where they lie: one for each outstanding write, a bit for each chunk
  abbrev pub rows_there : AsyncView → List ℕ → ℕ → List (List Bool)
  rows_there v table at = rows_at (view_chunks C v) (length v.outstanding_writes) table at

  -- rows that keep nothing
  abbrev pub none_kept : AsyncView → List (List Bool)
  none_kept v = replicate (length v.outstanding_writes) (replicate (view_chunks C v) false)

  -- What an event makes of a view. "With writes outstanding [an opening] counts in the history as a cut that keeps none."
  unfoldable pub happen : AsyncView → Event → AsyncView
  happen v nothing = v
  happen v (written w) = write v w
  happen v flushed = flush v
  happen v (cut_by table at) = settled (flush_selective C v (rows_there v table at))
  happen v reopened = settled (flush_selective C v (none_kept v))

  -- the replay of a history, over the image that was opened
  unfoldable pub replay : List ℕ → History → AsyncView
  replay image opening = settled image
  replay image (h then e) = happen (replay image h) e
