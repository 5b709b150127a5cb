-- What a tape foretells of a log: `view` of `PMRegionProph` in pmem_async_equiv_v.rs, whose prophecies are here the epoch's header and
-- rows. Its durable state is document 01's predicted image: "the replay of the log with this epoch's rows (all kept under 80)".
use Rattle.std.specs.Prelude.{ℕ, List, length}
use Rattle.region.specs.View.{PersistentMemoryRegionView}
use Rattle.pieces.specs.AsyncSpec.{AsyncView, len, size_to_chunks}
use Rattle.cuts.specs.Prophecy.{prophecy}
use Rattle.desk.specs.Desk.{Desk, chunk_size, view}
use Rattle.epochs.specs.Epoch.{flush_foretold, epoch_rows}

abbrev pub foretold : (C : ℕ) (tape : List ℕ) (start : ℕ) → AsyncView → PersistentMemoryRegionView
foretold C tape start v =
    prophecy C (flush_foretold tape start) v (epoch_rows (size_to_chunks C (len v)) (length v.outstanding_writes) tape start)

abbrev pub predicted_image : (C : ℕ) (tape : List ℕ) (start : ℕ) → AsyncView → List ℕ
predicted_image C tape start v = (foretold C tape start v).durable_state

-- the image that the tape predicts for a desk's log
abbrev pub predicted_now : Desk → (tape : List ℕ) (start : ℕ) → List ℕ
predicted_now d tape start = predicted_image (chunk_size d) tape start (view d)
