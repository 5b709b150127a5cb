-- Renders `view` of `PMRegionProph` in pmem_async_equiv_v.rs: a log with the future foretold is a read image and a durable image. `flushed` foretells
-- that a flush will come before the next cut, and the rows what the cut will keep if not.
use Rattle.std.specs.Prelude.{ℕ, Bool, cond, List}
use Rattle.region.specs.View.{PersistentMemoryRegionView}
use Rattle.pieces.specs.AsyncSpec.{AsyncView, flush_selective, readable}

abbrev pub prophecy : ℕ → Bool → AsyncView → List (List Bool) → PersistentMemoryRegionView
prophecy C flushed v rows = record { read_state = readable v; durable_state = cond flushed (readable v) (flush_selective C v rows) }
