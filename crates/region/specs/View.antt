-- Renders `PersistentMemoryRegionView` of pmemspec_t.rs: what a read sees, and what a crash would leave.
use Rattle.std.specs.Prelude.{ℕ, ◌≡◌, List, length}
use Rattle.region.specs.Pmemspec.{update_bytes, CanResultFromPartialWrite}

pub record PersistentMemoryRegionView : Type 0 where
  pub read_state : List ℕ
  pub durable_state : List ℕ

-- `len`
abbrev pub len : PersistentMemoryRegionView → ℕ
len v = length v.read_state

-- `valid`
abbrev pub Valid : PersistentMemoryRegionView → Type 0
Valid v = length v.read_state ≡ length v.durable_state

-- `can_result_from_write`: the reads see the whole write, the durable state has got some of its chunks
pub record CanResultFromWrite (C : ℕ) (self pre : PersistentMemoryRegionView) (addr : ℕ) (bytes : List ℕ) : Type 0 where
  pub reads : self.read_state ≡ update_bytes pre.read_state addr bytes
  pub durables : CanResultFromPartialWrite C self.durable_state pre.durable_state addr bytes

-- `flush_predicted`
abbrev pub FlushPredicted : PersistentMemoryRegionView → Type 0
FlushPredicted v = v.durable_state ≡ v.read_state
