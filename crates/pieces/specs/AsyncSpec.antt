-- Renders pmem_async_spec_t.rs, under the same names, facts in camel case, but for `valid`: the image at the last flush with the outstanding writes over it. The
-- chunk size is the argument C. `data` is a word of antt, so a write's bytes are its field `bytes`. `size_to_chunks` stands in `region`, where code
-- needs it first, and is passed on from here.
use Rattle.std.specs.Prelude.{ℕ, ◌+◌, ◌-◌, ◌/◌, ◌≤◌, ◌<◌, ◌≡◌, Bool, false, cond, ◌&&◌, List, [], ◌∷◌, ◌++◌, length, get_or, drop}
use Rattle.region.specs.Tab.{tab, inside}
use Rattle.region.specs.Pmemspec.{update_bytes}
pub use Rattle.region.specs.Pmemspec.{size_to_chunks}

-- `Write`
pub record Write : Type 0 where
  pub addr : ℕ
  pub bytes : List ℕ

-- what a call is handed, as a write
abbrev pub write_of : (addr : ℕ) (bytes : List ℕ) → Write
write_of addr bytes = record { addr = addr; bytes = bytes }

-- what stands where a log has no write: it covers no byte and touches no chunk
abbrev pub no_write : Write
no_write = write_of 0 []

-- `addr_to_chunk`
abbrev pub addr_to_chunk : ℕ → ℕ → ℕ
addr_to_chunk C addr = addr / C

-- `apply_write`
abbrev pub apply_write : List ℕ → Write → List ℕ
apply_write s w = update_bytes s w.addr w.bytes

-- `apply_write_selective`: only the bytes in selected chunks are laid. A chunk past the end of the row is not selected.
unfoldable pub apply_write_selective : ℕ → List ℕ → Write → List Bool → List ℕ
apply_write_selective C s w selected_chunks =
    tab (λ i.
    cond (inside w.addr (length w.bytes) i && get_or selected_chunks (addr_to_chunk C i) false)
    (get_or w.bytes (i - w.addr) 0)
    (get_or s i 0))
    (length s)

-- `PersistentMemoryRegionAsyncView`
pub record AsyncView : Type 0 where
  pub state_at_last_flush : List ℕ
  pub outstanding_writes : List Write

-- `len`
abbrev pub len : AsyncView → ℕ
len v = length v.state_at_last_flush

-- one write lies inside an image of n bytes
abbrev pub Within : ℕ → Write → Type 0
Within n w = w.addr + length w.bytes ≤ n

-- `valid`, which the view of pmemspec_t.rs has too
abbrev pub WritesValid : AsyncView → Type 0
WritesValid v = (i : ℕ) → i < length v.outstanding_writes → Within (len v) (get_or v.outstanding_writes i no_write)

-- `write`: the new write, there its address and bytes, goes to the end of the log
abbrev pub write : AsyncView → Write → AsyncView
write v w = record { state_at_last_flush = v.state_at_last_flush; outstanding_writes = v.outstanding_writes ++ (w ∷ []) }

-- `flush`, on the two fields of the view: oldest write first, one write falling away at each step
unfoldable pub flush_writes : List ℕ → List Write → AsyncView
flush_writes s [] = record { state_at_last_flush = s; outstanding_writes = [] }
flush_writes s (w ∷ ws) = flush_writes (apply_write s w) ws

-- `flush`
abbrev pub flush : AsyncView → AsyncView
flush v = flush_writes v.state_at_last_flush v.outstanding_writes

-- `flush_selective`, on the two fields of the view. The rows go with the writes, first to first; a row that is lacking keeps nothing.
unfoldable pub flush_writes_selective : ℕ → List ℕ → List Write → List (List Bool) → List ℕ
flush_writes_selective C s [] rows = s
flush_writes_selective C s (w ∷ ws) rows = flush_writes_selective C (apply_write_selective C s w (get_or rows 0 [])) ws (drop 1 rows)

-- `flush_selective`
abbrev pub flush_selective : ℕ → AsyncView → List (List Bool) → List ℕ
flush_selective C v write_chunk_durability =
    flush_writes_selective C v.state_at_last_flush v.outstanding_writes write_chunk_durability

-- `committed`
abbrev pub committed : AsyncView → List ℕ
committed v = v.state_at_last_flush

-- `readable`
abbrev pub readable : AsyncView → List ℕ
readable v = committed (flush v)

-- `no_outstanding_writes`
abbrev pub NoOutstandingWrites : AsyncView → Type 0
NoOutstandingWrites v = length v.outstanding_writes ≡ 0

-- `can_crash_as`: the rows have the right shape, one for each write and a bit for each chunk, and leave these bytes
pub record CanCrashAs (C : ℕ) (v : AsyncView) (bytes : List ℕ) (write_chunk_durability : List (List Bool)) : Type 0 where
  pub same_length : length bytes ≡ len v
  pub row_for_each_write : length write_chunk_durability ≡ length v.outstanding_writes
  pub bit_for_each_chunk : (j : ℕ) → j < length write_chunk_durability → length (get_or write_chunk_durability j []) ≡ size_to_chunks C (len v)
  pub leaves : bytes ≡ flush_selective C v write_chunk_durability

-- an image that a cut could leave: some rows leave it
abbrev pub CanCrash : ℕ → AsyncView → List ℕ → Type 0
CanCrash C v bytes = (rows : List (List Bool)) × CanCrashAs C v bytes rows
