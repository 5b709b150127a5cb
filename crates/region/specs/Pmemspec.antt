-- Renders the definitions of pmemspec_t.rs, under the same names, facts in camel case. An image is the list of its bytes, an address a natural number, and
-- the chunk size, `const_persistence_chunk_size()` there, is the argument C.
use Rattle.std.specs.Prelude.{ℕ, ◌-◌, ◌+◌, ◌/◌, ◌<◌, ◌≡◌, ◌⊎◌, cond, List}
use lib.ListN.{length, get_or}
use Rattle.region.specs.Tab.{tab, inside}

-- `update_bytes`: the bytes laid over s at addr. What would fall past the end of s is dropped.
unfoldable pub update_bytes : (s : List ℕ) (addr : ℕ) (bytes : List ℕ) → List ℕ
update_bytes s addr bytes = tab (λ i. cond (inside addr (length bytes) i) (get_or bytes (i - addr) 0) (get_or s i 0)) (length s)

-- `addr_in_chunk`
abbrev pub AddrInChunk : (C chunk addr : ℕ) → Type 0
AddrInChunk C chunk addr = addr / C ≡ chunk

-- `size_to_chunks` of pmem_async_spec_t.rs: the number of chunks that sz bytes reach into, document 01's K. The code of this crate computes it, so
-- it stands here.
abbrev pub size_to_chunks : (C sz : ℕ) → ℕ
size_to_chunks C sz = (sz + C - 1) / C

-- `chunk_corresponds`: s₁ and s₂ have the same bytes in this chunk
abbrev pub ChunkCorresponds : (C : ℕ) (s₁ s₂ : List ℕ) (chunk : ℕ) → Type 0
ChunkCorresponds C s₁ s₂ chunk = (addr : ℕ) → addr < length s₁ → AddrInChunk C chunk addr → get_or s₁ addr 0 ≡ get_or s₂ addr 0

-- `can_result_from_partial_write`: each chunk is as it was before the write, or as the whole write leaves it. The original says 'or' of two
-- propositions; here a proof says which of the two.
pub record CanResultFromPartialWrite (C : ℕ) (post pre : List ℕ) (addr : ℕ) (bytes : List ℕ) : Type 0 where
  pub same_length : length post ≡ length pre
  pub each_chunk : (chunk : ℕ) → ChunkCorresponds C post pre chunk ⊎ ChunkCorresponds C post (update_bytes pre addr bytes) chunk

-- `extract_bytes`: the bytes from pos up to pos + len
abbrev pub extract_bytes : (bytes : List ℕ) (pos len : ℕ) → List ℕ
extract_bytes bytes pos len = lib.ListN.take len (lib.ListN.drop pos bytes)
