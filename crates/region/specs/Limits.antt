-- The numbers of document 01 that have a meaning, each once. The definitions take a chunk size and a length as arguments; a desk, the
-- calls' own promises and the contracts of leaves that compute with them cite these names.
use Rattle.std.specs.Prelude.{ℕ}

-- `const_persistence_chunk_size`: "A chunk is 8 bytes."
abbrev pub const_persistence_chunk_size : ℕ
const_persistence_chunk_size = 8

-- "An image has L bytes, 0 to 4096."
abbrev pub image_limit : ℕ
image_limit = 4096

-- "a log of at most 32 outstanding writes"
abbrev pub writes_limit : ℕ
writes_limit = 32

-- "with at most 1024 data bytes together, packed oldest first in a log buffer of 1024 bytes"
abbrev pub log_limit : ℕ
log_limit = 1024

-- "7: n over 16": the choice points that the gate tries
abbrev pub points_limit : ℕ
points_limit = 16
