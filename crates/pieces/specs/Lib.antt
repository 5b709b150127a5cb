-- The definitions that `pieces`'s contracts cite. `AsyncSpec` renders pmem_async_spec_t.rs; `Choice`, `Rows` and `Kept` are document 01's choice
-- points and numbers, row tables, and kept count; `Laid` puts a row and a write together.
pub mod AsyncSpec
pub mod Choice
pub mod Rows
pub mod Kept
pub mod Laid
pub mod Handed
