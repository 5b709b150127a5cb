-- Clauses of the original that follow from what is promised here. `Accepted`: its `inv`. `FirstTime`: its `main_first_time`, over the history of a
-- round (`Round`). `EachChunk`: its "or". `Clauses`: others.
pub mod Clauses
pub mod Accepted
pub mod Round
pub mod FirstTime
pub mod EachChunk
-- No promise leaves a choice: the scheme, the library's calls, and the functions that firmware links.
pub mod Pinning
pub mod Pinned
pub mod PinnedSkaldrift
-- `Replayed` computes what the theorems say of the worked runs of `session`. `Sharp` and, by tape, `SharpTape` have for each premise a run up to the step
-- that breaks it, that step, and what then is false.
pub mod Replayed
pub mod Sharp
pub mod SharpTape
