-- The functions go by `EpochLaws`, `PredictLaws` and `RowsLaws`. Theory: `Foretells` is what a tape foretells of a log, step by step; `Futures` gives every
-- future a tape.
pub mod EpochLaws
pub mod PredictLaws
pub mod RowsLaws
pub mod Futures
pub mod Foretells
