-- The definitions that `engine`'s contracts cite: `Count` has the choice points of a log by its records, `Trial` what one trial leaves of a log,
-- `Search` what an engine is asked and what it promises.
pub mod Count
pub mod Trial
pub mod Search
