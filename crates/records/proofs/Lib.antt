-- `ListWords` has the laws of records as words.
pub mod ListWords
