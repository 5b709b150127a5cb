-- The definitions that `example`'s contracts cite: `Setup` and `Run` have what the two calls answer and leave behind.
pub mod Setup
pub mod Run
