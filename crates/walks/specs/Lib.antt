-- The definitions that `walks`' contracts cite: what a replay of the log has before it and leaves (`Log`), and the kept count over records (`Kept`).
pub mod Log
pub mod Kept
