-- The definitions that `desk`'s contracts cite: `State` says what the state means, `Desk` what the memory of a desk does.
pub mod State
pub mod Desk
