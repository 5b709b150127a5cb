-- `Calls` has the calls, `Computing` names what they compute with.
pub mod Computing
pub mod Calls
