-- `Calls` and `TapeCalls`: the runs of a desk that links the functions. `Meaning`: what a verdict's number and report mean.
pub mod Calls
pub mod TapeCalls
pub mod Meaning
