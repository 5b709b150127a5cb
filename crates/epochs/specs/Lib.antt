-- `Epoch` reads the tape, `End` is what its header foretells, `Foretold` is the prophecy view that it gives a log, `Predictable` what the prediction
-- asks. `Future` is what a tape tells, for the theorem that every future has one.
pub mod Epoch
pub mod End
pub mod Foretold
pub mod Predictable
pub mod Future
