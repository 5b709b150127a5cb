-- The laws of `example`'s definitions. `NumberLaws` has which test gives a call its number, `RepeatLaws` the rounds of a run. `Meaning` says what the
-- promises mean.
pub mod NumberLaws
pub mod RepeatLaws
pub mod Meaning
mod Trials
