-- What crosses to another language. `Words`: the state and what a call reports. `Lent`: what a desk lends, and how it crosses. `Log`, `Gate`, `Tape` and
-- `Example`: what each function that a desk links promises.
pub mod Words
pub mod Lent
pub mod Log
pub mod Gate
pub mod Tape
pub mod Example
