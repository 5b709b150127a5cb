-- `Numbers`: every number is an answer's. `Promises` and `ExamplePromises`: what a function promises of words, the library's call promises of
-- their state. `Runs` and `TapeRuns`: a run of such functions is a run of the library's, so the session theorems hold of it. `Linking`:
-- every run of the library's is one of theirs. `Meaning`: what the numbers mean.
pub mod Numbers
pub mod Promises
pub mod ExamplePromises
pub mod Runs
pub mod TapeRuns
pub mod Linking
pub mod Meaning
