-- The session. `History` is what happened and its replay, `Run` the runs of calls, `Theorem` what holds at the end of every run. `TapeRun` and
-- `TapeTheorem` say the same of a session by tape.
pub mod History
pub mod Run
pub mod Theorem
pub mod TapeRun
pub mod TapeTheorem
