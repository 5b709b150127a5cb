-- The laws of the plain engine. `PointLaws` counts points by records; `TrialLaws` takes a replay and a trial apart into their steps; `SearchLaws` follows
-- the loop over choice numbers.
pub mod PointLaws
pub mod TrialLaws
pub mod SearchLaws
