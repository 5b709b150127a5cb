-- The laws of `gate`'s definitions: `OpeningLaws` and `JudgementLaws` say what a call's number tells, and give its promise, a law for each way that it
-- returns. `Meaning` has the theorem of the gate, `judge_means`, and `Gives` what a good opening and an admitted write give a session.
pub mod OpeningLaws
pub mod JudgementLaws
pub mod Meaning
pub mod Gives
