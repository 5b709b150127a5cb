-- The laws of `region`'s definitions.
pub mod Booleans
pub mod Tab
pub mod AnswerLaws
pub mod ViewerLaws
