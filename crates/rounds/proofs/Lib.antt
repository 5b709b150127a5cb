-- The laws of `rounds`' definitions. `SheetLaws` reads the example's sheet; `ByteLog` is about logs of one-byte writes at one address, with
-- `cut_leaves_a_value`, the heart of the example; `AnswerNumbers` says that a run's number settles its answer, and `StepLaws` what the gate and the
-- flush do to such a log.
pub mod SheetLaws
pub mod ByteLog
pub mod AnswerNumbers
pub mod StepLaws
