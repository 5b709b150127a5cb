-- `Walk` has a step of each replay, and `KeptLaws` a turn of the kept count.
pub mod Walk
pub mod KeptLaws
