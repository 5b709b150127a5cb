-- The definitions that the laws of cuts are stated with, beside those of `region` and `pieces`: rows read by place (`Bits`), the shape that a cut wants
-- (`Shape`), the choice number of rows and the image of a number (`Number`), rows packed as a table (`Packed`), and the prophecy view (`Prophecy`). Then
-- what a gate looks for among them, whatever engine does: the search over numbers (`Search`), when it judges all that could come about (`Covering`), and
-- what the gate tries and its finding is to mean (`Gate`).
pub mod Bits
pub mod Shape
pub mod Number
pub mod Packed
pub mod Prophecy
pub mod Search
pub mod Covering
pub mod Gate
