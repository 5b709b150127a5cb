-- The laws of `pieces`'s definitions. `Laid` is about one write laid over an image, byte by byte; `RowBits` about the rows of a table, one at a time;
-- `ByteBits` about the set bits of a row, a byte at a time; `ChoiceBits` about the bit of a choice number that goes with a byte of a write. `Filling`
-- and `Touched` say in bits and bytes what a filled row and a touched chunk are.
pub mod Laid
pub mod RowBits
pub mod ByteBits
pub mod ChoiceBits
pub mod Filling
pub mod Touched
