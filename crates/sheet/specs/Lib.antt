-- `Sheet` is the rule sheet: how its bits are read, and what a rule says of two images. `Format` is what a sheet is: the way from a rule to
-- its bits. `Inner` has what the inner functions promise.
pub mod Sheet
pub mod Format
pub mod Inner
