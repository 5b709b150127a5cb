-- `Reading` has the entries by their tags, `Judging` judges a rule where it lies, `Whole` a whole sheet. `Laws` are what callers use, `Depth` ties the
-- levels of the reading to a rule's depth, `Exact` ties reading to the rule written out, `Own` to the rule's own bytes, `Trials` computes document 01's sheets.
pub mod Reading
pub mod Judging
pub mod Whole
pub mod Laws
pub mod Depth
pub mod Exact
pub mod Own
mod Trials
