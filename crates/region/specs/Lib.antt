-- The definitions that `region`'s contracts cite. `Limits` has the numbers of document 01, `Answer` its table of refusals, `Tab` the original's
-- `Seq::new`; `Pmemspec` and `View` render pmemspec_t.rs; `Viewer` is document 01's viewer.
pub mod Limits
pub mod Answer
pub mod Tab
pub mod Pmemspec
pub mod View
pub mod Viewer
