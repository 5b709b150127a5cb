-- `Window` takes a field through a run of whole bytes, `Reading` has the laws of the readers, `Spelled` ties them to bits that are written out,
-- `Packing` these to bytes.
pub mod Window
pub mod Reading
pub mod Spelled
pub mod Packing
