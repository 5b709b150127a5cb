-- The starred trials hold.
pub mod Starred
