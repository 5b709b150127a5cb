-- What each call answers and leaves behind.
pub mod Write
pub mod Read
pub mod Flush
pub mod Cut
