-- `Memory`: what a call by tape is lent. `Write`, `Ending`, `Flush` and `Cut`: what each call by tape answers and leaves behind.
pub mod Memory
pub mod Write
pub mod Ending
pub mod Flush
pub mod Cut
