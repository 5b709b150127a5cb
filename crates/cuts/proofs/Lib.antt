-- The laws of cuts, leaves first. A byte of a replay goes by its own column of the rows (`Column`), so only touched bits choose anything (`Agree`),
-- and the flush is the cut that keeps everything (`Flush`), where one that keeps nothing leaves the image at the last flush (`Nothing`). The rows that
-- `CanCrashAs` speaks of are those of the right shape (`Shape`). One write more is a part-write over what could be left before (`OneMore`,
-- `PartWrites`). Choice numbers (`Choices`, `Numbers`, `Pairs`) and row tables (`Packed`, `Tables`) leave the images that rows leave, and a table is right
-- exactly if it is a packing (`RightTables`). `Kept`, `Within` and `Ones` are the kept count, `Always` has the images that a cut could always leave, and
-- `Prophecy` is the view of pmem_async_equiv_v.rs. Then the gate's search (`Search`, `Covering`): its theorem is `gate_judges_images` in `Gate`.
pub mod Lengths
pub mod Basics
pub mod Column
pub mod Agree
pub mod Flush
pub mod Nothing
pub mod Shape
pub mod OneMore
pub mod PartWrites
pub mod Digits
pub mod Choices
pub mod Numbers
pub mod Pairs
pub mod Packed
pub mod Tables
pub mod RightTables
pub mod Kept
pub mod Within
pub mod Ones
pub mod Always
pub mod Prophecy
pub mod Search
pub mod Covering
pub mod Gate
