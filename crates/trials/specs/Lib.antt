-- Document 01's desk trials that are marked to be proved, in one table.
pub mod Table
