-- The definitions that `records`' contracts cite, and those above: `Record` has the record that stands where there is none, `Words` records as words.
pub mod Record
pub mod Words
