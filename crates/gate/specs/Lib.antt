-- The definitions that `gate`'s contracts cite: `Opening` has what opening answers and leaves behind, `Judgement` the same for the judging call and the
-- gate. `Meaning` says what the answers are to mean.
pub mod Opening
pub mod Judgement
pub mod Meaning
