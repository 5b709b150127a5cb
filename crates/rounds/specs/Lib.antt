-- The definitions that `rounds`' contracts cite: `Valid` has what the application keeps true of its image and the sheet that says so, `Answer` the
-- numbers of a run's answer, `Steps` what a step of a run asks and promises.
pub mod Valid
pub mod Answer
pub mod Steps
