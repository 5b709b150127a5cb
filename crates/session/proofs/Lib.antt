-- The proof of demand 3. `Keeps` has the three things that a step can do and what each keeps, `Steps` that every call's promise does one of them,
-- `Theorem` the theorem, `TapeTheorem` the same by tape. `Worked` has runs with every kind of step; `Computing` names what they compute with. The crate
-- `audit` has a broken run for each premise.
pub mod Keeps
pub mod Steps
pub mod Theorem
pub mod TapeTheorem
pub mod Computing
pub mod Worked
