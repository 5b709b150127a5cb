-- The laws of `desk`'s definitions. `Records` takes the records of a log one at a time; `Soundness` takes the test of refusal 1 apart and puts it
-- together, and `RoomLaws` those for one record more; `Views` has what a recorded write and an emptied log do to the view.
pub mod Records
pub mod Soundness
pub mod RoomLaws
pub mod Views
