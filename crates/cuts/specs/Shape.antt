-- The shape that `CanCrashAs` demands of rows, by itself: one row for each of n writes, a bit for each of K chunks.
use Rattle.std.specs.Prelude.{ℕ, ◌<◌, ◌≡◌, Bool, List, [], length, get_or}

pub record HasShape (K n : ℕ) (rows : List (List Bool)) : Type 0 where
  pub row_for_each_write : length rows ≡ n
  pub bit_for_each_chunk : (j : ℕ) → j < length rows → length (get_or rows j []) ≡ K
