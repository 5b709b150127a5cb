-- `setup` of `ExampleApp`. Document 01: "Setup, given an image, changes only the byte at addr, to val0, or answers 2 (the source loops for ever)"; it
-- meets 1 and 2.
use Rattle.std.specs.Prelude.{ℕ, ◌+◌, ◌≡◌, List, leb, length, set}
use Rattle.region.specs.Limits.{image_limit}
use Rattle.region.specs.Answer.{answer_number, unless, if_done, Answer}

unfoldable pub setup_number : List ℕ → ℕ → ℕ
setup_number image addr =
    unless (leb (length image) image_limit) 1
    (unless (leb (addr + 1) (length image)) 2
    0)

-- what setup promises: its number, and every byte of the image afterwards
pub record SetsUp (image : List ℕ) (addr val0 : ℕ) (answer : Answer) (image' : List ℕ) : Type 0 where
  pub answers : answer_number answer ≡ setup_number image addr
  pub image_after : image' ≡ if_done (setup_number image addr) (set image addr val0) image
