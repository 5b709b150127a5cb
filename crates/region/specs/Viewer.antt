-- Document 01's viewer: "hands back the asked part of one of two lent images, first or second as asked, L being that one's length; each is to be
-- the caller's slice, not a copy. On any refusal the part is empty; a companion question with the same arguments gives the number."
use Rattle.std.specs.Prelude.{ℕ, ◌+◌, ◌≡◌, List, [], leb, length}
use Rattle.std.specs.Borrow.{Bor}
use Rattle.region.specs.Answer.{unless, if_done}
use Rattle.region.specs.Limits.{image_limit}
use Rattle.region.specs.Pmemspec.{extract_bytes}
use Rattle.region.specs.declared.viewer.Which.{Which}
use Rattle.region.specs.declared.viewer.Which.TheVariants.{First, Second}

-- "first or second as asked"
abbrev pub chosen {ℓ} : {A : Type ℓ} → Which → A → A → A
chosen First first second = first
chosen Second first second = second

-- the number: 1 is "L over 4096", 2 is "addr + len > L, in whole numbers"
abbrev pub viewer_number : (L addr len : ℕ) → ℕ
viewer_number L addr len =
    unless (leb L image_limit) 1
    (unless (leb (addr + len) L) 2
    0)

-- the part's bytes: those asked for, or none
abbrev pub viewer_part : (image : List ℕ) (addr len : ℕ) → List ℕ
viewer_part image addr len = if_done (viewer_number (length image) addr len) (extract_bytes image addr len) []

-- how far into the image the part starts. The empty part of a refusal stands at the image's first byte.
abbrev pub viewer_start : (L addr len : ℕ) → ℕ
viewer_start L addr len = if_done (viewer_number L addr len) addr 0

-- The part is of the image's own memory: the same block, that far into it, and these bytes. So place, length and bytes are settled, which is all
-- that a machine has of a slice.
pub record Viewed (image : Bor (List ℕ)) (addr len : ℕ) (part : Bor (List ℕ)) : Type 0 where
  pub block : part.ref_ptr.0 ≡ image.ref_ptr.0
  pub offset : part.ref_ptr.1 ≡ image.ref_ptr.1 + viewer_start (length image.now) addr len
  pub bytes : part.now ≡ viewer_part image.now addr len
