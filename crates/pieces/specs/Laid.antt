-- Inner: one write laid over an image by the chunks that a row keeps, where the row lies in a table or is read off a choice number:
-- `apply_write_selective` of pmem_async_spec_t.rs.
use Rattle.std.specs.Prelude.{ℕ, ◌+◌, ◌-◌, ◌≤◌, ◌<◌, ◌≡◌, Bool, cond, ◌&&◌, List, length, get_or}
use Rattle.region.specs.Tab.{tab, inside}
use Rattle.pieces.specs.AsyncSpec.{Write, apply_write_selective, size_to_chunks}
use Rattle.pieces.specs.Choice.{row_of}
use Rattle.pieces.specs.Rows.{row_at}

-- the bytes of a write laid over s, at the addresses that are kept
unfoldable pub lay : (keep : ℕ → Bool) (s : List ℕ) (addr : ℕ) (bytes : List ℕ) → List ℕ
lay keep s addr bytes = tab (λ i. cond (inside addr (length bytes) i && keep i) (get_or bytes (i - addr) 0) (get_or s i 0)) (length s)

-- a test answers for the addresses of a write as keep does
abbrev pub Tells : (answers : ℕ → Bool → Type 0) (keep : ℕ → Bool) (w : Write) → Type 0
Tells answers keep w = (i : ℕ) (b : Bool) → w.addr ≤ i → i < w.addr + length w.bytes → answers i b → b ≡ keep i

abbrev pub laid_by_row : (C : ℕ) (image : List ℕ) → Write → (table : List ℕ) (at : ℕ) → List ℕ
laid_by_row C image w table at = apply_write_selective C image w (row_at (size_to_chunks C (length image)) table at)

abbrev pub laid_by_choice : (C : ℕ) (image : List ℕ) → Write → (m : ℕ) → List ℕ
laid_by_choice C image w m = apply_write_selective C image w (row_of C (size_to_chunks C (length image)) w m)
