-- One write laid byte by byte. `lay keep s addr bytes` has the bytes of the write where `keep` says so: a whole write keeps every address
-- (`update_is_lay`), a selective one those in selected chunks (by definition). A loop that has laid j bytes has `lay keep s addr (take j bytes)`,
-- and one byte more is one store or none (`lay_kept`, `lay_lost`). Bytes that are copied in one go are laid too (`paste_is_update`). Assumes nothing.
use Prim.Native.Nat.{ℕ, zero, suc, ◌+◌, ◌-◌, ◌≤◌, ◌<◌}
use native.Mathlib.Nat.{le_refl, sub-zero, add-sub_cancel_left}
use native.Mathlib.Numerals.{add-one}
use native.Mathlib.Decide.{dec_lt, ℕ_discrete}
use native.Mathlib.Omega.{arith}
use mathlib.Core.Path.{◌≡◌, refl, sym, ap, subst, subst⁻¹, ◌∙◌}
use mathlib.Core.Logic.{by_cases}
use mathlib.Core.Bool.{Bool, true, false, cond, ◌&&◌, and-true}
use mathlib.Core.List.{List, []}
use lib.ListN.{length, get_or, take, drop, set, length-set, length-drop}
use Rattle.std.proofs.lemmas.List.Edits.{paste_more}
use lib.Seq.{paste, paste-zero, take-length, ext_get_or, get_or-take, get_or-drop, get_or-set_same, get_or-set_other, length-take-le}
use Rattle.region.specs.Tab.{inside}
use Rattle.region.proofs.Tab.{length_tab, get_or_tab, agree_tab, inside_in, inside_below, inside_above}
use Rattle.region.specs.Pmemspec.{update_bytes, extract_bytes}
pub use Rattle.pieces.specs.Laid.{lay}

-- a whole write keeps every address
pub update_is_lay : (s : List ℕ) (addr : ℕ) (bytes : List ℕ) → update_bytes s addr bytes ≡ lay (λ i. true) s addr bytes
unfolding update_bytes lay
update_is_lay s addr bytes =
    agree_tab _ _ (length s) (λ i h. ap (λ (b : Bool). cond b (get_or bytes (i - addr) 0) (get_or s i 0)) (sym (and-true (inside addr (length bytes) i))))

pub length_update : (s : List ℕ) (addr : ℕ) (bytes : List ℕ) → length (update_bytes s addr bytes) ≡ length s
unfolding update_bytes
length_update s addr bytes = length_tab _ (length s)

-- what is kept matters at the image's own addresses only
pub lay_agree : (f g : ℕ → Bool) (s : List ℕ) (addr : ℕ) (bytes : List ℕ) → ((i : ℕ) → i < length s → f i ≡ g i) → lay f s addr bytes ≡ lay g s addr bytes
unfolding lay
lay_agree f g s addr bytes e =
    agree_tab _ _ (length s)
    (λ i h. ap (λ (b : Bool). cond (inside addr (length bytes) i && b) (get_or bytes (i - addr) 0) (get_or s i 0)) (e i h))

module _ (keep : ℕ → Bool) (s : List ℕ) (addr : ℕ) where
  pub length_lay : (bytes : List ℕ) → length (lay keep s addr bytes) ≡ length s
  unfolding lay
  length_lay bytes = length_tab _ (length s)

  -- a byte that the write covers
  pub lay_in : (bytes : List ℕ) (i : ℕ) → i < length s → addr ≤ i → i < addr + length bytes
      → get_or (lay keep s addr bytes) i 0 ≡ cond (keep i) (get_or bytes (i - addr) 0) (get_or s i 0)
  unfolding lay
  lay_in bytes i h l u =
      get_or_tab _ (length s) i 0 h
      ∙ ap (λ (b : Bool). cond (b && keep i) (get_or bytes (i - addr) 0) (get_or s i 0)) (inside_in addr (length bytes) i l u)

  -- a byte that it does not cover
  pub lay_out : (bytes : List ℕ) (i : ℕ) → i < length s → inside addr (length bytes) i ≡ false → get_or (lay keep s addr bytes) i 0 ≡ get_or s i 0
  unfolding lay
  lay_out bytes i h o =
      get_or_tab _ (length s) i 0 h ∙ ap (λ (b : Bool). cond (b && keep i) (get_or bytes (i - addr) 0) (get_or s i 0)) o

  pub lay_below : (bytes : List ℕ) (i : ℕ) → i < length s → i < addr → get_or (lay keep s addr bytes) i 0 ≡ get_or s i 0
  lay_below bytes i h l = lay_out bytes i h (inside_below addr (length bytes) i l)

  pub lay_above : (bytes : List ℕ) (i : ℕ) → i < length s → addr + length bytes ≤ i → get_or (lay keep s addr bytes) i 0 ≡ get_or s i 0
  lay_above bytes i h l = lay_out bytes i h (inside_above addr (length bytes) i l)

  -- nothing laid changes nothing
  pub lay_none : lay keep s addr [] ≡ s
  lay_none =
      ext_get_or 0 (lay keep s addr []) s (length_lay [])
      (λ i h.
      let g : i < length s = subst (λ (n : ℕ). i < n) (length_lay []) h in
      by_cases (dec_lt i addr) (λ l. lay_below [] i g l) (λ n. lay_above [] i g (omega arith)))

  -- one byte more is one store, where it is kept
  module _ (bytes : List ℕ) (j : ℕ) (fits : addr + j < length s) (more : j < length bytes) where
    abbrev laid : List ℕ
    laid = lay keep s addr (take j bytes)

    laid_length : length (take j bytes) ≡ j
    laid_length = length-take-le j bytes (omega arith)

    laid_length' : length (take (suc j) bytes) ≡ suc j
    laid_length' = length-take-le (suc j) bytes (omega arith)

    -- away from the new byte the two agree
    lay_other : (i : ℕ) → i < length s → (i ≡ addr + j → ⊥) → get_or (lay keep s addr (take (suc j) bytes)) i 0 ≡ get_or laid i 0
    lay_other i h ne =
        let p : length (take j bytes) ≡ j = laid_length in
        let q : length (take (suc j) bytes) ≡ suc j = laid_length' in
        by_cases (dec_lt i addr)
        (λ l. lay_below (take (suc j) bytes) i h l ∙ sym (lay_below (take j bytes) i h l))
        (λ nl. by_cases (dec_lt i (addr + j))
        (λ u.
        let a : i - addr < j = omega arith in
        let b : i - addr < suc j = omega arith in
        lay_in (take (suc j) bytes) i h (omega arith) (omega arith)
        ∙ ap (λ (x : ℕ). cond (keep i) x (get_or s i 0)) (get_or-take (suc j) bytes (i - addr) 0 b ∙ sym (get_or-take j bytes (i - addr) 0 a))
        ∙ sym (lay_in (take j bytes) i h (omega arith) (omega arith)))
        (λ nu. lay_above (take (suc j) bytes) i h (omega arith) ∙ sym (lay_above (take j bytes) i h (omega arith))))

    -- at the new byte
    lay_new : get_or (lay keep s addr (take (suc j) bytes)) (addr + j) 0 ≡ cond (keep (addr + j)) (get_or bytes j 0) (get_or laid (addr + j) 0)
    lay_new =
        let p : length (take j bytes) ≡ j = laid_length in
        let q : length (take (suc j) bytes) ≡ suc j = laid_length' in
        lay_in (take (suc j) bytes) (addr + j) fits (omega arith) (omega arith)
        ∙ ap (λ (n : ℕ). cond (keep (addr + j)) (get_or (take (suc j) bytes) n 0) (get_or s (addr + j) 0)) (add-sub_cancel_left addr j)
        ∙ ap (λ (x : ℕ). cond (keep (addr + j)) x (get_or s (addr + j) 0)) (get_or-take (suc j) bytes j 0 (le_refl (suc j)))
        ∙ ap (λ (x : ℕ). cond (keep (addr + j)) (get_or bytes j 0) x) (sym (lay_above (take j bytes) (addr + j) fits (omega arith)))

    -- a list that has the new byte, and is the old one elsewhere
    lay_next : (next : List ℕ) → length next ≡ length laid → cond (keep (addr + j)) (get_or bytes j 0) (get_or laid (addr + j) 0) ≡ get_or next (addr + j) 0
        → ((i : ℕ) → (i ≡ addr + j → ⊥) → get_or next i 0 ≡ get_or laid i 0) → lay keep s addr (take (suc j) bytes) ≡ next
    lay_next next long new other =
        ext_get_or 0 (lay keep s addr (take (suc j) bytes)) next (length_lay (take (suc j) bytes) ∙ sym (long ∙ length_lay (take j bytes)))
        (λ i h.
        let g : i < length s = subst (λ (n : ℕ). i < n) (length_lay (take (suc j) bytes)) h in
        by_cases (ℕ_discrete i (addr + j))
        (λ e. subst⁻¹ (λ (n : ℕ). get_or (lay keep s addr (take (suc j) bytes)) n 0 ≡ get_or next n 0) e (lay_new ∙ new))
        (λ ne. lay_other i g ne ∙ sym (other i ne)))

    pub lay_kept : keep (addr + j) ≡ true → lay keep s addr (take (suc j) bytes) ≡ set laid (addr + j) (get_or bytes j 0)
    lay_kept k =
        let there : addr + j < length laid = subst⁻¹ (λ (n : ℕ). addr + j < n) (length_lay (take j bytes)) fits in
        lay_next (set laid (addr + j) (get_or bytes j 0)) (length-set laid (addr + j) (get_or bytes j 0))
        (ap (λ (b : Bool). cond b (get_or bytes j 0) (get_or laid (addr + j) 0)) k ∙ sym (get_or-set_same laid (addr + j) (get_or bytes j 0) 0 there))
        (λ i ne. get_or-set_other laid (addr + j) i (get_or bytes j 0) 0 ne)

    pub lay_lost : keep (addr + j) ≡ false → lay keep s addr (take (suc j) bytes) ≡ laid
    lay_lost k = lay_next laid refl (ap (λ (b : Bool). cond b (get_or bytes j 0) (get_or laid (addr + j) 0)) k) (λ i ne. refl)

-- bytes pasted into an image that has room for them are laid there
pub paste_is_update : (s : List ℕ) (addr : ℕ) (bytes : List ℕ) → addr + length bytes ≤ length s → paste s addr bytes (length bytes) ≡ update_bytes s addr bytes
paste_is_update s addr bytes fits =
    first (length bytes) (le_refl (length bytes))
    ∙ ap (lay (λ i. true) s addr) (take-length bytes)
    ∙ sym (update_is_lay s addr bytes)
  where
    first : (j : ℕ) → j ≤ length bytes → paste s addr bytes j ≡ lay (λ i. true) s addr (take j bytes)
    first zero h = sym (paste-zero s addr bytes) ∙ sym (lay_none (λ i. true) s addr)
    first (suc j) h =
        ap (paste s addr bytes) (sym (add-one j))
        ∙ sym (paste_more s addr bytes j 0 (omega arith) (omega arith))
        ∙ ap (λ (t : List ℕ). set t (addr + j) (get_or bytes j 0)) (first j (omega arith))
        ∙ sym (lay_kept (λ i. true) s addr bytes j (omega arith) (omega arith) refl)

-- an image laid over another of its length takes its place
pub update_whole : (s bytes : List ℕ) → length s ≡ length bytes → update_bytes s 0 bytes ≡ bytes
update_whole s bytes e =
    update_is_lay s 0 bytes
    ∙ ext_get_or 0 (lay (λ i. true) s 0 bytes) bytes (length_lay (λ i. true) s 0 bytes ∙ e)
    (λ i h.
    let g : i < length s = subst (λ (n : ℕ). i < n) (length_lay (λ i. true) s 0 bytes) h in
    lay_in (λ i. true) s 0 bytes i g (omega arith) (omega arith) ∙ ap (λ (k : ℕ). get_or bytes k 0) (sub-zero i))

-- what was laid is read back
pub update_reads_back : (s : List ℕ) (addr : ℕ) (bytes : List ℕ) → addr + length bytes ≤ length s → extract_bytes (update_bytes s addr bytes) addr (length bytes) ≡ bytes
update_reads_back s addr bytes h =
    ap (λ (t : List ℕ). extract_bytes t addr (length bytes)) (update_is_lay s addr bytes)
    ∙ ext_get_or 0 (extract_bytes laid addr (length bytes)) bytes whole
    (λ i g.
    let below : i < length bytes = subst (λ (n : ℕ). i < n) whole g in
    get_or-take (length bytes) (drop addr laid) i 0 below
    ∙ get_or-drop addr laid i 0
    ∙ lay_in (λ i. true) s addr bytes (addr + i) (omega arith) (omega arith) (omega arith)
    ∙ ap (λ (k : ℕ). get_or bytes k 0) (add-sub_cancel_left addr i))
  where
    laid : List ℕ
    laid = lay (λ i. true) s addr bytes

    whole : length (extract_bytes laid addr (length bytes)) ≡ length bytes
    whole = length-take-le (length bytes) (drop addr laid) (omega (arith, length-drop addr laid, length_lay (λ i. true) s addr bytes))
