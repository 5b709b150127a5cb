-- Words and records undo each other, and what stands where. Assumes nothing.
use Prim.Native.Nat.{ℕ, zero, suc, ◌+◌, ◌*◌, ◌<◌}
use native.Mathlib.Omega.{arith}
use native.Mathlib.Numerals.{add-one}
use mathlib.Core.Path.{◌≡◌, refl, sym, ap, ap₂, ◌∙◌}
use mathlib.Core.List.{List, [], ◌∷◌, ◌++◌}
use lib.ListN.{length, get_or, take, set, length-set}
use lib.Seq.{take-suc, take-suc-set, take_all}
use Rattle.records.specs.Record.{no_record}
use Rattle.records.specs.Words.{records_of, record_words}
use Rattle.records.specs.declared.Record.{Record}

pub records_back : (rs : List Record) → records_of (record_words rs) ≡ rs
unfolding records_of record_words
records_back [] = refl
records_back (r ∷ rs) = ap (λ (l : List Record). r ∷ l) (records_back rs)

pub length_record_words : (rs : List Record) → length (record_words rs) ≡ 2 * length rs
unfolding record_words
length_record_words [] = refl
length_record_words (r ∷ rs) = omega (arith, length_record_words rs)

-- an even number of words says a whole number of records
pub words_back : (n : ℕ) (words : List ℕ) → length words ≡ 2 * n → record_words (records_of words) ≡ words
unfolding records_of record_words
words_back n [] e = refl
words_back n (addr ∷ []) e = absurd (omega arith)
words_back zero (addr ∷ (len ∷ words)) e = absurd (omega arith)
words_back (suc n) (addr ∷ (len ∷ words)) e = ap (λ (l : List ℕ). addr ∷ (len ∷ l)) (words_back n words (omega arith))

pub length_records : (n : ℕ) (words : List ℕ) → length words ≡ 2 * n → length (records_of words) ≡ n
unfolding records_of
length_records n [] e = omega arith
length_records n (addr ∷ []) e = absurd (omega arith)
length_records zero (addr ∷ (len ∷ words)) e = absurd (omega arith)
length_records (suc n) (addr ∷ (len ∷ words)) e = ap suc (length_records n words (omega arith))

-- the two words of record i
pub addr_at : (rs : List Record) (i : ℕ) → (get_or rs i no_record).addr ≡ get_or (record_words rs) (2 * i) 0
unfolding record_words
addr_at [] i = refl
addr_at (r ∷ rs) zero = refl
addr_at (r ∷ rs) (suc i) =
    let k : suc (suc (2 * i)) ≡ 2 * suc i = omega arith in
    addr_at rs i ∙ ap (λ (j : ℕ). get_or (record_words (r ∷ rs)) j 0) k

pub len_at : (rs : List Record) (i : ℕ) → (get_or rs i no_record).len ≡ get_or (record_words rs) (2 * i + 1) 0
unfolding record_words
len_at [] i = refl
len_at (r ∷ rs) zero = refl
len_at (r ∷ rs) (suc i) =
    let k : suc (suc (2 * i + 1)) ≡ 2 * suc i + 1 = omega arith in
    len_at rs i ∙ ap (λ (j : ℕ). get_or (record_words (r ∷ rs)) j 0) k

-- so a row of words has them too
pub record_at : (n : ℕ) (words : List ℕ) (i : ℕ) → length words ≡ 2 * n
    → record { addr = get_or words (2 * i) 0; len = get_or words (2 * i + 1) 0 } ≡ get_or (records_of words) i no_record
record_at n words i e =
    let back = words_back n words e in
    sym (ap₂ (λ (addr len : ℕ). record { addr = addr; len = len })
    (addr_at (records_of words) i ∙ ap (λ (l : List ℕ). get_or l (2 * i) 0) back)
    (len_at (records_of words) i ∙ ap (λ (l : List ℕ). get_or l (2 * i + 1) 0) back))

-- one element more of a list that is filled from the front
pub front_more {ℓ} : {A : Type ℓ} (l m : List A) (i : ℕ) {a : A} (d : A) → i < length l → i < length m → a ≡ get_or m i d → take i l ≡ take i m
    → take (i + 1) (set l i a) ≡ take (i + 1) m
front_more {A = A} l m i {a} d h k e front =
    rw add-one
    (take-suc-set l i a h ∙ ap₂ (λ (xs : List A) (x : A). xs ++ (x ∷ [])) front e ∙ sym (take-suc m i d k))

-- two elements more
pub pair_more : (l m : List ℕ) (at : ℕ) {a b : ℕ} → at + 1 < length l → length m ≡ length l → a ≡ get_or m at 0 → b ≡ get_or m (at + 1) 0 → take at l ≡ take at m
    → take (at + 1 + 1) (set (set l at a) (at + 1) b) ≡ take (at + 1 + 1) m
pair_more l m at {a} {b} h k first second front =
    front_more (set l at a) m (at + 1) 0 (omega (arith, length-set l at a)) (omega arith) second
    (front_more l m at 0 (omega arith) (omega arith) first front)

-- a list that is filled to its end
pub front_all {ℓ} : {A : Type ℓ} (l m : List A) (n : ℕ) → length l ≡ n → length m ≡ n → take n l ≡ take n m → l ≡ m
front_all l m n h k e = sym (take_all n l (omega arith)) ∙ e ∙ take_all n m (omega arith)
