-- Words and state undo each other, and what stands where. Assumes nothing.
use Prim.Native.Nat.{ℕ, suc, ◌+◌, ◌*◌, ◌<◌}
use native.Mathlib.Omega.{arith}
use mathlib.Core.Path.{◌≡◌, sym, ap, ap₂, ◌∙◌}
use mathlib.Core.List.{List, [], ◌∷◌}
use lib.ListN.{length, get_or, take, drop, set, length-drop}
use lib.Seq.{get_or-drop}
use Rattle.region.specs.Limits.{writes_limit}
use Rattle.desk.specs.State.{no_record}
use Rattle.records.specs.Words.{records_of}
use Rattle.records.specs.declared.Record.{Record}
use Rattle.records.proofs.ListWords.{records_back, length_record_words, words_back, length_records, addr_at, len_at, record_at, pair_more}
use Rattle.desk.specs.declared.state.State.{State}
use Rattle.boundary.specs.Words.{state_words, state_of, words_of}

-- The two directions undo each other: any state comes back from its words, and as many words as a state has from their state.
pub state_back : (st : State) → state_of (words_of st) ≡ st
state_back st = ap (λ (rs : List Record). record { count = st.count; records = rs }) (records_back st.records)

pub same_words : (words : List ℕ) → length words ≡ state_words → words_of (state_of words) ≡ words
same_words [] e = absurd (omega arith)
same_words (count ∷ words) e = ap (λ (l : List ℕ). count ∷ l) (words_back writes_limit words (omega arith))

-- a state is read from its words one record at a time
module _ (words : List ℕ) (sized : length words ≡ state_words) where
  abbrev said : List Record
  said = records_of (drop 1 words)

  rest_length : length (drop 1 words) ≡ 2 * writes_limit
  rest_length = omega (arith, length-drop 1 words)

  pub said_length : length said ≡ writes_limit
  said_length = length_records writes_limit (drop 1 words) rest_length

  pub said_at : (i : ℕ) → record { addr = get_or words (1 + 2 * i) 0; len = get_or words (1 + 2 * i + 1) 0 } ≡ get_or said i no_record
  said_at i =
      let k : 1 + 2 * i + 1 ≡ 1 + (2 * i + 1) = omega arith in
      sym (ap₂ (λ (addr len : ℕ). record { addr = addr; len = len })
      (get_or-drop 1 words (2 * i) 0)
      (get_or-drop 1 words (2 * i + 1) 0 ∙ ap (λ (j : ℕ). get_or words j 0) (sym k)))
      ∙ record_at writes_limit (drop 1 words) i rest_length

-- and written one record at a time
module _ (st : State) (sized : length st.records ≡ writes_limit) where
  pub words_length : length (words_of st) ≡ state_words
  words_length = omega (arith, length_record_words st.records)

  pub store_more : (words : List ℕ) (i : ℕ) → length words ≡ state_words → i < writes_limit → take (1 + 2 * i) words ≡ take (1 + 2 * i) (words_of st)
      → take (1 + 2 * (i + 1)) (set (set words (1 + 2 * i) (get_or st.records i no_record).addr) (1 + 2 * i + 1) (get_or st.records i no_record).len)
      ≡ take (1 + 2 * (i + 1)) (words_of st)
  store_more words i full h front =
      let k : 1 + 2 * i + 1 + 1 ≡ 1 + 2 * (i + 1) = omega arith in
      let addr_place : suc (2 * i) ≡ 1 + 2 * i = omega arith in
      let len_place : suc (2 * i + 1) ≡ 1 + 2 * i + 1 = omega arith in
      let both = pair_more words (words_of st) (1 + 2 * i) (omega arith) (omega (arith, words_length))
      (addr_at st.records i ∙ ap (λ (j : ℕ). get_or (words_of st) j 0) addr_place)
      (len_at st.records i ∙ ap (λ (j : ℕ). get_or (words_of st) j 0) len_place) front in
      rw k at both
