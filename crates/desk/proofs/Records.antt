-- The records of a log, one at a time, oldest first. Assumes nothing.
use Prim.Native.Nat.{ℕ, ◌+◌, ◌≤◌, ◌<◌}
use native.Mathlib.Nat.{le_trans, min-le_left}
use native.Mathlib.Numerals.{add-one}
use mathlib.Core.Path.{◌≡◌, ap, subst⁻¹, ◌∙◌}
use mathlib.Core.Bool.{◌&&◌}
use mathlib.Core.List.{List, [], ◌∷◌}
use lib.Dec.{leb}
use lib.ListN.{length, get_or, drop, length-take, drop_of_length-le}
use lib.Seq.{drop-cons, get_or-take, length-take-le}
use Rattle.desk.specs.State.{log_records, together, records_inside, no_record}
use Rattle.records.specs.declared.Record.{Record}
use Rattle.desk.specs.declared.state.State.{State}

-- what each definition over records takes from the next one of a list
module _ (rs : List Record) (i : ℕ) (h : i < length rs) where
  first_and_rest : drop i rs ≡ get_or rs i no_record ∷ drop (i + 1) rs
  first_and_rest = rw add-one (drop-cons rs i no_record h)

  pub together_next : together (drop i rs) ≡ (get_or rs i no_record).len + together (drop (i + 1) rs)
  unfolding together
  together_next = ap together first_and_rest

  pub inside_next : (L : ℕ) → records_inside L (drop i rs) ≡ (leb ((get_or rs i no_record).addr + (get_or rs i no_record).len) L && records_inside L (drop (i + 1) rs))
  unfolding records_inside
  inside_next L = ap (records_inside L) first_and_rest

pub records_none : (st : State) (i : ℕ) → st.count ≤ i → drop i (log_records st) ≡ []
records_none st i h =
    drop_of_length-le (log_records st) (le_trans (subst⁻¹ (λ (n : ℕ). n ≤ st.count) (length-take st.count st.records) (min-le_left st.count (length st.records))) h)

-- the record at i, and those after it
abbrev pub next : State → ℕ → Record
next st i = get_or st.records i no_record

abbrev pub rest : State → ℕ → List Record
rest st i = drop (i + 1) (log_records st)

-- the same of the next record of a state's log
module _ (st : State) (i : ℕ) (h : i < st.count) (l : st.count ≤ length st.records) where
  more : i < length (log_records st)
  more = subst⁻¹ (λ (n : ℕ). i < n) (length-take-le st.count st.records l) h

  pub here : get_or (log_records st) i no_record ≡ next st i
  here = get_or-take st.count st.records i no_record h

  pub next_and_rest : drop i (log_records st) ≡ next st i ∷ rest st i
  next_and_rest = first_and_rest (log_records st) i more ∙ ap (λ (r : Record). r ∷ rest st i) here

  pub together_more : together (drop i (log_records st)) ≡ (next st i).len + together (rest st i)
  together_more = together_next (log_records st) i more ∙ ap (λ (r : Record). r.len + together (rest st i)) here

  pub inside_more : (L : ℕ) → records_inside L (drop i (log_records st)) ≡ (leb ((next st i).addr + (next st i).len) L && records_inside L (rest st i))
  inside_more L = inside_next (log_records st) i more L ∙ ap (λ (r : Record). leb (r.addr + r.len) L && records_inside L (rest st i)) here
