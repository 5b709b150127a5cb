-- The state as it crosses to another language: 65 words of 64 bits, the count and then address and length of each record, oldest record first. A state of
-- another length is refusal 1 at every call.
use Rattle.std.specs.Prelude.{ℕ, ◌+◌, ◌*◌, List, ◌∷◌, get_or, drop}
use Rattle.region.specs.Limits.{writes_limit}
use Rattle.region.specs.Answer.{Report}
use Rattle.records.specs.Words.{records_of, record_words}
use Rattle.desk.specs.declared.state.State.{State}

abbrev pub state_words : ℕ
state_words = 1 + 2 * writes_limit

abbrev pub state_of : List ℕ → State
state_of words = record { count = get_or words 0 0; records = records_of (drop 1 words) }

abbrev pub words_of : State → List ℕ
words_of st = st.count ∷ record_words st.records

-- `report` afterwards: the n, m or kept that a call reports, or what it held where the call reports nothing
abbrev pub reported : Report → ℕ → ℕ
reported r held = get_or r.values 0 held
