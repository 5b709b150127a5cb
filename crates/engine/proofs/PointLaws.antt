-- The choice points of a log, one record at a time. Assumes nothing.
use Prim.Native.Nat.{ℕ, ◌+◌, ◌≤◌, ◌<◌}
use native.Mathlib.Nat.{le_refl}
use native.Mathlib.Numerals.{add-one}
use native.Mathlib.Omega.{arith}
use mathlib.Core.Path.{◌≡◌, refl, ap, ap₂}
use mathlib.Core.Bool.{true}
use mathlib.Core.List.{List, [], ◌∷◌}
use lib.Dec.{leb}
use lib.ListN.{length, get_or, take, drop, length-drop}
use lib.Seq.{drop-cons, length-take-le}
use borrow.Author.Tests.{le-leb, leb-true}
use Rattle.region.specs.Limits.{const_persistence_chunk_size}
use Rattle.region.proofs.Booleans.{both, both_true}
use Rattle.pieces.specs.Choice.{touched, points}
use Rattle.pieces.specs.AsyncSpec.{Write, write}
use Rattle.cuts.specs.Number.{choice_points}
use Rattle.cuts.proofs.Choices.{points_of_one_more}
use Rattle.desk.specs.State.{log_records, together, writes_of, records_inside}
use Rattle.desk.specs.Desk.{Desk, chunk_size, view, sound}
use Rattle.records.specs.Record.{no_record}
use Rattle.records.specs.declared.Record.{Record}
use Rattle.walks.proofs.KeptLaws.{touched_le}
use Rattle.desk.proofs.Soundness.{sound_facts}
use Rattle.engine.specs.Count.{record_points}

pub points_by_records : (C : ℕ) (rs : List Record) (log : List ℕ) → together rs ≤ length log → points C (writes_of rs log) ≡ record_points C rs
unfolding points record_points writes_of together
points_by_records C [] log h = refl
points_by_records C (r ∷ rs) log h =
    let whole : length (take r.len log) ≡ r.len = length-take-le r.len log (omega arith) in
    ap₂ (λ (n m : ℕ). touched C r.addr n + m) whole (points_by_records C rs (drop r.len log) (omega (arith, length-drop r.len log)))

-- records inside an image lie inside a longer one
pub inside_longer : (L M : ℕ) (rs : List Record) → L ≤ M → records_inside L rs ≡ true → records_inside M rs ≡ true
unfolding records_inside
inside_longer L M [] h e = refl
inside_longer L M (r ∷ rs) h e =
    let parts = both (leb (r.addr + r.len) L) (records_inside L rs) e in
    both_true (le-leb (r.addr + r.len) M (omega (arith, leb-true (r.addr + r.len) L parts.0))) (inside_longer L M rs h parts.1)

-- the points of the first write, and of those after it
pub points_first : (C : ℕ) {all : List Record} {r : Record} {rs : List Record} → all ≡ r ∷ rs → record_points C all ≡ touched C r.addr r.len + record_points C rs
unfolding record_points
points_first C first = ap (record_points C) first

-- the same of those from i on
pub points_next : (C : ℕ) (rs : List Record) (i : ℕ) → i < length rs → let r = get_or rs i no_record in
    record_points C (drop i rs) ≡ touched C r.addr r.len + record_points C (drop (i + 1) rs)
points_next C rs i h = rw add-one (points_first C (drop-cons rs i no_record h))

-- a log has no more points than bytes
pub record_points_le : (rs : List Record) → record_points const_persistence_chunk_size rs ≤ together rs
unfolding record_points together
record_points_le [] = le_refl 0
record_points_le (r ∷ rs) = omega (arith, touched_le r.addr r.len, record_points_le rs)

-- the points of a sound log
pub points_of_the_log : (d : Desk) → sound d ≡ true → choice_points (chunk_size d) (view d) ≡ record_points (chunk_size d) (log_records d.state)
points_of_the_log d good =
    let facts = sound_facts _ d.state _ good in
    points_by_records (chunk_size d) (log_records d.state) d.log (omega (arith, facts.room, facts.buffer))

-- and with one write more
pub points_with_a_write : (d : Desk) (w : Write) → sound d ≡ true
    → choice_points (chunk_size d) (write (view d) w)
    ≡ record_points (chunk_size d) (log_records d.state) + touched (chunk_size d) w.addr (length w.bytes)
points_with_a_write d w good = rw (points_of_one_more, points_of_the_log d good)
