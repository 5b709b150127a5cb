-- A replay by a choice number is taken apart into its steps, and a trial's three steps leave the image of its number: the image, the log over it by the
-- number's lowest points, and the new write by those above. Assumes nothing.
use Prim.Native.Nat.{ℕ, ◌-◌, ◌/◌, ◌^◌, ◌≤◌}
use native.Mathlib.Omega.{arith}
use mathlib.Core.Path.{◌≡◌, refl}
use mathlib.Core.List.{List, [], ◌∷◌}
use lib.Dec.{lit<}
use lib.ListN.{length, take, drop}
use lib.Seq.{length-take-le}
use Rattle.pieces.specs.AsyncSpec.{Write, flush_writes_selective}
use Rattle.pieces.specs.Choice.{touched, rows_of}
use Rattle.pieces.specs.Laid.{laid_by_choice}
use Rattle.cuts.specs.Number.{choice_points}
use Rattle.cuts.proofs.Pairs.{choice_of_a_write}
use Rattle.records.specs.declared.Record.{Record}
use Rattle.desk.specs.State.{log_records, writes_of, recorded_write}
use Rattle.desk.specs.Desk.{Desk, chunk_size, view}
use Rattle.engine.specs.Trial.{replayed_by_choice}
use Rattle.engine.specs.Search.{Ready, trial_image}
use Rattle.engine.proofs.PointLaws.{points_of_the_log}

-- where no record is left
pub none_chosen : (C : ℕ) (rs : List Record) (work log : List ℕ) (m : ℕ) → length rs ≡ 0 → work ≡ replayed_by_choice C work rs log m
unfolding writes_of flush_writes_selective
none_chosen C [] work log m e = refl
none_chosen C (r ∷ rs) work log m e = absurd (omega arith)

-- What the writes after the first give by the number's points above the first's, over the image with that one laid by its own, is what they all give.
pub next_chosen : (C : ℕ) {all : List Record} {r : Record} {rs : List Record} → all ≡ r ∷ rs → (log work : List ℕ) (m : ℕ) {laid bytes behind : List ℕ} {k : ℕ}
    → r.len ≤ length log → bytes ≡ take r.len log → behind ≡ drop r.len log
    → length laid ≡ length work → laid ≡ laid_by_choice C work (recorded_write r bytes) m → k ≡ touched C r.addr r.len
    → replayed_by_choice C laid rs behind (m / 2 ^ k) ≡ replayed_by_choice C work all log m
unfolding writes_of flush_writes_selective rows_of
next_chosen C {r = r} first log work m has own others same e above = rw (same, e, above, own, others, first, length-take-le r.len log has)

-- a trial's image
pub trial_leaves : (d : Desk) (w : Write) (m : ℕ) {work_length n : ℕ} → Ready d work_length w n
    → {copied replayed work' : List ℕ} {rs : List Record} {older : ℕ}
    → copied ≡ d.image
    → rs ≡ log_records d.state
    → replayed ≡ replayed_by_choice (chunk_size d) copied rs d.log m
    → length replayed ≡ length d.image
    → older ≡ n - touched (chunk_size d) w.addr (length w.bytes)
    → work' ≡ laid_by_choice (chunk_size d) replayed w (m / 2 ^ older)
    → work' ≡ trial_image d w m
trial_leaves d w m {n = n} t c all p l o laid =
    let below : n - touched (chunk_size d) w.addr (length w.bytes) ≡ choice_points (chunk_size d) (view d) =
    omega (arith, t.counted, points_of_the_log d t.good) in
    rw (laid, l, p, c, all, o, below, choice_of_a_write (chunk_size d) (lit< tt) (view d) w m)
