-- Number 0 of the room for one record more: where it is given, and what it tells. Assumes nothing.
use Prim.Native.Nat.{ℕ, ◌+◌, ◌≤◌, ◌<◌}
use mathlib.Core.Path.{◌≡◌, ◌∙◌}
use mathlib.Core.Bool.{true}
use lib.Dec.{leb, ltb}
use borrow.Author.Tests.{lt-ltb, le-leb, leb-true, ltb-true}
use Rattle.region.specs.Limits.{writes_limit, log_limit}
use Rattle.region.specs.Answer.{unless}
use Rattle.region.proofs.AnswerLaws.{passed}
use Rattle.region.proofs.Booleans.{cond_when}
use Rattle.desk.specs.State.{log_records, together, room_number}
use Rattle.records.specs.declared.Record.{Record}
use Rattle.desk.specs.declared.state.State.{State}
use Rattle.desk.proofs.Soundness.{Room}

module _ (L : ℕ) (st : State) (r : Record) where
  abbrev end : ℕ
  end = r.addr + r.len

  abbrev bytes : ℕ
  bytes = together (log_records st) + r.len

  abbrev many : ℕ
  many = unless (leb bytes log_limit) 4 0

  abbrev full : ℕ
  full = unless (ltb st.count writes_limit) 3 many

  pub room_there : leb end L ≡ true → st.count < writes_limit → bytes ≤ log_limit → room_number L st r ≡ 0
  room_there inside few fits =
      cond_when (leb end L) full 2 inside
      ∙ cond_when (ltb st.count writes_limit) many 3 (lt-ltb st.count writes_limit few)
      ∙ cond_when (leb bytes log_limit) 0 4 (le-leb bytes log_limit fits)

  pub room_done : room_number L st r ≡ 0 → Room L st r
  room_done e =
      let a = passed _ e in
      let b = passed _ a.1 in
      let c = passed _ b.1 in
      record { lies = leb-true end L a.0; few = ltb-true st.count writes_limit b.0; fits = leb-true bytes log_limit c.0 }
