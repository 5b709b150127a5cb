-- Each law gives a clause of the original, named by its row in docs/CONTRACTS.md, from a definition or a promise here. Assumes nothing.
use Prim.Native.Nat.{ℕ, zero, suc, ◌+◌, ◌<◌}
use native.Mathlib.Nat.{le_of_suc-le-suc, not-suc-le-zero, min-le_left}
use native.Mathlib.Omega.{arith}
use mathlib.Core.Path.{◌≡◌, refl, sym, ap, subst⁻¹, ◌∙◌}
use mathlib.Core.Bool.{Bool, true}
use mathlib.Core.List.{List, [], ◌∷◌}
use lib.Dec.{leb}
use lib.ListN.{length, get_or, drop, length-take}
use borrow.Author.Tests.{leb-true}
use Rattle.std.specs.Prelude.{Err, Ok}
use Rattle.region.specs.Limits.{writes_limit}
use Rattle.region.specs.Pmemspec.{extract_bytes}
use Rattle.region.specs.View.{PersistentMemoryRegionView}
use Rattle.region.proofs.AnswerLaws.{refusal_not_done, changed, left, passed}
use Rattle.region.proofs.Booleans.{both}
use Rattle.region.specs.Answer.{Answer, done}
use Rattle.pieces.specs.AsyncSpec.{Write, no_write, AsyncView, len, WritesValid, Within, write, flush, readable, CanCrashAs, CanCrash}
use Rattle.pieces.proofs.Laid.{update_reads_back}
use Rattle.cuts.specs.Prophecy.{prophecy}
use Rattle.cuts.specs.Shape.{HasShape}
use Rattle.cuts.proofs.Always.{cut_after_flush, cut_could_leave_the_read_image}
use Rattle.cuts.proofs.Flush.{flush_leaves_the_read_image}
use Rattle.cuts.proofs.Lengths.{length_flush}
use Rattle.cuts.proofs.OneMore.{read_of_a_write}
use Rattle.cuts.proofs.Prophecy.{prophecy_of_nothing}
use Rattle.cuts.proofs.Shape.{shaped_rows_crash}
use Rattle.cuts.proofs.Tables.{rows_at_shape}
use Rattle.desk.specs.State.{log_records, writes_of, records_inside, record_of}
use Rattle.desk.specs.Desk.{Desk, chunk_size, chunks, view, sound, opened_desk}
use Rattle.records.specs.declared.Record.{Record}
use Rattle.desk.proofs.RoomLaws.{room_done}
use Rattle.desk.proofs.Soundness.{sound_facts}
use Rattle.desk.proofs.Views.{writes_counted, view_of_recorded, view_of_settled}
use Rattle.writelog.specs.Write.{write_number, Writes}
use Rattle.writelog.specs.Flush.{Flushes}
use Rattle.writelog.specs.Cut.{desk_rows, cut_number, Cuts}
use Rattle.gate.specs.Opening.{Opens}
use Rattle.gate.proofs.Gives.{opened_fresh}
use Rattle.gate.proofs.JudgementLaws.{same_number}
use Rattle.epochs.specs.Epoch.{flush_foretold, epoch_rows}
use Rattle.epochs.specs.Foretold.{foretold}
use Rattle.epochs.proofs.Foretells.{foretold_of_nothing}
use Rattle.tape.specs.Memory.{TapeDesk}
use Rattle.tape.specs.Flush.{TapeFlushes}
use Rattle.tape.proofs.NumberLaws.{ending_done}
use Rattle.tape.proofs.Steps.{step_of_flush}

-- what a tape foretells of a desk: the original's view
abbrev pub foretold_on : (tape : List ℕ) → TapeDesk → PersistentMemoryRegionView
foretold_on tape t = foretold (chunk_size t.memory) tape t.start (view t.memory)

-- `serialize_and_write` of pmem_async_spec_t.rs, without the object: what a write inside the region put there is read back
pub written_is_read : (v : AsyncView) (w : Write) → Within (len v) w → extract_bytes (readable (write v w)) w.addr (length w.bytes) ≡ w.bytes
written_is_read v w h =
    ap (λ (s : List ℕ). extract_bytes s w.addr (length w.bytes)) (read_of_a_write v w)
    ∙ update_reads_back (readable v) w.addr w.bytes (subst⁻¹ (λ (n : ℕ). Within n w) (length_flush v) h)

-- `flush` of pmemspec_t.rs, `self@ == old(self)@`: where a flush was foretold it leaves the read image and the durable image as they were, whatever
-- is foretold next
pub flush_keeps_the_view : (C : ℕ) (v : AsyncView) (rows rows' : List (List Bool)) (flushed : Bool)
    → prophecy C flushed (flush v) rows' ≡ prophecy C true v rows
flush_keeps_the_view C v rows rows' flushed =
    ap (λ (w : AsyncView). prophecy C flushed w rows') (flush_leaves_the_read_image v) ∙ prophecy_of_nothing C flushed (readable v) rows'

-- `valid` of pmem_async_spec_t.rs: every outstanding write of a sound desk lies inside the image
inside_valid : (L : ℕ) (rs : List Record) (log : List ℕ) → records_inside L rs ≡ true
    → (i : ℕ) → i < length (writes_of rs log) → Within L (get_or (writes_of rs log) i no_write)
unfolding writes_of records_inside
inside_valid L [] log e i h = absurd (not-suc-le-zero h)
inside_valid L (r ∷ rs) log e zero h =
    let lies = leb-true (r.addr + r.len) L (both (leb (r.addr + r.len) L) (records_inside L rs) e).0 in
    omega (arith, lies, length-take r.len log, min-le_left r.len (length log))
inside_valid L (r ∷ rs) log e (suc i) h =
    inside_valid L rs (drop r.len log) (both (leb (r.addr + r.len) L) (records_inside L rs) e).1 i (le_of_suc-le-suc h)

pub sound_is_valid : (d : Desk) → sound d ≡ true → WritesValid (view d)
sound_is_valid d e = inside_valid (length d.image) (log_records d.state) d.log (sound_facts _ d.state _ e).inside

module _ (d : Desk) (sized : length d.state.records ≡ writes_limit) where
  -- `crash` of pmem_async_equiv_t.rs, which promises nothing: the image that a done cut leaves is one that the original's `can_crash_as` allows, with
  -- the rows that were handed in
  pub cut_leaves_a_crash : (table : List ℕ) {k : ℕ} {d' : Desk} → Cuts d table (Ok k) d'
      → CanCrashAs (chunk_size d) (view d) d'.image (desk_rows d table 0)
  unfolding cut_number
  cut_leaves_a_crash table p =
      let none : cut_number d table ≡ 0 = sym (same_number p.answers) in
      let facts = sound_facts _ d.state _ (passed _ none).0 in
      let rows = desk_rows d table 0 in
      let counted = writes_counted d (omega (arith, sized, facts.few)) in
      let shape = subst⁻¹ (λ (n : ℕ). HasShape (chunks d) n rows) counted (rows_at_shape (chunks d) d.state.count table 0) in
      subst⁻¹ (λ (x : Desk). CanCrashAs (chunk_size d) (view d) x.image rows) (changed d p.leaves none)
      (shaped_rows_crash (chunk_size d) (view d) rows shape)

  -- `write` of pmem_async_spec_t.rs: a done write puts the write to the end of the log
  pub done_write_writes : (w : Write) {d' : Desk} → Writes d w done d' → view d' ≡ write (view d) w
  unfolding write_number
  done_write_writes w p =
      let tests = passed _ (sym p.answers) in
      ap view (changed d p.leaves (sym p.answers))
      ∙ view_of_recorded d w sized (sound_facts _ d.state _ tests.0) (room_done _ d.state (record_of w) tests.1)

-- `flush` of pmem_async_spec_t.rs: a done flush flushes
pub done_flush_flushes : (d : Desk) {d' : Desk} → Flushes d done d' → view d' ≡ flush (view d)
done_flush_flushes d p =
    ap view (changed d p.leaves (sym p.answers)) ∙ view_of_settled d (readable (view d)) ∙ sym (flush_leaves_the_read_image (view d))

-- `flush` of pmemspec_t.rs, power_t.rs and power_v.rs, `self@ == old(self)@`, of the calls. The plain one: by every prophecy that a flush comes, the view after
-- a done flush is the view before.
abbrev pub awaiting_a_flush : Desk → (rows : List (List Bool)) → PersistentMemoryRegionView
awaiting_a_flush d rows = prophecy (chunk_size d) true (view d) rows

pub done_flush_keeps_the_view : (d : Desk) {d' : Desk} → Flushes d done d' → (rows rows' : List (List Bool)) (flushed : Bool)
    → prophecy (chunk_size d) flushed (view d') rows' ≡ awaiting_a_flush d rows
done_flush_keeps_the_view d p rows rows' flushed =
    ap (λ (v : AsyncView). prophecy (chunk_size d) flushed v rows') (done_flush_flushes d p) ∙ flush_keeps_the_view (chunk_size d) (view d) rows rows' flushed

-- The one by tape, whatever it answers: what the tape foretells of the desk afterwards is what it foretold before.
pub tape_flush_keeps_the_view : (t : TapeDesk) (tape : List ℕ) (a : Answer) {t' : TapeDesk} → length t.memory.state.records ≡ writes_limit
    → TapeFlushes t tape a t' → foretold_on tape t' ≡ foretold_on tape t
tape_flush_keeps_the_view t tape (Ok unit) {t'} sized p =
    let none = sym p.answers in
    let rows : List (List Bool) = epoch_rows (chunks t.memory) (length (view t.memory).outstanding_writes) tape t.start in
    ap (λ (v : AsyncView). foretold (chunk_size t.memory) tape t'.start v) (step_of_flush sized p none).flushed
    ∙ flush_keeps_the_view (chunk_size t.memory) (view t.memory) rows _ (flush_foretold tape t'.start)
    ∙ ap (λ (b : Bool). prophecy (chunk_size t.memory) b (view t.memory) rows) (sym (ending_done true t tape none).foretold)
tape_flush_keeps_the_view t tape (Err why) sized p = ap (foretold_on tape) (left _ p.leaves (refusal_not_done why) (sym p.answers))

-- the comment on `flush` in power_v.rs: what a cut could leave after a flush, it could have left before
pub flush_narrows : (C : ℕ) → 0 < C → (v : AsyncView) (x : List ℕ) → CanCrash C (flush v) x → CanCrash C v x
flush_narrows C positive v x h = subst⁻¹ (CanCrash C v) ((cut_after_flush C v x).0 h) (cut_could_leave_the_read_image C positive v)

-- `new` of pmem_async_equiv_t.rs: after a good opening the read image and the durable image are the image, whatever the tape foretells
pub opened_is_foretold : (C : ℕ) (tape : List ℕ) (start : ℕ) (d : Desk) (sheet : List ℕ) {d' : Desk}
    → Opens d sheet done d' → foretold C tape start (view d') ≡ record { read_state = d.image; durable_state = d.image }
opened_is_foretold C tape start d sheet p =
    ap (λ (x : Desk). foretold C tape start (view x)) (opened_fresh p refl)
    ∙ ap (foretold C tape start) (view_of_settled (opened_desk d) d.image)
    ∙ foretold_of_nothing C tape start d.image
