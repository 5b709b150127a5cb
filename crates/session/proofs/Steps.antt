-- Every step of a run keeps what a session holds, whatever its answer: each case takes the call's own promise apart. Assumes nothing.
use Prim.Native.Nat.{ℕ, zero, suc, ◌+◌, ◌<◌}
use native.Mathlib.Omega.{arith}
use mathlib.Core.Path.{◌≡◌, refl, sym, ap, ◌∙◌}
use mathlib.Core.Bool.{false}
use mathlib.Core.List.{List}
use lib.Dec.{lit<}
use lib.ListN.{length, get_or, replicate}
use Rattle.std.specs.Prelude.{Err, Ok}
use Rattle.region.specs.Answer.{Report, Answer, done, Counted}
use Rattle.region.specs.declared.Refusal.{Refusal}
use Rattle.region.proofs.AnswerLaws.{refusal_not_done, changed, left}
use Rattle.pieces.specs.AsyncSpec.{Write, AsyncView, committed, readable, flush_selective}
use Rattle.pieces.specs.Rows.{rows_at}
use Rattle.cuts.specs.Bits as bits
use Rattle.cuts.proofs.Always.{cut_could_leave_the_read_image, cut_could_leave_the_last_flush}
use Rattle.cuts.proofs.Flush.{flush_leaves_the_read_image}
use Rattle.cuts.proofs.Nothing.{cut_that_keeps_nothing}
use Rattle.cuts.proofs.Shape.{shaped_rows_crash}
use Rattle.cuts.proofs.Tables.{rows_at_shape}
use Rattle.desk.specs.State.{fresh}
use Rattle.desk.specs.Desk.{Desk, desk, chunk_size, chunks, view, settled_desk, opened_desk}
use Rattle.desk.proofs.Views.{writes_counted}
use Rattle.writelog.specs.Write.{Writes}
use Rattle.writelog.specs.Flush.{Flushes}
use Rattle.writelog.specs.Cut.{Cuts}
use Rattle.gate.specs.Opening.{Opens}
use Rattle.gate.specs.Judgement.{Judges, Gates, Judged}
use Rattle.gate.specs.Meaning.{CouldBeLeft}
use Rattle.gate.specs.declared.Verdict.TheVariants as verdict
use Rattle.gate.proofs.Gives.{Holds, opens_means, opened_fresh}
use Rattle.epochs.proofs.PredictLaws.{predicted_cut}
use Rattle.tape.specs.Memory.{TapeDesk, by_tape}
use Rattle.tape.specs.Write.{TapeWrites}
use Rattle.tape.specs.Flush.{TapeFlushes}
use Rattle.tape.specs.Cut.{TapeCuts}
use Rattle.tape.proofs.NumberLaws.{ending_done}
use Rattle.session.specs.History.{Event, nothing, written, flushed, cut_by, reopened, if_answered, if_admitted, if_cut, rows_there, none_kept, happen, settled}
use Rattle.session.specs.Run as run
use Rattle.session.specs.Run.{Step}
use Rattle.session.proofs.Keeps.{Keeps, stays, unmoved, records, settles}

-- the number of a report
pub numbered : {r : Report} {n : ℕ} {values : List ℕ} → r ≡ record { number = n; values = values } → n ≡ r.number
numbered e = sym (ap (λ (r : Report). r.number) e)

-- what is left of a tape call's desk
memory_of : {t t' : TapeDesk} → t' ≡ t → t'.memory ≡ t.memory
memory_of e = ap (λ (t : TapeDesk). t.memory) e

-- rows of no set bit keep nothing
no_bit : (n c : ℕ) → get_or (replicate n false) c false ≡ false
no_bit zero c = refl
no_bit (suc n) zero = refl
no_bit (suc n) (suc c) = no_bit n c

no_row : (n K j c : ℕ) → bits.row_bit_at (replicate n (replicate K false)) j c ≡ false
no_row zero K j c = refl
no_row (suc n) K zero c = no_bit K c
no_row (suc n) K (suc j) c = no_row n K j c

-- so a cut by them leaves the image at the last flush
pub none_kept_leaves : (C : ℕ) → 0 < C → (v : AsyncView) → flush_selective C v (none_kept C v) ≡ committed v
none_kept_leaves C C⁺ v =
    cut_that_keeps_nothing C C⁺ v (none_kept C v)
    (λ j c h k. no_row (length v.outstanding_writes) (bits.view_chunks C v) j c)

module _ {sheet : List ℕ} {d : Desk} (h : Holds d sheet) where
  -- writes
  gate_keeps : {work : List ℕ} {w : Write} (v : Judged) {d' : Desk} {work' : List ℕ} → Gates d sheet work w v d' work'
      → Keeps sheet d (if_admitted v (written w)) d'
  gate_keeps (Ok (verdict.Admitted n)) p = records h p.judges (changed d p.leaves (numbered p.judges.answers))
  gate_keeps (Ok (verdict.Denied m)) p = unmoved h (left _ p.leaves (lit< tt) (numbered p.judges.answers))
  gate_keeps (Err why) p = unmoved h (left _ p.leaves (refusal_not_done why) (numbered p.judges.answers))

  refused_write_keeps : {w : Write} {why : Refusal} {d' : Desk} → Writes d w (Err why) d' → Keeps sheet d nothing d'
  refused_write_keeps {why = why} p = unmoved h (left _ p.leaves (refusal_not_done why) (sym p.answers))

  write_keeps : {work : List ℕ} {w : Write} {n : ℕ} {work' : List ℕ} → Judges d sheet work w (Ok (verdict.Admitted n)) work'
      → (a : Answer) {d' : Desk} → Writes d w a d' → Keeps sheet d (if_answered a (written w)) d'
  write_keeps j (Ok unit) p = records h j (changed d p.leaves (sym p.answers))
  write_keeps j (Err why) p = refused_write_keeps p

  -- endings: an image that a cut could leave, and an empty log
  ends : {e : Event} {x : List ℕ} {d' : Desk} → CouldBeLeft d x → happen (chunk_size d) (view d) e ≡ settled x → d' ≡ settled_desk d x → Keeps sheet d e d'
  ends c happens left = settles h d c happens left h.sized h.facts.buffer

  flushes : {d' : Desk} → d' ≡ settled_desk d (readable (view d)) → Keeps sheet d flushed d'
  unfolding happen
  flushes left = ends (cut_could_leave_the_read_image (chunk_size d) (lit< tt) (view d)) (flush_leaves_the_read_image (view d)) left

  cuts : (table : List ℕ) (at : ℕ) {d' : Desk} → d' ≡ settled_desk d (flush_selective (chunk_size d) (view d) (rows_there (chunk_size d) (view d) table at))
      → Keeps sheet d (cut_by table at) d'
  unfolding happen
  cuts table at left =
      let rows = rows_there (chunk_size d) (view d) table at in
      ends (rows, shaped_rows_crash (chunk_size d) (view d) rows (rows_at_shape _ _ table at)) refl left

  flush_keeps : (a : Answer) {d' : Desk} → Flushes d a d' → Keeps sheet d (if_answered a flushed) d'
  flush_keeps (Ok unit) p = flushes (changed d p.leaves (sym p.answers))
  flush_keeps (Err why) p = unmoved h (left _ p.leaves (refusal_not_done why) (sym p.answers))

  -- a table has a row for each record, which is one for each outstanding write
  cut_keeps : {table : List ℕ} (a : Counted) {d' : Desk} → Cuts d table a d' → Keeps sheet d (if_cut a (cut_by table 0)) d'
  cut_keeps {table} (Ok k) p =
      let counted = writes_counted d (omega (arith, h.sized, h.facts.few)) in
      cuts table 0
      (changed d p.leaves (numbered p.answers)
      ∙ ap (λ (n : ℕ). settled_desk d (flush_selective (chunk_size d) (view d) (rows_at (chunks d) n table 0))) (sym counted))
  cut_keeps (Err why) p = unmoved h (left _ p.leaves (refusal_not_done why) (numbered p.answers))

  -- a reopening loses what was outstanding and leaves the image, whatever memory it is handed for state and log
  reopened_keeps : {found d' : Desk} → found.image ≡ d.image → Opens found sheet done d' → Keeps sheet d reopened d'
  unfolding happen
  reopened_keeps {found} same p =
      settles h (opened_desk found) (cut_could_leave_the_last_flush (chunk_size d) (lit< tt) (view d)) (ap settled (none_kept_leaves (chunk_size d) (lit< tt) (view d)))
      (opened_fresh p refl ∙ ap (λ (x : List ℕ). desk x fresh found.log) same) refl ((opens_means p).0 refl).buffer

  open_keeps : (a : Answer) {d' : Desk} → Opens d sheet a d' → Keeps sheet d (if_answered a reopened) d'
  open_keeps (Ok unit) p = reopened_keeps refl p
  open_keeps (Err why) p = unmoved h (left _ p.leaves (refusal_not_done why) (sym p.answers))

  -- by tape
  module _ {start : ℕ} {predicted : List ℕ} {d' : Desk} {start' : ℕ} {predicted' : List ℕ} where
    refused_tape_write_keeps : {tape : List ℕ} {w : Write} {why : Refusal} → TapeWrites (by_tape d start predicted) tape w (Err why) (by_tape d' start' predicted') → Keeps sheet d nothing d'
    refused_tape_write_keeps {why = why} p = unmoved h (memory_of (left _ p.leaves (refusal_not_done why) (sym p.answers)))

    tape_write_keeps : {work : List ℕ} {w : Write} {n : ℕ} {work' : List ℕ} → Judges d sheet work w (Ok (verdict.Admitted n)) work'
        → {tape : List ℕ} (a : Answer) → TapeWrites (by_tape d start predicted) tape w a (by_tape d' start' predicted') → Keeps sheet d (if_answered a (written w)) d'
    tape_write_keeps j (Ok unit) p = records h j (memory_of (changed _ p.leaves (sym p.answers)))
    tape_write_keeps j (Err why) p = refused_tape_write_keeps p

    tape_flush_keeps : {tape : List ℕ} (a : Answer) → TapeFlushes (by_tape d start predicted) tape a (by_tape d' start' predicted') → Keeps sheet d (if_answered a flushed) d'
    tape_flush_keeps (Ok unit) p = flushes (memory_of (changed _ p.leaves (sym p.answers)))
    tape_flush_keeps (Err why) p = unmoved h (memory_of (left _ p.leaves (refusal_not_done why) (sym p.answers)))

    -- a cut that the tape foretells goes by the epoch's rows
    tape_cut_keeps : {tape : List ℕ} (a : Counted)
        → TapeCuts (by_tape d start predicted) tape a (by_tape d' start' predicted') → Keeps sheet d (if_cut a (cut_by tape (start + 1))) d'
    tape_cut_keeps {tape} (Ok k) p =
        let none = numbered p.answers in
        let ending = ending_done false (by_tape d start predicted) tape none in
        cuts tape (start + 1)
        (memory_of (changed _ p.leaves none) ∙ ap (settled_desk d) (predicted_cut (chunk_size d) tape start (view d) ending.foretold))
    tape_cut_keeps (Err why) p = unmoved h (memory_of (left _ p.leaves (refusal_not_done why) (numbered p.answers)))

pub step_keeps : {sheet : List ℕ} {d : Desk} {e : Event} {d' : Desk} → Holds d sheet → Step sheet d e d' → Keeps sheet d e d'
step_keeps h (run.gate {answer = a} p) = gate_keeps h a p
step_keeps h (run.judge p) = stays h
step_keeps h (run.judged_write {answer = a} j p) = write_keeps h j a p
step_keeps h (run.judged_tape_write {answer = a} j p) = tape_write_keeps h j a p
step_keeps h (run.refused_write p) = refused_write_keeps h p
step_keeps h (run.refused_tape_write p) = refused_tape_write_keeps h p
step_keeps h (run.flush {answer = a} p) = flush_keeps h a p
step_keeps h (run.tape_flush {answer = a} p) = tape_flush_keeps h a p
step_keeps h (run.cut {answer = a} p) = cut_keeps h a p
step_keeps h (run.tape_cut {answer = a} p) = tape_cut_keeps h a p
step_keeps h (run.reopen {answer = a} p) = open_keeps h a p
step_keeps h (run.restart same p) = reopened_keeps h same p
step_keeps h (run.refused_opening p) = stays h
step_keeps h (run.fill p) = stays h
step_keeps h (run.read p) = stays h
