-- Where there is room, and a right row for it, the write is recorded as the plain write does it and the image is predicted with it in the log.
-- Assumes nothing.
use Rattle.std.proofs.Common.{◌≡◌, ℕ, List, length, ap, ◌∙◌, arith}
use mathlib.Core.Path.{ap₂, subst⁻¹}
use Rattle.std.proofs.lemmas.Result.{err_from_is_err_and}
use Rattle.region.specs.Pmemspec.{update_bytes}
use Rattle.region.specs.declared.Refusal.TheVariants.{BadState}
use Rattle.pieces.specs.AsyncSpec.{Write}
use Rattle.pieces.specs.Handed.{handed}
use Rattle.desk.specs.State.{log_records, together, record_of, appended}
use Rattle.desk.specs.Desk.{Desk, desk, with_write}
use Rattle.desk.specs.declared.state.State.{State}
use Rattle.desk.proofs.Soundness.{told_bytes, told_stopped}
use Rattle.epochs.specs.Predictable.{Predictable}
use Rattle.epochs.specs.Foretold.{predicted_now}
use Rattle.tape.specs.Memory.{by_tape}
use Rattle.tape.proofs.NumberLaws.{unsound, missized, tape_write_unsound, tape_write_by_room, tape_write_done, predictable_with}
use Rattle.tape.proofs.PromiseLaws.{tape_writes_done, tape_writes_refused}
use Rattle.tape.proofs.tape_write.tape_write.Goals as goal

-- what `push` leaves is the desk with the write
pushed : (d : Desk) (w : Write) {used : ℕ} {st' : State} {log' : List ℕ} → (st' ≡ appended d.state (record_of w)) × (log' ≡ update_bytes d.log used w.bytes)
    → used ≡ together (log_records d.state) → desk d.image st' log' ≡ with_write d w
pushed d w put counted = ap₂ (desk d.image) put.0 (put.1 ∙ ap (λ (n : ℕ). update_bytes d.log n w.bytes) counted)

pub returns-in_err-used : goal.returns-in_err-used
returns-in_err-used c =
    let a = c.args in
    let stop = told_stopped _ a.state.now _ c.checked.ensures.0 c.in_err-used.was c.from_residual.ensures.1 in
    rw stop.0 (tape_writes_refused BadState (tape_write_unsound _ _ _ (unsound _ a.state.now _ _ stop.1)))

pub returns-then-predicted-image : goal.returns-then-predicted-image
returns-then-predicted-image c =
    let a = c.args in
    let told = told_bytes _ a.state.now _ c.checked.ensures.0 c.in_ok-used.was in
    tape_writes_refused BadState (tape_write_unsound _ _ _ (missized _ a.state.now _ _ told.good c.if-predicted-image.true))

pub tape_room-requires : goal.tape_room-requires
tape_room-requires c =
    let told = told_bytes _ c.args.state.now _ c.checked.ensures.0 c.in_ok-used.was in
    (told.counted, omega (arith, told.counted, told.facts.room), told.facts.short)

pub returns-in_err-tape_room : goal.returns-in_err-tape_room
returns-in_err-tape_room c =
    let a = c.args in
    let told = told_bytes _ a.state.now _ c.checked.ensures.0 c.in_ok-used.was in
    let passed = err_from_is_err_and c.from_residual-in_err-tape_room.result c.from_residual-in_err-tape_room.ensures.1 in
    rw (passed.1, passed.2)
    (tape_writes_refused c.in_err-tape_room.field-0.0
    (tape_write_by_room _ a.tape.bytes.now (handed a.write) told.good c.if-predicted-image.false c.tape_room.ensures c.in_err-tape_room.was))

pub push-requires : goal.push-requires
push-requires c =
    let a = c.args in
    let t = by_tape (desk a.image.now a.state.now a.log.now) a.tape.start a.predicted.now in
    let told = told_bytes _ a.state.now _ c.checked.ensures.0 c.in_ok-used.was in
    let number = tape_write_by_room t a.tape.bytes.now (handed a.write) told.good c.if-predicted-image.false c.tape_room.ensures c.in_ok-tape_room.was in
    let room = (tape_write_done number).room in
    (room.few, omega (arith, told.counted, told.facts.buffer, room.fits))

pub predict-requires : goal.predict-requires
predict-requires c =
    let a = c.args in
    let d = desk a.image.now a.state.now a.log.now in
    let t = by_tape d a.tape.start a.predicted.now in
    let told = told_bytes _ a.state.now _ c.checked.ensures.0 c.in_ok-used.was in
    let number = tape_write_by_room t a.tape.bytes.now (handed a.write) told.good c.if-predicted-image.false c.tape_room.ensures c.in_ok-tape_room.was in
    subst⁻¹ (λ (d : Desk). Predictable d a.tape.bytes.now a.tape.start (length a.predicted.now)) (pushed d (handed a.write) c.push.ensures told.counted)
    (predictable_with c.checked.ensures.1 (tape_write_done number))

pub returns : goal.returns
returns c =
    let a = c.args in
    let told = told_bytes _ a.state.now _ c.checked.ensures.0 c.in_ok-used.was in
    let with = pushed (desk a.image.now a.state.now a.log.now) (handed a.write) c.push.ensures told.counted in
    tape_writes_done (tape_write_by_room _ a.tape.bytes.now (handed a.write) told.good c.if-predicted-image.false c.tape_room.ensures c.in_ok-tape_room.was)
    (ap₂ (λ (d : Desk) (p : List ℕ). by_tape d a.tape.start p) with
    (c.predict.ensures ∙ ap (λ (d : Desk). predicted_now d a.tape.bytes.now a.tape.start) with))
