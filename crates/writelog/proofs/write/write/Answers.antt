-- The number is 1 where the state is unsound and otherwise that of the room there is; a write is recorded exactly where that is 0. Assumes nothing.
use Rattle.std.proofs.Common.{ℕ, sym, ap, ◌∙◌, arith}
use mathlib.Core.Path.{ap₂}
use Rattle.std.proofs.lemmas.Result.{err_from_is_err_and}
use Rattle.region.specs.Answer.{answer_number}
use Rattle.region.specs.Pmemspec.{update_bytes}
use Rattle.region.specs.declared.Refusal.TheVariants.{BadState}
use Rattle.pieces.specs.Handed.{handed}
use Rattle.desk.specs.Desk.{desk}
use Rattle.desk.proofs.RoomLaws.{room_done}
use Rattle.desk.proofs.Soundness.{told_bytes, told_stopped}
use Rattle.writelog.proofs.WriteLaws.{write_unsound, write_sound, writes_done, writes_refused}
use Rattle.writelog.proofs.write.write.Goals as goal

pub returns-in_err-used : goal.returns-in_err-used
returns-in_err-used c =
    let a = c.args in
    let stop = told_stopped _ a.state.now _ c.checked.ensures.0 c.in_err-used.was c.from_residual.ensures.1 in
    rw stop.0 (writes_refused BadState (write_unsound (desk a.image.now a.state.now a.log.now) (handed a.write) stop.1))

pub room-requires : goal.room-requires
room-requires c =
    let told = told_bytes _ c.args.state.now _ c.checked.ensures.0 c.in_ok-used.was in
    (told.counted, omega (arith, told.counted, told.facts.room))

pub returns-in_err-room : goal.returns-in_err-room
returns-in_err-room c =
    let a = c.args in
    let good = (told_bytes _ a.state.now _ c.checked.ensures.0 c.in_ok-used.was).good in
    let passed = err_from_is_err_and c.from_residual-in_err-room.result c.from_residual-in_err-room.ensures.1 in
    rw (passed.1, passed.2)
    (writes_refused c.in_err-room.field-0.0
    (write_sound (desk a.image.now a.state.now a.log.now) (handed a.write) good ∙ sym c.room.ensures ∙ ap answer_number c.in_err-room.was))

pub push-requires : goal.push-requires
push-requires c =
    let told = told_bytes _ c.args.state.now _ c.checked.ensures.0 c.in_ok-used.was in
    let room = room_done _ c.args.state.now _ (sym c.room.ensures ∙ ap answer_number c.in_ok-room.was) in
    (room.few, omega (arith, told.counted, told.facts.buffer, room.fits))

pub returns : goal.returns
returns c =
    let a = c.args in
    let told = told_bytes _ a.state.now _ c.checked.ensures.0 c.in_ok-used.was in
    writes_done (write_sound (desk a.image.now a.state.now a.log.now) (handed a.write) told.good ∙ sym c.room.ensures ∙ ap answer_number c.in_ok-room.was)
    (ap₂ (desk a.image.now) c.push.ensures.0 (c.push.ensures.1 ∙ ap (λ (n : ℕ). update_bytes a.log.now n a.write.bytes.now) told.counted))
