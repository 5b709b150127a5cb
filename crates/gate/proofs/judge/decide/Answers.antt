-- The tests of a judgement from 1's working image on. Assumes nothing.
use Rattle.std.proofs.Common.{◌≡◌, length, sym, ap, ◌∙◌, arith}
use Rattle.std.proofs.lemmas.Result.{err_from_is_err_and}
use Rattle.region.specs.Answer.{answer_number}
use Rattle.desk.proofs.Soundness.{sound_facts}
use Rattle.gate.proofs.JudgementLaws.{judges_other_length, judges_malformed, judges_no_room}
use Rattle.gate.proofs.judge.decide.Goals as goal

pub returns-then-work-image : goal.returns-then-work-image
returns-then-work-image c = judges_other_length (λ same. absurd (omega (arith, same, c.if-work-image.true)))

-- the working image has the image's length, once its test is passed; `omega` reads the test, so that a slip in it fails by a number
pub returns-then-not-formed : goal.returns-then-not-formed
returns-then-not-formed c =
    let same : length c.args.work.now ≡ length c.args.image.now = omega (arith, c.if-work-image.false) in
    judges_malformed c.requires.good same (sym c.formed.ensures ∙ c.if-not-formed.true)

pub room-requires : goal.room-requires
room-requires c = (c.requires.counted, omega (arith, c.requires.counted, (sound_facts _ c.args.state.now _ c.requires.good).room))

pub returns-in_err-room : goal.returns-in_err-room
returns-in_err-room c =
    let same : length c.args.work.now ≡ length c.args.image.now = omega (arith, c.if-work-image.false) in
    let passed = err_from_is_err_and c.from_residual.result c.from_residual.ensures.1 in
    rw (passed.1, passed.2)
    (judges_no_room c.requires.good same (sym c.formed.ensures ∙ c.if-not-formed.false) c.in_err-room.field-0.0
    (sym c.room.ensures ∙ ap answer_number c.in_err-room.was))
