-- Over a copy of the image the log is replayed by the epoch's rows under 00. Assumes nothing.
use Rattle.std.proofs.Common.{sym, ◌∙◌, arith}
use Rattle.desk.specs.Desk.{desk}
use Rattle.desk.proofs.Soundness.{sound_facts}
use Rattle.epochs.proofs.PredictLaws.{selected_replay_is_predicted}
use Rattle.epochs.proofs.predict.predict.Goals as goal

pub returns-else-flush_foretold : goal.returns-else-flush_foretold
returns-else-flush_foretold c =
    let a = c.args in
    c.replay_selected.ensures
    ∙ selected_replay_is_predicted (desk a.image.now a.state.now a.log.now) a.tape.bytes.now a.tape.start
    c.copy.ensures
    (omega (arith, (sound_facts _ a.state.now _ c.requires.good).few, c.requires.sized))
    (sym c.flush_foretold.ensures ∙ c.if-flush_foretold.false)
