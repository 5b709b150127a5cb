-- The working image becomes the image, and the log is replayed over it. Assumes nothing.
use Rattle.std.proofs.Common.{sym, ap, ◌∙◌, length}
use Rattle.region.specs.Answer.{answer_number}
use Rattle.writelog.proofs.ReadLaws.{asked_done}
use Rattle.writelog.proofs.read.read_fill.Goals as goal

pub copy-requires : goal.copy-requires
copy-requires c = (asked_done {L = length c.args.image.now} (sym c.asked.ensures ∙ ap answer_number c.in_ok-asked.was)).whole

pub replay_whole-requires : goal.replay_whole-requires
replay_whole-requires c =
    rw c.copy.ensures (asked_done {L = length c.args.image.now} (sym c.asked.ensures ∙ ap answer_number c.in_ok-asked.was)).good
