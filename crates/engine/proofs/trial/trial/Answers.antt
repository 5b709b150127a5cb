-- The image, the log by the number's lowest points, and the new write by those above. Assumes nothing.
use Rattle.std.proofs.Common.{ℕ, ◌-◌, length, ap, ◌∙◌}
use Rattle.pieces.specs.Handed.{handed}
use Rattle.desk.specs.Desk.{desk}
use Rattle.desk.proofs.Soundness.{sound_facts}
use Rattle.walks.proofs.Walk.{all_remain}
use Rattle.engine.proofs.TrialLaws.{trial_leaves}
use Rattle.engine.proofs.trial.trial.Goals as goal

pub outstanding-requires : goal.outstanding-requires
outstanding-requires c = (sound_facts _ _ _ c.requires.good).few

pub chosen_from-requires-clause-remaining : goal.chosen_from-requires-clause-remaining
chosen_from-requires-clause-remaining c = rw (c.copy.ensures, c.outstanding.ensures.records) (all_remain (sound_facts _ c.args.state.now _ c.requires.good))

pub chosen_from-requires-clause-short : goal.chosen_from-requires-clause-short
chosen_from-requires-clause-short c = rw c.copy.ensures (sound_facts _ c.args.state.now _ c.requires.good).short

pub returns : goal.returns
returns c =
    let a = c.args in
    trial_leaves (desk a.image.now a.state.now a.log.now) (handed a.write) a.m c.requires
    c.copy.ensures
    c.outstanding.ensures.records
    c.chosen_from.ensures
    (c.chosen_from.auto.work ∙ ap length c.copy.ensures)
    (ap (λ (k : ℕ). a.points - k) c.touched.ensures)
    c.lay_chosen.ensures
