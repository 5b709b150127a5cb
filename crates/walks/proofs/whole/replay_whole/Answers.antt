-- The outstanding records are the log. Assumes nothing.
use Rattle.desk.proofs.Soundness.{sound_facts}
use Rattle.walks.proofs.Walk.{all_remain}
use Rattle.walks.proofs.whole.replay_whole.Goals as goal

pub outstanding-requires : goal.outstanding-requires
outstanding-requires c = (sound_facts _ _ _ c.requires).few

pub whole_from-requires : goal.whole_from-requires
whole_from-requires c = rw c.outstanding.ensures.records (all_remain (sound_facts _ c.args.state.now _ c.requires))
