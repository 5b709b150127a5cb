-- The points are counted by records, and the engine's promise is the judgement's. Assumes nothing.
use Rattle.std.proofs.Common.{ℕ, ◌+◌, ◌≡◌, length, sym, ◌∙◌, arith}
use mathlib.Core.Path.{ap₂}
use Rattle.region.specs.Limits.{image_limit}
use Rattle.pieces.specs.AsyncSpec.{Write}
use Rattle.pieces.specs.Choice.{touched}
use Rattle.desk.specs.State.{log_records}
use Rattle.desk.specs.Desk.{Desk, chunk_size}
use Rattle.desk.proofs.Soundness.{sound_facts}
use Rattle.walks.proofs.KeptLaws.{touched_le}
use Rattle.engine.specs.Count.{record_points}
use Rattle.engine.proofs.PointLaws.{inside_longer, record_points_le, points_with_a_write}
use Rattle.gate.specs.Judgement.{gate_points, Fitting}
use Rattle.gate.proofs.JudgementLaws.{weighs_many, weighs_admitted, weighs_denied}
use Rattle.gate.proofs.judge.weigh.Goals as goal

pub log_points-requires : goal.log_points-requires
log_points-requires c =
    let st = c.args.state.now in
    let facts = sound_facts _ st _ c.requires.good in
    record {
      sized = c.requires.sized;
      few = facts.few;
      inside = inside_longer _ image_limit (log_records st) facts.short facts.inside;
      room = facts.room;
    }

-- the points of the log and of the write are n
counted : {d : Desk} {work_length : ℕ} {w : Write} → Fitting d work_length w → {a b : ℕ} → a ≡ record_points (chunk_size d) (log_records d.state)
    → b ≡ touched (chunk_size d) w.addr (length w.bytes) → a + b ≡ gate_points d w
counted {d} {w = w} fits e f = ap₂ (◌+◌) e f ∙ sym (points_with_a_write d w fits.good)

pub returns-then-n-gt-POINTS_LIMIT : goal.returns-then-n-gt-POINTS_LIMIT
returns-then-n-gt-POINTS_LIMIT c = weighs_many c.requires (omega (arith, counted c.requires c.log_points.ensures c.touched.ensures))

pub returns-in-None : goal.returns-in-None
returns-in-None c =
    let points = counted c.requires c.log_points.ensures c.touched.ensures in
    weighs_admitted c.requires (omega (arith, points, c.if-n-gt-POINTS_LIMIT.false)) c.search.ensures c.in-None.is points

pub returns-in-Some : goal.returns-in-Some
returns-in-Some c =
    let points = counted c.requires c.log_points.ensures c.touched.ensures in
    weighs_denied c.requires (omega (arith, points, c.if-n-gt-POINTS_LIMIT.false)) c.search.ensures c.in-Some.is

-- no sum wraps: a log has no more points than bytes, and a write no more than the image
pub overflow_add-n : goal.overflow_add-n
overflow_add-n c =
    let a = c.args in
    let facts = sound_facts _ a.state.now _ c.requires.good in
    omega (
      arith,
      c.touched.ensures,
      c.log_points.ensures,
      record_points_le (log_records a.state.now),
      facts.room,
      facts.short,
      touched_le a.write.addr (length a.write.bytes.now),
      c.requires.lies,
    )
