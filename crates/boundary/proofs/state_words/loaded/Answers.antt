-- A turn reads one record more. Assumes nothing.
use Rattle.std.proofs.Common.{◌≡◌, List, get_or, take, drop, ap, ◌∙◌, arith, length-set}
use Rattle.region.specs.Limits.{writes_limit}
use Rattle.records.specs.Record.{no_record}
use Rattle.records.specs.Words.{records_of}
use Rattle.records.specs.declared.Record.{Record}
use Rattle.records.proofs.ListWords.{front_more, front_all}
use Rattle.boundary.proofs.WordLaws.{said_length}
use Rattle.boundary.proofs.state_words.loaded.Goals as goal

pub loop-i-preserved : goal.loop-i-preserved
loop-i-preserved c =
    let l = c.loop-i in
    let said = records_of (drop 1 c.args.words.now) in (
      length-set l.r-items l.i _ ∙ l.invariant.0,
      front_more l.r-items said l.i no_record (omega (arith, c.loop-i-test.true, l.invariant.0)) (omega (arith, said_length c.args.words.now c.requires))
          c.record_at.ensures l.invariant.1,
    )

pub returns : goal.returns
returns c =
    let l = c.loop-i in
    let words = c.args.words.now in
    let said = records_of (drop 1 words) in
    let last : l.i ≡ writes_limit = omega arith in
    let front : take writes_limit l.r-items ≡ take writes_limit said = rw last at l.invariant.1 in
    ap (λ (rs : List Record). record { count = get_or words 0 0; records = rs })
    (front_all l.r-items said writes_limit l.invariant.0 (said_length words c.requires) front)
