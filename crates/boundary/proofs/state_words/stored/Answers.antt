-- A turn writes the two words of one record more. Assumes nothing.
use Rattle.std.proofs.Common.{◌≡◌, ◌+◌, ◌*◌, length, get_or, take, set, refl, ◌∙◌, arith, rules, length-set}
use Rattle.region.specs.Limits.{writes_limit}
use Rattle.records.proofs.ListWords.{front_more, front_all}
use Rattle.desk.specs.State.{no_record}
use Rattle.boundary.specs.Words.{state_words, words_of}
use Rattle.boundary.proofs.WordLaws.{store_more, words_length}
use Rattle.boundary.proofs.state_words.stored.Goals as goal

pub loop-i-init : goal.loop-i-init
loop-i-init c =
    let a = c.args in (
      length-set a.words.now 0 _ ∙ c.requires,
      front_more a.words.now (words_of a.state) 0 0 (omega (arith, c.requires)) (omega arith) refl refl,
    )

pub loop-i-preserved : goal.loop-i-preserved
loop-i-preserved c =
    let l = c.loop-i in
    let st = c.args.state in
    let sized : length st.records ≡ writes_limit = search rules in
    let r = get_or st.records l.i no_record in
    let at = 1 + 2 * l.i in (
      length-set (set l.words at r.addr) (at + 1) r.len ∙ length-set l.words at r.addr ∙ l.invariant.0,
      store_more st sized l.words l.i l.invariant.0 (omega (arith, c.loop-i-test.true, sized)) l.invariant.1,
    )

pub returns : goal.returns
returns c =
    let l = c.loop-i in
    let st = c.args.state in
    let sized : length st.records ≡ writes_limit = search rules in
    let last : l.i ≡ writes_limit = omega (arith, l.auto, c.loop-i-test.false, sized) in
    let front : take state_words l.words ≡ take state_words (words_of st) = rw last at l.invariant.1 in
    front_all l.words (words_of st) state_words l.invariant.0 (words_length st sized) front
