-- The first i records are those that the words say.
use Rattle.std.proofs.Common.{◌≡◌, length, take, drop}
use Rattle.region.specs.Limits.{writes_limit}
use Rattle.records.specs.Words.{records_of}
use Rattle.boundary.proofs.state_words.loaded.Given as goal

abbrev pub invariant-loop-i : goal.invariant-loop-i
invariant-loop-i l = (length l.r-items ≡ writes_limit) × (take l.i l.r-items ≡ take l.i (records_of (drop 1 l.words)))
