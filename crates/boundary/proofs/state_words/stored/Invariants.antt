-- The words of the count and of the first i records are the state's.
use Rattle.std.proofs.Common.{◌≡◌, ◌+◌, ◌*◌, length, take}
use Rattle.boundary.specs.Words.{state_words, words_of}
use Rattle.boundary.proofs.state_words.stored.Given as goal

abbrev pub invariant-loop-i : goal.invariant-loop-i
invariant-loop-i l =
    (length l.words ≡ state_words)
    × (take (1 + 2 * l.i) l.words ≡ take (1 + 2 * l.i) (words_of l.fn.state))
