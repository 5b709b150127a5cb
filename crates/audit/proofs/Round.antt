-- The history of a round of the example: two pairs of writes, each flushed. Assumes nothing.
use Prim.Native.Nat.{ℕ}
use Rattle.rounds.proofs.ByteLog.{byte_write}
use Rattle.session.specs.History.{History, ◌then◌, written, flushed}

-- the history of a pair of writes, flushed, and of a round of two pairs
abbrev pub pair_of : (addr first second : ℕ) → History → History
pair_of addr first second h = h then written (byte_write addr first) then written (byte_write addr second) then flushed

abbrev pub round_of : (addr val0 val1 : ℕ) → History → History
round_of addr val0 val1 h = pair_of addr val1 val0 (pair_of addr val0 val1 h)
