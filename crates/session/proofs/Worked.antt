-- Sessions that are sessions: one run with every kind of step, and one by tape with every kind of step by tape, done and refused where a step can be both, made
-- of the calls of `worked`. So the theorems speak of something. Assumes nothing.
use Prim.Native.Nat.{ℕ}
use mathlib.Core.Path.{refl}
use mathlib.Core.List.{List, [], ◌∷◌}
use Rattle.worked.proofs.Calls.{zeros, eight_is_nine, twice, image_with, written_down, rows, tape, the_opening, the_verdict, the_admitted_write, the_denied_write, the_denied_verdict, the_refused_write, the_refused_gate, the_refused_tape_write, the_fill, the_refused_fill, the_read, the_refused_read, the_refused_cut, the_cut, the_second_verdict, the_plain_write, the_losing_reopening, the_refused_opening, the_third_verdict, the_plain_write_again, the_flush, the_restart, the_verdict_on_dd, the_tape_write, the_tape_write_past_the_end, the_refused_tape_cut, the_tape_flush, the_reopening, the_second_restart, the_refused_tape_flush, the_verdict_on_bb, the_second_tape_write, the_tape_cut}
use Rattle.session.specs.History.{nothing, written, flushed, cut_by, reopened, History, opening, ◌then◌}
use Rattle.session.specs.Run.{Run, opened, ◌and◌, gate, judge, judged_write, judged_tape_write, refused_write, refused_tape_write, flush, tape_flush, cut, tape_cut, reopen, restart, refused_opening, fill, read}
use Rattle.session.specs.TapeRun.{TapeRun}
use Rattle.session.specs.TapeRun as by_tape_run
use Rattle.session.proofs.Computing.{everything}

-- every kind of step
abbrev pub the_history : History
the_history =
    opening then nothing then written (twice 0xAA) then nothing then nothing then nothing then nothing then nothing
    then nothing then nothing then nothing then nothing then nothing then cut_by rows 0
    then written (twice 0xCC) then reopened then nothing then written (twice 0xCC) then flushed
    then reopened then nothing then written (twice 0xDD) then nothing then flushed then reopened then reopened then nothing
    then written (twice 0xBB) then cut_by tape 3

pub the_run : Run eight_is_nine zeros the_history (written_down (image_with 0xBB) 0xBB)
the_run =
    opened refl the_opening and judge the_verdict and gate the_admitted_write and gate the_denied_write and gate the_refused_gate
    and judge the_denied_verdict and refused_write the_refused_write and refused_tape_write the_refused_tape_write
    and fill the_fill and fill the_refused_fill and read the_read and read the_refused_read and cut the_refused_cut and cut the_cut
    and judged_write the_second_verdict the_plain_write and reopen the_losing_reopening and refused_opening the_refused_opening
    and judged_write the_third_verdict the_plain_write_again and flush the_flush
    and restart refl the_restart and judged_tape_write the_verdict_on_dd the_tape_write_past_the_end
    and judged_tape_write the_verdict_on_dd the_tape_write and tape_cut the_refused_tape_cut and tape_flush the_tape_flush
    and reopen the_reopening and restart refl the_second_restart and tape_flush the_refused_tape_flush
    and judged_tape_write the_verdict_on_bb the_second_tape_write and tape_cut the_tape_cut

-- every kind of step by tape
abbrev pub the_tape_history : History
the_tape_history =
    opening then written (twice 0xDD) then nothing then flushed then reopened then reopened then nothing then nothing
    then written (twice 0xBB) then cut_by tape 3

abbrev pub the_images : List (List ℕ)
the_images = image_with 0xBB ∷ image_with 0xBB ∷ image_with 0xDD ∷ image_with 0xDD ∷ []

pub the_tape_run : TapeRun eight_is_nine tape (image_with 0xCC) the_tape_history (written_down (image_with 0xBB) 0xBB) 4 the_images
unfolding everything
the_tape_run =
    by_tape_run.◌and◌
    (by_tape_run.◌and◌
    (by_tape_run.◌and◌
    (by_tape_run.◌and◌
    (by_tape_run.◌and◌
    (by_tape_run.◌and◌
    (by_tape_run.◌and◌
    (by_tape_run.◌and◌
    (by_tape_run.◌and◌ (by_tape_run.opened refl the_restart) (by_tape_run.judged_write the_verdict_on_dd the_tape_write))
    (by_tape_run.cut the_refused_tape_cut))
    (by_tape_run.flush the_tape_flush))
    (by_tape_run.reopen {predicted = []} refl the_reopening))
    (by_tape_run.restart {predicted = []} refl refl the_second_restart))
    (by_tape_run.flush the_refused_tape_flush))
    (by_tape_run.other {predicted = []} (judge the_verdict_on_bb)))
    (by_tape_run.judged_write the_verdict_on_bb the_second_tape_write))
    (by_tape_run.cut the_tape_cut)
