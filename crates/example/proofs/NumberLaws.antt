-- Which of a call's tests gives its number, what number 0 tells, and the promise of a done call and of a refused one; and that a number settles the answer
-- of a run. Assumes nothing.
use Prim.Native.Nat.{ℕ, ◌+◌, ◌≤◌, ◌<◌}
use native.Mathlib.Omega.{arith}
use mathlib.Core.Path.{◌≡◌, refl, sym, ap, ◌∙◌}
use mathlib.Core.Bool.{Bool, true, false, ◌&&◌}
use mathlib.Core.List.{List}
use lib.Dec.{leb, eqb}
use lib.ListN.{length, set}
use borrow.Author.Tests.{le-leb, lt-leb, leb-true, eq-eqb, ne_eqb, eqb-true}
use Rattle.std.specs.Prelude.{Err}
use Rattle.region.specs.Limits.{image_limit, log_limit}
use Rattle.region.specs.Answer.{unless, answer_number, refusal_number, Answer, done}
use Rattle.region.specs.declared.Refusal.{Refusal}
use Rattle.region.proofs.AnswerLaws.{done_changed, refused_left, passed, go_on, stop, both_none}
use Rattle.region.proofs.Booleans.{both, cond_when, cond_unless}
use Rattle.sheet.specs.Sheet.{well_formed, obeys}
use Rattle.desk.specs.Desk.{Desk}
use Rattle.gate.specs.Opening.{open_number, Opens}
use Rattle.gate.proofs.OpeningLaws.{open_good, open_broken}
use Rattle.gate.proofs.Gives.{opens_means, opened_fresh}
use Rattle.rounds.specs.Valid.{app_valid}
use Rattle.rounds.specs.declared.RunError.TheVariants.{Refused}
use Rattle.example.specs.Setup.{setup_number, SetsUp}
use Rattle.rounds.specs.Answer.{run_answer_number, RunAnswer}
use Rattle.rounds.specs.Steps.{Under}
use Rattle.example.specs.Run.{rounds_limit, fits_number, run_number, Runs, Repeats}

-- setup
module _ (image : List ℕ) (addr val0 : ℕ) where
  pub sets_up_refused : (why : Refusal) → setup_number image addr ≡ refusal_number why → SetsUp image addr val0 (Err why) image
  sets_up_refused why e = record { answers = sym e; image_after = refused_left why _ e }

  pub sets_up_done : setup_number image addr ≡ 0 → {image' : List ℕ} → image' ≡ set image addr val0 → SetsUp image addr val0 done image'
  sets_up_done none e = record { answers = sym none; image_after = e ∙ done_changed _ none }

  pub setup_long : image_limit < length image → setup_number image addr ≡ 1
  unfolding setup_number
  setup_long h = rw (lt-leb (length image) image_limit h)

  module _ (short : length image ≤ image_limit) where
    pub setup_outside : length image ≤ addr → setup_number image addr ≡ 2
    unfolding setup_number
    setup_outside h = rw (le-leb (length image) image_limit short, lt-leb (addr + 1) (length image) (omega arith))

    pub setup_inside : addr < length image → setup_number image addr ≡ 0
    unfolding setup_number
    setup_inside h = rw (le-leb (length image) image_limit short, le-leb (addr + 1) (length image) (omega arith))

  pub setup_done_lies : setup_number image addr ≡ 0 → addr < length image
  unfolding setup_number
  setup_done_lies e =
      let first = passed {good = leb (length image) image_limit} 0 e in
      let inside = leb-true (addr + 1) (length image) (passed 1 {rest = 0} first.1).0 in
      omega (arith, inside)

-- the tests of a run before the image is judged, by the lengths
module _ (L log_length work_length addr rounds : ℕ) where
  abbrev number : ℕ
  number = fits_number L log_length work_length addr rounds

  pub record Fit : Type 0 where
    pub short : L ≤ image_limit
    pub buffer : log_length ≡ log_limit
    pub same : work_length ≡ L
    pub lies : addr < L
    pub few : rounds ≤ rounds_limit

  pub fits_long : image_limit < L → number ≡ 1
  fits_long h = rw (lt-leb L image_limit h)

  module _ (short : L ≤ image_limit) where
    pub fits_other_log : (log_length ≡ log_limit → ⊥) → number ≡ 1
    fits_other_log n = rw (le-leb L image_limit short, ne_eqb log_length log_limit n)

    module _ (buffer : log_length ≡ log_limit) where
      pub fits_other_work : (work_length ≡ L → ⊥) → number ≡ 1
      fits_other_work n = rw (le-leb L image_limit short, eq-eqb log_length log_limit buffer, ne_eqb work_length L n)

      module _ (same : work_length ≡ L) where
        first_passed : number ≡ unless (leb (addr + 1) L) 2 (unless (leb rounds rounds_limit) 12 0)
        first_passed = rw (le-leb L image_limit short, eq-eqb log_length log_limit buffer, eq-eqb work_length L same)

        pub fits_outside : L ≤ addr → number ≡ 2
        fits_outside h = first_passed ∙ rw (lt-leb (addr + 1) L (omega arith))

        pub fits_many : addr < L → rounds_limit < rounds → number ≡ 12
        fits_many h m = first_passed ∙ rw (le-leb (addr + 1) L (omega arith), lt-leb rounds rounds_limit m)

  pub number_0_fits : number ≡ 0 → Fit
  number_0_fits e =
      let f₁ = passed {good = leb L image_limit && eqb log_length log_limit && eqb work_length L} 0 e in
      let f₂ = passed 1 f₁.1 in
      let f₃ = passed 11 {rest = 0} f₂.1 in
      let both₃ = both (leb L image_limit && eqb log_length log_limit) (eqb work_length L) f₁.0 in
      let both₂ = both (leb L image_limit) (eqb log_length log_limit) both₃.0 in
      let inside = leb-true (addr + 1) L f₂.0 in
      record {
        short = leb-true L image_limit both₂.0;
        buffer = eqb-true log_length log_limit both₂.1;
        same = eqb-true work_length L both₃.1;
        lies = omega (arith, inside);
        few = leb-true rounds rounds_limit f₃.0;
      }

  pub fits_done : Fit → number ≡ 0
  fits_done f =
      first_passed f.short f.buffer f.same ∙ rw (le-leb (addr + 1) L (omega (arith, f.lies)), le-leb rounds rounds_limit f.few)

module _ (image log work : List ℕ) (addr val0 val1 rounds : ℕ) where
  abbrev run_is : ℕ
  run_is = run_number image log work addr val0 val1 rounds

  -- 6, or 0
  abbrev judged : ℕ
  judged = unless (app_valid addr val0 val1 image) 6 0

  pub run_unfit : (why : Refusal) → fits_number (length image) (length log) (length work) addr rounds ≡ refusal_number why → run_is ≡ refusal_number why
  unfolding run_number
  run_unfit why e = stop why judged e

  -- number 0: the lengths fit, and the image is valid
  pub run_0_fits : run_is ≡ 0 → Fit (length image) (length log) (length work) addr rounds × (app_valid addr val0 val1 image ≡ true)
  unfolding run_number
  run_0_fits e = let none = both_none {rest = judged} e in (number_0_fits _ _ _ addr rounds none.0, (passed 5 {rest = 0} none.1).0)

  module _ (f : Fit (length image) (length log) (length work) addr rounds) where
    run_fit : run_is ≡ judged
    unfolding run_number
    run_fit = go_on (fits_done (length image) (length log) (length work) addr rounds f)

    pub run_broken : app_valid addr val0 val1 image ≡ false → run_is ≡ 6
    run_broken e = run_fit ∙ cond_unless (app_valid addr val0 val1 image) 0 6 e

    pub run_good : app_valid addr val0 val1 image ≡ true → run_is ≡ 0
    run_good e = run_fit ∙ cond_when (app_valid addr val0 val1 image) 0 6 e

-- the promise of a refused run and of a done one
module _ {image log work : List ℕ} {addr val0 val1 rounds : ℕ} where
  pub runs_refused : (why : Refusal) → run_number image log work addr val0 val1 rounds ≡ refusal_number why
      → Runs image log work addr val0 val1 rounds (Err (Refused why)) image log work
  runs_refused why e =
      record {
        answers = sym e;
        image_after = refused_left why _ e;
        log_after = refused_left why _ e;
        work_after = refused_left why _ e;
      }

  runs_done : run_number image log work addr val0 val1 rounds ≡ 0 → {answer : RunAnswer} {image' log' work' : List ℕ}
      → Repeats image log work addr val0 val1 rounds answer image' log' work' → Runs image log work addr val0 val1 rounds answer image' log' work'
  runs_done none r =
      record {
        answers = ap run_answer_number r.answers ∙ sym none;
        image_after = r.image_after ∙ done_changed _ none;
        log_after = r.log_after ∙ done_changed _ none;
        work_after = r.work_after ∙ done_changed _ none;
      }

-- the opening of a run, under a sheet that says `app_valid`
module _ (d : Desk) (sheet work : List ℕ) (addr val0 val1 rounds : ℕ) (f : Fit (length d.image) (length d.log) (length work) addr rounds)
    (formed : well_formed sheet ≡ true) (says : (before after : List ℕ) → obeys sheet before after ≡ app_valid addr val0 val1 after) where
  pub opening_decides : open_number d sheet ≡ run_number d.image d.log work addr val0 val1 rounds
  opening_decides = go (app_valid addr val0 val1 d.image) refl
    where
      go : (b : Bool) → app_valid addr val0 val1 d.image ≡ b → open_number d sheet ≡ run_number d.image d.log work addr val0 val1 rounds
      go true e = open_good d sheet f.short f.buffer (says _ d.image ∙ e) ∙ sym (run_good _ _ _ addr val0 val1 rounds f e)
      go false e = open_broken d sheet f.short f.buffer formed (says _ d.image ∙ e) ∙ sym (run_broken _ _ _ addr val0 val1 rounds f e)

  module _ {answer : Answer} {d' : Desk} (o : Opens d sheet answer d') where
    answers_so : {a : Answer} → answer ≡ a → run_number d.image d.log work addr val0 val1 rounds ≡ answer_number a
    answers_so e = sym opening_decides ∙ sym o.answers ∙ ap answer_number e

    pub opening_refused : {why : Refusal} → answer ≡ Err why
        → Runs d.image d.log work addr val0 val1 rounds (Err (Refused why)) d.image d.log work
    opening_refused {why} e = runs_refused why (answers_so e)

    pub opening_good : answer ≡ done → Under d' sheet work addr val0 val1
    opening_good e =
        let good = sym (says _ d.image) ∙ ((opens_means o).0 e).obeyed in
        rw (opened_fresh o e)
        (record { idle = record { sized = refl; empty = refl }; short = f.short; buffer = f.buffer; same = f.same; good = good; says = says })

    pub run_goes : answer ≡ done → {told : RunAnswer} {image' log' work' : List ℕ}
        → Repeats d.image d.log work addr val0 val1 rounds told image' log' work'
        → Runs d.image d.log work addr val0 val1 rounds told image' log' work'
    run_goes e r = runs_done (answers_so e) r
