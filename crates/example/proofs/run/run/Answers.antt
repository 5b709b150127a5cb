-- The tests before the opening give 1, 2 and 12; the sheet says `app_valid`, so the opening gives 6 exactly where the image is not; from a good opening
-- the rounds go on to their end. Assumes nothing.
use Rattle.std.proofs.Common.{ℕ, ◌<◌, ◌^◌, ◌≡◌, List, sym, ap, ◌∙◌, true, arith}
use Rattle.std.proofs.lemmas.Result.{err_from_is_err_and}
use Rattle.region.specs.Answer.{answer_number}
use Rattle.sheet.specs.Sheet.{well_formed, obeys, address_bits}
use Rattle.rounds.specs.Valid.{app_valid, app_sheet}
use Rattle.rounds.proofs.SheetLaws.{app_sheet_formed, sheet_says_valid}
use Rattle.example.specs.Run.{fits_number}
use Rattle.example.proofs.NumberLaws.{Fit, number_0_fits, run_unfit, runs_refused, opening_refused, opening_good, run_goes}
use Rattle.example.proofs.run.run.Goals as goal

-- what is asked before the opening holds, and the sheet is well-formed and says `app_valid`
record Says (L log_length work_length addr rounds : ℕ) (sheet : List ℕ) (val0 val1 : ℕ) : Type 0 where
  pub fit : Fit L log_length work_length addr rounds
  pub formed : well_formed sheet ≡ true
  pub says : (before after : List ℕ) → obeys sheet before after ≡ app_valid addr val0 val1 after

sheet_says : {L log_length work_length addr rounds : ℕ} {sheet : List ℕ} {val0 val1 : ℕ} → fits_number L log_length work_length addr rounds ≡ 0
    → sheet ≡ app_sheet addr val0 val1 → val0 < 2 ^ 8 → val1 < 2 ^ 8 → Says L log_length work_length addr rounds sheet val0 val1
sheet_says {addr = addr} {val0 = val0} {val1} none e small0 small1 =
    let f = number_0_fits _ _ _ _ _ none in
    let address : addr < 2 ^ address_bits = omega (arith, f.lies, f.short) in
    record {
      fit = f;
      formed = ap well_formed e ∙ app_sheet_formed addr val0 val1 address small0 small1;
      says = λ before after. ap (λ (s : List ℕ). obeys s before after) e ∙ sheet_says_valid addr val0 val1 address small0 small1 before after;
    }

pub returns-in_err-fits : goal.returns-in_err-fits
returns-in_err-fits c =
    let a = c.args in
    let p = err_from_is_err_and c.from_residual.result c.from_residual.ensures.1 in
    rw (p.1, p.2)
    (runs_refused c.in_err-fits.field-0.0
    (run_unfit a.image.now a.log.now a.work.now a.addr a.val0 a.val1 a.rounds c.in_err-fits.field-0.0 (sym c.fits.ensures ∙ ap answer_number c.in_err-fits.was)))

pub returns-in_err-open : goal.returns-in_err-open
returns-in_err-open c =
    let p = err_from_is_err_and c.from_residual-in_err-open.result c.from_residual-in_err-open.ensures.1 in
    let s = sheet_says (sym c.fits.ensures ∙ ap answer_number c.in_ok-fits.was) c.app_sheet-sheet.ensures c.ranges.val0.fits c.ranges.val1.fits in
    rw (p.1, p.2) (opening_refused _ _ _ _ _ _ _ s.fit s.formed s.says c.open.ensures c.in_err-open.was)

pub repeat-requires : goal.repeat-requires
repeat-requires c =
    let s = sheet_says (sym c.fits.ensures ∙ ap answer_number c.in_ok-fits.was) c.app_sheet-sheet.ensures c.ranges.val0.fits c.ranges.val1.fits in
    opening_good _ _ _ _ _ _ _ s.fit s.formed s.says c.open.ensures c.in_ok-open.was

pub returns : goal.returns
returns c =
    let s = sheet_says (sym c.fits.ensures ∙ ap answer_number c.in_ok-fits.was) c.app_sheet-sheet.ensures c.ranges.val0.fits c.ranges.val1.fits in
    run_goes _ _ _ _ _ _ _ s.fit s.formed s.says c.open.ensures c.in_ok-open.was c.repeat.ensures
