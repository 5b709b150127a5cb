-- The definitions on closed terms: document 01's sheet, and the numbers at their borders. One table, one proof. Assumes nothing.
use Prim.Native.Nat.{ℕ}
use mathlib.Core.Path.{◌≡◌, refl}
use mathlib.Core.List.{List, [], ◌∷◌, map}
use lib.ListN.{replicate}
use Rattle.rounds.specs.Valid.{app_valid, app_sheet}
use Rattle.example.specs.Setup.{setup_number}
use Rattle.example.specs.Run.{run_number}

-- "`1C 20 00 0C 44 44 00 03 22 22` says byte 3 is 11 or 22 (hex)."
three_is_11_or_22 : app_sheet 3 0x11 0x22 ≡ 0x1C ∷ 0x20 ∷ 0x00 ∷ 0x0C ∷ 0x44 ∷ 0x44 ∷ 0x00 ∷ 0x03 ∷ 0x22 ∷ 0x22 ∷ []
three_is_11_or_22 = refl

-- L = 16, the address below L, at L and past it
setups : map (setup_number (replicate 16 0)) (15 ∷ 16 ∷ 17 ∷ []) ≡ 0 ∷ 2 ∷ 2 ∷ []
unfolding setup_number
setups = refl

record Trial : Type 0 where
  image_length : ℕ
  log_length : ℕ
  work_length : ℕ
  addr : ℕ
  val0 : ℕ
  rounds : ℕ
  number : ℕ

abbrev trial : (image_length log_length work_length addr val0 rounds number : ℕ) → Trial
trial i l w a v r n = record { image_length = i; log_length = l; work_length = w; addr = a; val0 = v; rounds = r; number = n }

-- the image is zeros, and val1 is 22
abbrev trials : List Trial
trials =
    trial 16 1024 16 3 0 0 0 ∷
    trial 16 1024 16 3 0 1000 0 ∷
    trial 16 1024 16 15 0 1 0 ∷
    -- a buffer of another length
    trial 16 1023 16 3 0 1 1 ∷
    trial 16 1024 17 3 0 1 1 ∷
    -- 2 before 12, 12 before 6
    trial 16 1024 16 16 0 1001 2 ∷
    trial 16 1024 16 3 0x11 1001 12 ∷
    trial 16 1024 16 3 0x11 1000 6 ∷
    []

runs : Trial → ℕ
unfolding run_number app_valid
runs t = run_number (replicate t.image_length 0) (replicate t.log_length 0) (replicate t.work_length 0) t.addr t.val0 0x22 t.rounds

runs_as_told : map runs trials ≡ map (λ (t : Trial). t.number) trials
unfolding runs
runs_as_told = refl
