-- What skaldrift_setup and skaldrift_run promise: the number, and every lent byte afterwards. Each is the call of `example`; neither has a state to be handed.
use Rattle.std.specs.Prelude.{ℕ, ◌≡◌, List, set}
use Rattle.region.specs.Answer.{if_done}
use Rattle.example.specs.Setup.{setup_number}
use Rattle.example.specs.Run.{run_number, if_any_round, log_after_round}

module _ (image : List ℕ) (addr val0 : ℕ) where
  pub record SkaldriftSetup (number : ℕ) (image' : List ℕ) : Type 0 where
    pub answers : number ≡ setup_number image addr
    pub image_after : image' ≡ if_done (setup_number image addr) (set image addr val0) image

module _ (image log work : List ℕ) (addr val0 val1 rounds : ℕ) where
  abbrev number_of_run : ℕ
  number_of_run = run_number image log work addr val0 val1 rounds

  pub record SkaldriftRun (number : ℕ) (image' log' work' : List ℕ) : Type 0 where
    pub answers : number ≡ number_of_run
    pub image_after : image' ≡ if_done number_of_run (if_any_round rounds (set image addr val0) image) image
    pub log_after : log' ≡ if_done number_of_run (if_any_round rounds (log_after_round log val0 val1) log) log
    pub work_after : work' ≡ if_done number_of_run (if_any_round rounds (set image addr val0) work) work
