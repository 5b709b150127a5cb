-- What the answers are to mean, said over the cuts themselves and not over what an engine tries. An image that a cut could leave is one that some rows
-- leave, for any log: `can_crash_as` of pmem_async_spec_t.rs. `judge_means` and `gate_means` prove it of every answer (`proofs/Meaning.antt`),
-- `opens_exactly_if` of an opening (`proofs/OpeningLaws.antt`).
use Rattle.std.specs.Prelude.{ℕ, ◌+◌, ◌≤◌, ◌<◌, ◌≡◌, ◌↔◌, true, false, List, length, Ok}
use Rattle.region.specs.Limits.{image_limit, writes_limit, log_limit, points_limit}
use Rattle.region.specs.Pmemspec.{CanResultFromPartialWrite}
use Rattle.pieces.specs.AsyncSpec.{Write, write, readable, CanCrash}
use Rattle.cuts.specs.Search.{LeastBad}
use Rattle.cuts.specs.Gate.{gate_numbers}
use Rattle.sheet.specs.Sheet.{well_formed, allows}
use Rattle.desk.specs.State.{log_records, together}
use Rattle.desk.specs.Desk.{Desk, chunk_size, view, sound}
use Rattle.engine.specs.Search.{trial_image}
use Rattle.gate.specs.declared.Verdict.TheVariants.{Admitted, Denied}
use Rattle.gate.specs.Judgement.{gate_points, Judged}

-- the write fits document 01's limits: none of 1, 5, 2, 3, 4 and 7 applies
pub record Fits (d : Desk) (sheet work : List ℕ) (w : Write) : Type 0 where
  pub good : sound d ≡ true
  pub same : length work ≡ length d.image
  pub formed : well_formed sheet ≡ true
  pub lies : w.addr + length w.bytes ≤ length d.image
  pub few_writes : d.state.count < writes_limit
  pub few_bytes : together (log_records d.state) + length w.bytes ≤ log_limit
  pub few_points : gate_points d w ≤ points_limit

-- an image that a cut could leave, as the desk is
abbrev pub CouldBeLeft : Desk → (x : List ℕ) → Type 0
CouldBeLeft d x = CanCrash (chunk_size d) (view d) x

module _ (d : Desk) (w : Write) where
  -- and once the write is in the log
  abbrev pub CouldLeave : (x : List ℕ) → Type 0
  CouldLeave x = CanCrash (chunk_size d) (write (view d) w) x

  -- a part-write over an image
  abbrev pub PartWrite : (before after : List ℕ) → Type 0
  PartWrite before after = CanResultFromPartialWrite (chunk_size d) after before w.addr w.bytes

  -- how many choice numbers there are with the write in the log
  abbrev pub choice_numbers : ℕ
  choice_numbers = gate_numbers (chunk_size d) (view d) w

-- Demand 2, whatever the answer's type: what it is to be admitted, denied, and denied with m. It admits exactly if the write fits and every image that a cut
-- could then leave obeys the sheet, or, which is the same, every part-write over every image that a cut could leave now. It denies exactly if the write fits
-- and some such image does not, and names the first: number m, whose image does not obey while those of all smaller numbers do. The working image is then
-- that image, and for an admitted write what a read will see.
module _ (d : Desk) (sheet work : List ℕ) (w : Write) where
  pub record MeansBy (admitted : (n : ℕ) → Type 0) (denied : (m : ℕ) → Type 0) (work' : List ℕ) : Type 0 where
    pub admits : ((n : ℕ) × admitted n)
        ↔ (Fits d sheet work w × ((x : List ℕ) → CouldLeave d w x → allows sheet x ≡ true))
    pub by_part_writes : ((n : ℕ) × admitted n)
        ↔ (Fits d sheet work w × ((b a : List ℕ) → CouldBeLeft d b → PartWrite d w b a → allows sheet a ≡ true))
    pub denies : ((m : ℕ) × denied m)
        ↔ (Fits d sheet work w × ((x : List ℕ) × CouldLeave d w x × (allows sheet x ≡ false)))
    pub names_the_first : (m : ℕ) → denied m
        ↔ (Fits d sheet work w × LeastBad (λ k. allows sheet (trial_image d w k)) (choice_numbers d w) m)
    pub admitted_leaves : (n : ℕ) → admitted n → (n ≡ gate_points d w) × (work' ≡ readable (write (view d) w))
    pub denied_leaves : (m : ℕ) → denied m → work' ≡ trial_image d w m

  -- of the judging call's or the gate's answer
  abbrev pub Means : (answer : Judged) (work' : List ℕ) → Type 0
  Means answer work' = MeansBy (λ n. answer ≡ Ok (Admitted n)) (λ m. answer ≡ Ok (Denied m)) work'

-- Opening is good exactly if the image is short enough and obeys the sheet, and the log buffer has its size. Nothing is asked of a state, nor of the
-- log's bytes.
pub record Openable (d : Desk) (sheet : List ℕ) : Type 0 where
  pub short : length d.image ≤ image_limit
  pub buffer : length d.log ≡ log_limit
  pub obeyed : allows sheet d.image ≡ true
