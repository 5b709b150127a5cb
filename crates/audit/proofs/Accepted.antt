-- `inv`, which every method of the original requires and ensures: a desk that passes the tests of number 1 passes them again after every call, whatever
-- its answer. One law for each promise, from that promise alone. Assumes nothing.
use Prim.Native.Nat.{ℕ, zero, suc}
use mathlib.Core.Path.{◌≡◌, refl, sym, ap, subst⁻¹, ◌∙◌}
use mathlib.Core.Bool.{true}
use mathlib.Core.List.{List}
use lib.ListN.{length, set, length-set}
use Rattle.std.specs.Prelude.{Err, Ok}
use Rattle.region.specs.Limits.{writes_limit}
use Rattle.region.specs.Answer.{if_done, Answer, done, Counted}
use Rattle.region.proofs.AnswerLaws.{changed}
use Rattle.pieces.specs.AsyncSpec.{Write, AsyncView, len, write}
use Rattle.cuts.proofs.Lengths.{length_flush, length_flush_selective}
use Rattle.desk.specs.State.{record_of}
use Rattle.desk.specs.Desk.{Desk, chunk_size, chunks, view, sound, with_write, settled_desk}
use Rattle.desk.proofs.RoomLaws.{room_done}
use Rattle.desk.proofs.Soundness.{Sound, sound_facts, facts_sound, Room}
use Rattle.desk.proofs.Views.{sized_of_appended, sound_after_recorded, sound_after_settled}
use Rattle.writelog.specs.Write.{write_number, Writes}
use Rattle.writelog.specs.Flush.{flush_number, Flushes}
use Rattle.writelog.specs.Cut.{cut_number, Cuts}
use Rattle.writelog.proofs.WriteLaws.{write_sound}
use Rattle.gate.specs.Opening.{Opens}
use Rattle.gate.specs.Judgement.{judge_number, Gates, Judged}
use Rattle.gate.specs.declared.Verdict.TheVariants.{Admitted, Denied}
use Rattle.gate.proofs.Meaning.{gate_means}
use Rattle.gate.proofs.JudgementLaws.{number_0_fits}
use Rattle.gate.proofs.Gives.{opened_holds, gate_refused_left}
use Rattle.epochs.specs.Foretold.{predicted_image}
use Rattle.epochs.proofs.EpochLaws.{Epoch}
use Rattle.epochs.proofs.Foretells.{foretold_is_valid}
use Rattle.tape.specs.Memory.{TapeDesk}
use Rattle.tape.specs.Write.{tape_write_number, TapeWrites}
use Rattle.tape.specs.Flush.{tape_flush_number, TapeFlushes}
use Rattle.tape.specs.Cut.{tape_cut_number, TapeCuts}
use Rattle.tape.proofs.NumberLaws.{tape_write_done}
use Rattle.rounds.specs.Answer.{RunAnswer}
use Rattle.example.specs.Setup.{setup_number, SetsUp}
use Rattle.example.specs.Run.{run_number, if_any_round, Runs}

-- refusal 1 doesn't apply, and the state has its 32 records
pub record Accepted (d : Desk) : Type 0 where
  pub sized : length d.state.records ≡ writes_limit
  pub good : sound d ≡ true

-- what is true of what a done call leaves, and of what there was, is true after the call
either_way : {A : Type 0} (P : A → Type 0) (n : ℕ) {x after before : A} → x ≡ if_done n after before → (n ≡ 0 → P after) → P before → P x
either_way P zero e done left = rw e (done refl)
either_way P (suc n) e done left = rw e left

-- an image predicted has its image's length
predicted_length : (C : ℕ) (tape : List ℕ) (start : ℕ) (v : AsyncView) → length (predicted_image C tape start v) ≡ len v
predicted_length C tape start v = sym (foretold_is_valid C tape start v) ∙ length_flush v

module _ {d : Desk} (a : Accepted d) where
  facts : Sound d
  facts = sound_facts _ d.state _ a.good

  -- a write that there is room for, recorded
  recorded : (w : Write) → Room (length d.image) d.state (record_of w) → Accepted (with_write d w)
  recorded w r =
      record { sized = sized_of_appended d.state (record_of w) a.sized; good = facts_sound _ _ _ (sound_after_recorded d w a.sized facts r) }

  -- an image of the same length, with an empty log
  settled : (image : List ℕ) → length image ≡ length d.image → Accepted (settled_desk d image)
  settled image same =
      record { sized = a.sized; good = facts_sound _ _ _ (sound_after_settled d image (rw same facts.short) facts.buffer) }

  pub accepted_after_write : {w : Write} {answer : Answer} {d' : Desk} → Writes d w answer d' → Accepted d'
  accepted_after_write {w} p =
      either_way Accepted (write_number d w) p.leaves
      (λ none. recorded w (room_done _ d.state _ (sym (write_sound d w a.good) ∙ none))) a

  pub accepted_after_flush : {answer : Answer} {d' : Desk} → Flushes d answer d' → Accepted d'
  accepted_after_flush p = either_way Accepted (flush_number d) p.leaves (λ none. settled _ (length_flush (view d))) a

  pub accepted_after_cut : {table : List ℕ} {answer : Counted} {d' : Desk} → Cuts d table answer d' → Accepted d'
  accepted_after_cut {table} p =
      either_way Accepted (cut_number d table) p.leaves (λ none. settled _ (length_flush_selective (chunk_size d) (view d) _)) a

  pub accepted_after_gate : {sheet work : List ℕ} {w : Write} {answer : Judged} {d' : Desk} {work' : List ℕ}
      → Gates d sheet work w answer d' work' → Accepted d'
  accepted_after_gate {sheet} {work} {w} p =
      either_way Accepted (judge_number d sheet work w) p.leaves
      (λ none. let f = (number_0_fits d sheet work w none).0 in recorded w (record { lies = f.lies; few = f.few_writes; fits = f.few_bytes })) a

-- a good opening makes one of any state
pub accepted_after_opening : {d : Desk} {sheet : List ℕ} {d' : Desk} → Opens d sheet done d' → Accepted d'
accepted_after_opening p = let held = opened_holds p refl in record { sized = held.sized; good = facts_sound _ _ _ held.facts }

-- the working image keeps the image's length, whatever the verdict
pub work_fits_after_gate : {d : Desk} {sheet work : List ℕ} {w : Write} {answer : Judged} {d' : Desk} {work' : List ℕ} → length work ≡ length d.image
    → Gates d sheet work w answer d' work' → length work' ≡ length d.image
work_fits_after_gate {d} {w = w} {answer} {work' = work'} same g = go answer refl
  where
    go : (a : Judged) → answer ≡ a → length work' ≡ length d.image
    go (Ok (Admitted n)) e = ap length ((gate_means g).admitted_leaves n e).1 ∙ length_flush (write (view d) w)
    go (Ok (Denied m)) e = ap length ((gate_means g).denied_leaves m e) ∙ length_flush_selective (chunk_size d) (write (view d) w) _
    go (Err why) e = ap length (gate_refused_left g e).1 ∙ same

-- the same of what a call by tape is lent
abbrev pub MemoryAccepted : TapeDesk → Type 0
MemoryAccepted t = Accepted t.memory

-- and its predicted image has the image's length
abbrev pub PredictedFits : TapeDesk → Type 0
PredictedFits t = length t.predicted ≡ length t.memory.image

module _ {t : TapeDesk} {tape : List ℕ} where
  module _ (a : MemoryAccepted t) where
    pub accepted_after_tape_write : {w : Write} {answer : Answer} {t' : TapeDesk} → TapeWrites t tape w answer t' → MemoryAccepted t'
    accepted_after_tape_write {w} p =
        either_way MemoryAccepted (tape_write_number t tape w) p.leaves (λ none. recorded a w (tape_write_done none).room) a

    pub accepted_after_tape_flush : {answer : Answer} {t' : TapeDesk} → TapeFlushes t tape answer t' → MemoryAccepted t'
    accepted_after_tape_flush p =
        either_way MemoryAccepted (tape_flush_number t tape) p.leaves (λ none. settled a _ (length_flush (view t.memory))) a

    pub accepted_after_tape_cut : {answer : Counted} {t' : TapeDesk} → TapeCuts t tape answer t' → MemoryAccepted t'
    accepted_after_tape_cut p =
        either_way MemoryAccepted (tape_cut_number t tape) p.leaves
        (λ none. settled a _ (predicted_length (chunk_size t.memory) tape t.start (view t.memory))) a

  module _ (same : PredictedFits t) where
    pub predicted_fits_after_tape_write : {w : Write} {answer : Answer} {t' : TapeDesk} → TapeWrites t tape w answer t' → PredictedFits t'
    predicted_fits_after_tape_write {w} p =
        either_way PredictedFits (tape_write_number t tape w) p.leaves
        (λ none. predicted_length (chunk_size t.memory) tape t.start (view (with_write t.memory w))) same

    pub predicted_fits_after_tape_flush : {answer : Answer} {t' : TapeDesk} → TapeFlushes t tape answer t' → PredictedFits t'
    predicted_fits_after_tape_flush p = either_way PredictedFits (tape_flush_number t tape) p.leaves (λ none. refl) same

    pub predicted_fits_after_tape_cut : {answer : Counted} {t' : TapeDesk} → TapeCuts t tape answer t' → PredictedFits t'
    predicted_fits_after_tape_cut p = either_way PredictedFits (tape_cut_number t tape) p.leaves (λ none. refl) same

  -- `inv` of the prophecy: after a done write by tape the epoch has a row for every write of the log, whole and rightly filled
  pub rows_there_after_tape_write : {w : Write} {t' : TapeDesk} → TapeWrites t tape w done t'
      → Epoch (chunks t.memory) t'.memory.state.count tape t.start
  rows_there_after_tape_write p =
      let none = sym p.answers in
      subst⁻¹ (λ (x : TapeDesk). Epoch (chunks t.memory) x.memory.state.count tape t.start) (changed t p.leaves none)
      (tape_write_done none).epoch

-- `inv` after the example's setup and run: the image keeps its length
pub length_after_setup : (image : List ℕ) (addr val0 : ℕ) {answer : Answer} {image' : List ℕ}
    → SetsUp image addr val0 answer image' → length image' ≡ length image
length_after_setup image addr val0 p =
    either_way (λ x. length x ≡ length image) (setup_number image addr) p.image_after (λ none. length-set image addr val0) refl

pub length_after_run : (image log work : List ℕ) (addr val0 val1 rounds : ℕ) {answer : RunAnswer} {image' log' work' : List ℕ}
    → Runs image log work addr val0 val1 rounds answer image' log' work' → length image' ≡ length image
length_after_run image log work addr val0 val1 rounds p =
    either_way (λ x. length x ≡ length image) (run_number image log work addr val0 val1 rounds) p.image_after (λ none. by_rounds rounds) refl
  where
    by_rounds : (n : ℕ) → length (if_any_round n (set image addr val0) image) ≡ length image
    by_rounds zero = refl
    by_rounds (suc n) = length-set image addr val0
