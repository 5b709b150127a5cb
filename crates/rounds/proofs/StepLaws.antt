-- The steps of a run, from the promises of the gate and the flush: the log has written one-byte writes of the two values at the address, so the gate
-- admits one more, and a flush leaves the last value. Assumes nothing.
use Prim.Native.Nat.{ℕ, ◌+◌, ◌<◌}
use native.Mathlib.Omega.{arith}
use mathlib.Core.Path.{◌≡◌, refl, sym, ap, subst, ◌∙◌}
use mathlib.Core.Bool.{Bool, true, ◌&&◌, or-true, or_comm}
use mathlib.Core.List.{List, [], ◌∷◌, ◌++◌}
use lib.ListN.{length, get_or, take, set, length-set, length-append}
use lib.Seq.{set-set}
use borrow.Author.Tests.{ltb-true, eq-eqb}
use lib.Dec.{ltb, eqb}
use Rattle.std.specs.Prelude.{Ok, Err}
use Rattle.region.specs.Limits.{writes_limit, points_limit}
use Rattle.region.specs.Pmemspec.{update_bytes}
use Rattle.region.specs.declared.Refusal.{Refusal}
use Rattle.region.proofs.Booleans.{both, both_true}
use Rattle.region.proofs.AnswerLaws.{answers_by_number, changed}
use Rattle.region.specs.Answer.{Answer, done}
use Rattle.pieces.specs.AsyncSpec.{AsyncView, Write, write, readable}
use Rattle.pieces.specs.Choice.{points}
use Rattle.sheet.specs.Sheet.{obeys, allows}
use Rattle.sheet.proofs.Laws.{obeyed_is_formed}
use Rattle.desk.specs.State.{log_records, together, writes_of, record_of}
use Rattle.desk.specs.Desk.{Desk, chunk_size, view, with_write, settled_desk}
use Rattle.records.specs.declared.Record.{Record}
use Rattle.desk.proofs.Soundness.{Sound, facts_sound, Room}
use Rattle.writelog.specs.Flush.{flush_number, Flushes}
use Rattle.writelog.proofs.FlushLaws.{flush_sound}
use Rattle.desk.proofs.Views.{together_last, records_of_appended, sized_of_appended, view_of_recorded, sound_after_recorded, sound_after_settled}
use Rattle.gate.specs.Judgement.{gate_points, Gates, Judged}
use Rattle.gate.specs.Meaning.{Fits, CouldLeave}
use Rattle.gate.specs.declared.Verdict.{Verdict}
use Rattle.gate.specs.declared.Verdict.TheVariants.{Admitted}
use Rattle.gate.proofs.JudgementLaws.{admitted_number}
use Rattle.gate.proofs.Meaning.{gate_means}
use Rattle.rounds.specs.Valid.{one_of, app_valid}
use Rattle.rounds.specs.Steps.{Under, Goes}
use Rattle.rounds.specs.Answer.{RunAnswer}
use Rattle.rounds.proofs.ByteLog.{byte_write, byte_laid, byte_writes, byte_log, byte_writes_last, byte_points, last_read}
use Rattle.rounds.proofs.ByteLog.{all_of, left_valid, cut_leaves_a_value}

-- the log holds these values, written at addr
pub record Logged (d : Desk) (addr : ℕ) (us : List ℕ) : Type 0 where
  pub sized : length d.state.records ≡ writes_limit
  pub facts : Sound d
  pub counted : d.state.count ≡ length us
  pub weighs : together (log_records d.state) ≡ length us
  pub seen : view d ≡ byte_log d.image addr us

-- a valid image has the address, and the two values are of the two, either way round
pub valid_lies : (addr a b : ℕ) (s : List ℕ) → app_valid addr a b s ≡ true → addr < length s
unfolding app_valid
valid_lies addr a b s good = ltb-true addr (length s) (both (ltb addr (length s)) (one_of a b (get_or s addr 0)) good).0

pub first_value : (a b : ℕ) → one_of a b a ≡ true
first_value a b = rw (eq-eqb a a refl)

pub second_value : (a b : ℕ) → one_of a b b ≡ true
second_value a b = rw (eq-eqb b b refl) (or-true (eqb b a))

valid_turned : (addr a b : ℕ) (s : List ℕ) → app_valid addr a b s ≡ app_valid addr b a s
unfolding app_valid
valid_turned addr a b s = ap (λ (t : Bool). ltb addr (length s) && t) (or_comm (eqb (get_or s addr 0) a) (eqb (get_or s addr 0) b))

pub set_valid : (addr a b v : ℕ) (s : List ℕ) → addr < length s → one_of a b v ≡ true → app_valid addr a b (set s addr v) ≡ true
set_valid addr a b v s lies one = left_valid s addr a b lies (set s addr v) (v, one, refl)

-- a write that fits, of which a cut could leave only images that obey: the gate admits exactly these
abbrev pub Admissible : Desk → (sheet work : List ℕ) → Write → Type 0
Admissible d sheet work w = Fits d sheet work w × ((x : List ℕ) → CouldLeave d w x → allows sheet x ≡ true)

-- what one value more leaves
pub record Gated (d : Desk) (addr v : ℕ) (answer : Judged) (d' : Desk) (work' : List ℕ) : Type 0 where
  pub points : ℕ
  pub admitted : answer ≡ Ok (Admitted points)
  pub leaves : d' ≡ with_write d (byte_write addr v)
  pub work_after : work' ≡ set d.image addr v

-- so it is neither refused nor denied
module _ {d : Desk} {addr v : ℕ} {answer : Judged} {d' : Desk} {work' : List ℕ} (g : Gated d addr v answer d' work') where
  pub not_refused : {why : Refusal} → answer ≡ Err why → ⊥
  not_refused is = let e = sym g.admitted ∙ is in cc

  pub not_denied : {verdict : Verdict} → answer ≡ Ok verdict → verdict ≡ Admitted g.points
  not_denied is = let e = sym g.admitted ∙ is in cc

-- one value more
module _ {d : Desk} {addr : ℕ} {us : List ℕ} (l : Logged d addr us) (lies : addr < length d.image) (few : length us < points_limit) (v : ℕ) where
  abbrev w : Write
  w = byte_write addr v

  longer : length (us ++ (v ∷ [])) ≡ length us + 1
  longer = length-append us (v ∷ [])

  seen_next : write (view d) w ≡ byte_log d.image addr (us ++ (v ∷ []))
  seen_next =
      ap (λ (x : AsyncView). write x w) l.seen
      ∙ ap (λ (ws : List Write). record { state_at_last_flush = d.image; outstanding_writes = ws }) (byte_writes_last addr us v)

  room : Room (length d.image) d.state (record_of w)
  room = record { lies = omega (arith, lies); few = omega (arith, l.counted); fits = omega (arith, l.weighs) }

  logged_more : Logged (with_write d w) addr (us ++ (v ∷ []))
  logged_more =
      record {
        sized = sized_of_appended d.state (record_of w) l.sized;
        facts = sound_after_recorded d w l.sized l.facts room;
        counted = omega (arith, l.counted, longer);
        weighs = ap together (records_of_appended d.state (record_of w) l.sized room.few)
            ∙ together_last (log_records d.state) (record_of w) ∙ omega (arith, l.weighs, longer);
        seen = view_of_recorded d w l.sized l.facts room ∙ seen_next;
      }

  log_next : (with_write d w).log ≡ set d.log (length us) v
  log_next = ap (λ (at : ℕ). update_bytes d.log at (v ∷ [])) l.weighs ∙ byte_laid d.log (length us) v (omega (arith, l.facts.buffer))

  -- the gate admits it, if it is one of the two
  module _ {sheet work : List ℕ} (a b : ℕ) (same : length work ≡ length d.image) (good : app_valid addr a b d.image ≡ true)
      (says : (before after : List ℕ) → obeys sheet before after ≡ app_valid addr a b after) (all : all_of a b (us ++ (v ∷ [])) ≡ true) where
    admissible : Admissible d sheet work w
    admissible =
        let n : gate_points d w ≡ length (us ++ (v ∷ [])) =
        ap (λ (x : AsyncView). points (chunk_size d) x.outstanding_writes) seen_next ∙ byte_points (chunk_size d) addr (us ++ (v ∷ [])) in (
          record {
            good = facts_sound _ d.state _ l.facts;
            same = same;
            formed = obeyed_is_formed sheet d.image d.image (says _ d.image ∙ good);
            lies = room.lies;
            few_writes = room.few;
            few_bytes = room.fits;
            few_points = omega (arith, n, longer);
          },
          λ x h. says x x ∙ left_valid d.image addr a b lies x
              (cut_leaves_a_value d.image addr a b lies (chunk_size d) (us ++ (v ∷ [])) good all x (rw seen_next at h)),
        )

    gate_goes : {answer : Judged} {d' : Desk} {work' : List ℕ} → Gates d sheet work w answer d' work' → Gated d addr v answer d' work'
    gate_goes g =
        let means = gate_means g in
        let admits = means.admits.1 admissible in
        record {
          points = admits.0;
          admitted = admits.1;
          leaves = changed d g.leaves (admitted_number g.judges admits.1);
          work_after = (means.admitted_leaves admits.0 admits.1).1 ∙ ap readable seen_next ∙ last_read addr v us d.image lies;
        }

-- a pair: two values written through the gate, and flushed
module _ {d : Desk} {sheet work : List ℕ} {addr a b : ℕ} (u : Under d sheet work addr a b) where
  abbrev with_one : Desk
  with_one = with_write d (byte_write addr a)

  abbrev with_both : Desk
  with_both = with_write with_one (byte_write addr b)

  here : addr < length d.image
  here = valid_lies addr a b d.image u.good

  logged_none : Logged d addr []
  unfolding byte_writes writes_of together
  logged_none =
      let none : log_records d.state ≡ [] = ap (λ (n : ℕ). take n d.state.records) u.idle.empty in
      let same : settled_desk d d.image ≡ d =
      ap (λ (n : ℕ). record { image = d.image; state = record { count = n; records = d.state.records }; log = d.log }) (sym u.idle.empty) in
      record {
        sized = u.idle.sized;
        facts = subst Sound same (sound_after_settled d d.image u.short u.buffer);
        counted = u.idle.empty;
        weighs = ap together none;
        seen = ap (λ (rs : List Record). record { state_at_last_flush = d.image; outstanding_writes = writes_of rs d.log }) none;
      }

  logged_one : Logged with_one addr (a ∷ [])
  logged_one = logged_more logged_none here (omega arith) a

  pub logged_both : Logged with_both addr (a ∷ b ∷ [])
  logged_both = logged_more logged_one here (omega arith) b

  one_of_two : all_of a b (a ∷ []) ≡ true
  unfolding all_of
  one_of_two = both_true (first_value a b) refl

  both_of_two : all_of a b (a ∷ b ∷ []) ≡ true
  unfolding all_of
  both_of_two = both_true (first_value a b) (both_true (second_value a b) refl)

  pub once_admissible : Admissible d sheet work (byte_write addr a)
  once_admissible = admissible logged_none here (omega arith) a a b u.same u.good u.says one_of_two

  pub once : {answer : Judged} {d' : Desk} {work' : List ℕ} → Gates d sheet work (byte_write addr a) answer d' work' → Gated d addr a answer d' work'
  once g = gate_goes logged_none here (omega arith) a a b u.same u.good u.says one_of_two g

  module _ {first : Judged} {d₁ : Desk} {work₁ : List ℕ} (g₁ : Gated d addr a first d₁ work₁) where
    long : length work₁ ≡ length d.image
    long = ap length g₁.work_after ∙ length-set d.image addr a

    pub twice_admissible : Admissible d₁ sheet work₁ (byte_write addr b)
    twice_admissible = rw g₁.leaves (admissible logged_one here (omega arith) b a b long u.good u.says both_of_two)

    pub twice : {answer : Judged} {d' : Desk} {work' : List ℕ} → Gates d₁ sheet work₁ (byte_write addr b) answer d' work'
        → Gated with_one addr b answer d' work'
    twice g = gate_goes logged_one here (omega arith) b a b long u.good u.says both_of_two (rw g₁.leaves at g)

  -- the flush over both
  module _ {second : Judged} {d₂ : Desk} {work₂ : List ℕ} (g₂ : Gated with_one addr b second d₂ work₂) {flushed : Answer} {d' : Desk} (f : Flushes d₂ flushed d') where
    ends : Flushes with_both flushed d'
    ends = rw g₂.leaves at f

    none : flush_number with_both ≡ 0
    none = flush_sound with_both (facts_sound _ _ _ logged_both.facts)

    pub flush_not_refused : {why : Refusal} → flushed ≡ Err why → ⊥
    flush_not_refused is = let e = sym (answers_by_number flushed done (ends.answers ∙ none)) ∙ is in cc

    pub pair_goes : Goes d addr a b done d' work₂
    pair_goes =
        let left = changed with_both ends.leaves none in
        record {
          answers = refl;
          idle = rw left (record { sized = logged_both.sized; empty = refl });
          image_after = ap (λ (x : Desk). x.image) left ∙ ap readable logged_both.seen ∙ last_read addr b (a ∷ []) d.image here;
          log_after = ap (λ (x : Desk). x.log) left
              ∙ log_next logged_one here (omega arith) b ∙ ap (λ (l : List ℕ). set l 1 b) (log_next logged_none here (omega arith) a);
          work_after = g₂.work_after;
        }

  -- what goes on under the sheet is under the sheet again
  pub under_after : {x y : ℕ} {answer : RunAnswer} {d₁ : Desk} {work₁ : List ℕ} → Goes d addr x y answer d₁ work₁ → one_of a b y ≡ true
      → Under d₁ sheet work₁ addr a b
  under_after {x} {y} g one =
      let long = ap length g.image_after ∙ length-set d.image addr y in
      record {
        idle = g.idle;
        short = rw long u.short;
        buffer = ap length g.log_after ∙ length-set (set d.log 0 x) 1 y ∙ length-set d.log 0 x ∙ u.buffer;
        same = ap length (g.work_after ∙ sym g.image_after);
        good = ap (app_valid addr a b) g.image_after ∙ set_valid addr a b y d.image here one;
        says = u.says;
      }

  pub under_turned : Under d sheet work addr b a
  under_turned =
      record {
        idle = u.idle;
        short = u.short;
        buffer = u.buffer;
        same = u.same;
        good = valid_turned addr b a d.image ∙ u.good;
        says = λ before after. u.says before after ∙ valid_turned addr a b after;
      }

-- two bytes over two bytes
pub pair_over_pair : (log : List ℕ) (a b x y : ℕ) → set (set (set (set log 0 a) 1 b) 0 x) 1 y ≡ set (set log 0 x) 1 y
pair_over_pair [] a b x y = refl
pair_over_pair (l ∷ []) a b x y = refl
pair_over_pair (l ∷ m ∷ log) a b x y = refl

-- what goes twice has gone once, by the last values
pub goes_on : {d : Desk} {addr a b x y : ℕ} {first : RunAnswer} {d₁ : Desk} {work₁ : List ℕ} → Goes d addr a b first d₁ work₁
    → {answer : RunAnswer} {d' : Desk} {work' : List ℕ} → Goes d₁ addr x y answer d' work' → Goes d addr x y answer d' work'
goes_on {d} {addr} {a} {b} {x} {y} g h =
    let over = ap (λ (s : List ℕ). set s addr y) g.image_after ∙ set-set d.image addr b y in
    record {
      answers = h.answers;
      idle = h.idle;
      image_after = h.image_after ∙ over;
      log_after = h.log_after ∙ ap (λ (l : List ℕ). set (set l 0 x) 1 y) g.log_after ∙ pair_over_pair d.log a b x y;
      work_after = h.work_after ∙ over;
    }
