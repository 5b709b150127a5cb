-- What the calls do to the view: the plain write's own step puts the write to the end of the log, as `write` of pmem_async_spec_t.rs does, and a sound
-- state stays sound; an emptied log has no writes. Assumes nothing.
use Prim.Native.Nat.{ℕ, zero, suc, ◌+◌, ◌≤◌, ◌<◌}
use native.Mathlib.Nat.{suc-add, zero-add}
use native.Mathlib.Numerals.{add-one}
use native.Mathlib.Omega.{arith}
use mathlib.Core.Path.{◌≡◌, refl, sym, ap, ap₂, subst, subst⁻¹, ◌∙◌}
use mathlib.Core.Bool.{true}
use mathlib.Core.List.{List, [], ◌∷◌, ◌++◌}
use lib.Dec.{leb}
use lib.ListN.{length, get_or, take, drop, set, length-set}
use lib.Seq.{ext_get_or, get_or-take, take-nil, take-take, drop-drop, take-suc-set, length-take-le}
use borrow.Author.Tests.{le-leb}
use Rattle.region.specs.Limits.{image_limit, writes_limit, log_limit}
use Rattle.region.specs.Pmemspec.{update_bytes}
use Rattle.region.proofs.Booleans.{both, both_true}
use Rattle.pieces.specs.AsyncSpec.{Write, write}
use Rattle.pieces.proofs.Laid.{update_is_lay, length_update, lay_below, update_reads_back}
use Rattle.desk.specs.State.{log_records, together, records_inside, writes_of, recorded_write, record_of, appended}
use Rattle.desk.specs.Desk.{Desk, view, with_write, settled_desk}
use Rattle.records.specs.declared.Record.{Record}
use Rattle.desk.specs.declared.state.State.{State}
use Rattle.desk.proofs.Soundness.{SoundFor, Sound, Room}

-- the bytes below a place are untouched by what is laid there
laid_behind : (log : List ℕ) (at : ℕ) (bytes : List ℕ) → at ≤ length log → take at (update_bytes log at bytes) ≡ take at log
laid_behind log at bytes fits =
    let long : length (take at (update_bytes log at bytes)) ≡ at = length-take-le at (update_bytes log at bytes) (omega (arith, length_update log at bytes)) in
    ext_get_or 0 (take at (update_bytes log at bytes)) (take at log) (long ∙ sym (length-take-le at log fits))
    (λ i h.
    let g : i < at = subst (λ (n : ℕ). i < n) long h in
    get_or-take at (update_bytes log at bytes) i 0 g
    ∙ ap (λ (l : List ℕ). get_or l i 0) (update_is_lay log at bytes)
    ∙ lay_below (λ i. true) log at bytes i (omega arith) g
    ∙ sym (get_or-take at log i 0 g))

-- the writes go by the bytes that the records count
writes_agree : (rs : List Record) (l l' : List ℕ) → take (together rs) l ≡ take (together rs) l' → writes_of rs l ≡ writes_of rs l'
unfolding writes_of together
writes_agree [] l l' e = refl
writes_agree (r ∷ rs) l l' e =
    let n = r.len + together rs in
    let here : take r.len l ≡ take r.len l' = sym (take-take r.len n l (omega arith)) ∙ ap (take r.len) e ∙ take-take r.len n l' (omega arith) in
    ap₂ (λ (b : List ℕ) (ws : List Write). recorded_write r b ∷ ws) here
    (writes_agree rs (drop r.len l) (drop r.len l') (later r.len (together rs) l l' e))
  where
    drop_take : (a t : ℕ) (l : List ℕ) → drop a (take (a + t) l) ≡ take t (drop a l)
    drop_take zero t l = ap (λ (k : ℕ). take k l) (zero-add t)
    drop_take (suc a) t [] = ap (λ (k : ℕ). drop (suc a) (take {A = ℕ} k [])) (suc-add a t) ∙ sym (take-nil t)
    drop_take (suc a) t (x ∷ l) = ap (λ (k : ℕ). drop (suc a) (take k (x ∷ l))) (suc-add a t) ∙ drop_take a t l

    later : (a t : ℕ) (l l' : List ℕ) → take (a + t) l ≡ take (a + t) l' → take t (drop a l) ≡ take t (drop a l')
    later a t l l' e = sym (drop_take a t l) ∙ ap (drop a) e ∙ drop_take a t l'

-- one record more at the end
pub together_last : (rs : List Record) (r : Record) → together (rs ++ (r ∷ [])) ≡ together rs + r.len
unfolding together
together_last [] r = omega arith
together_last (x ∷ rs) r = omega (arith, together_last rs r)

inside_last : (L : ℕ) (rs : List Record) (r : Record) → records_inside L rs ≡ true → r.addr + r.len ≤ L → records_inside L (rs ++ (r ∷ [])) ≡ true
unfolding records_inside
inside_last L [] r e h = both_true (le-leb (r.addr + r.len) L h) refl
inside_last L (x ∷ rs) r e h = let parts = both (leb (x.addr + x.len) L) (records_inside L rs) e in
    both_true {a = leb (x.addr + x.len) L} parts.0 (inside_last L rs r parts.1 h)

writes_last : (rs : List Record) (r : Record) (l : List ℕ)
    → writes_of (rs ++ (r ∷ [])) l ≡ writes_of rs l ++ (recorded_write r (take r.len (drop (together rs) l)) ∷ [])
unfolding writes_of together
writes_last [] r l = refl
writes_last (x ∷ rs) r l =
    ap (λ (ws : List Write). recorded_write x (take x.len l) ∷ ws)
    (writes_last rs r (drop x.len l)
    ∙ ap (λ (k : List ℕ). writes_of rs (drop x.len l) ++ (recorded_write r (take r.len k) ∷ [])) (drop-drop (together rs) x.len l))

module _ (st : State) (r : Record) (sized : length st.records ≡ writes_limit) where
  pub records_of_appended : st.count < writes_limit → log_records (appended st r) ≡ log_records st ++ (r ∷ [])
  records_of_appended few =
      ap (λ (k : ℕ). take k (set st.records st.count r)) (add-one st.count) ∙ take-suc-set st.records st.count r (omega arith)

  pub sized_of_appended : length (appended st r).records ≡ writes_limit
  sized_of_appended = length-set st.records st.count r ∙ sized

-- the state stays sound
sound_of_appended : (L : ℕ) (st : State) (log_length : ℕ) (r : Record) → length st.records ≡ writes_limit → SoundFor L st log_length → Room L st r
    → SoundFor L (appended st r) log_length
sound_of_appended L st log_length r sized s room =
    let rs = records_of_appended st r sized room.few in
    record {
      short = s.short;
      buffer = s.buffer;
      few = omega (arith, room.few);
      inside = ap (records_inside L) rs ∙ inside_last L (log_records st) r s.inside room.lies;
      room = omega (arith, ap together rs, together_last (log_records st) r, room.fits);
    }

-- one write for each record of the log
length_writes_of : (rs : List Record) (log : List ℕ) → length (writes_of rs log) ≡ length rs
unfolding writes_of
length_writes_of [] log = refl
length_writes_of (r ∷ rs) log = ap suc (length_writes_of rs (drop r.len log))

pub writes_counted : (d : Desk) → d.state.count ≤ length d.state.records → length (view d).outstanding_writes ≡ d.state.count
writes_counted d h = length_writes_of (log_records d.state) d.log ∙ length-take-le d.state.count d.state.records h

-- the step of an accepted write
module _ (d : Desk) (w : Write) (sized : length d.state.records ≡ writes_limit) (s : Sound d) (room : Room (length d.image) d.state (record_of w)) where
  abbrev rs : List Record
  rs = log_records d.state

  abbrev log : List ℕ
  log = (with_write d w).log

  fits_log : together rs + length w.bytes ≤ length d.log
  fits_log = omega (arith, s.buffer, room.fits)

  pub view_of_recorded : view (with_write d w) ≡ write (view d) w
  view_of_recorded =
      ap (λ (ws : List Write). record { state_at_last_flush = d.image; outstanding_writes = ws })
      (ap (λ (rs : List Record). writes_of rs log) (records_of_appended d.state (record_of w) sized room.few)
      ∙ writes_last rs (record_of w) log
      ∙ ap₂ (λ (ws : List Write) (b : List ℕ). ws ++ (recorded_write (record_of w) b ∷ []))
      (writes_agree rs log d.log (laid_behind d.log (together rs) w.bytes (omega (arith, fits_log))))
      (update_reads_back d.log (together rs) w.bytes fits_log))

  pub sound_after_recorded : Sound (with_write d w)
  sound_after_recorded =
      subst⁻¹ (SoundFor (length d.image) (appended d.state (record_of w))) (length_update d.log (together rs) w.bytes)
      (sound_of_appended (length d.image) d.state (length d.log) (record_of w) sized s room)

-- an empty log
module _ (d : Desk) (image : List ℕ) where
  pub view_of_settled : view (settled_desk d image) ≡ record { state_at_last_flush = image; outstanding_writes = [] }
  unfolding writes_of
  view_of_settled = refl

  pub sound_after_settled : length image ≤ image_limit → length d.log ≡ log_limit → Sound (settled_desk d image)
  unfolding records_inside together
  sound_after_settled short buffer = record { short = short; buffer = buffer; few = omega arith; inside = refl; room = omega arith }
