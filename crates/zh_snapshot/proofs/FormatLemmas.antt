-- What the writes of formatting leave.
use Rattle.std.proofs.Common.{◌≡◌, inl, inr, ℕ, ◌+◌, ◌-◌, ◌<◌, ◌≤◌, List, [], ◌∷◌, length, refl, sym, ◌∙◌, ap, subst, arith, Result}
use Rattle.std.specs.Prelude.{slice_index, slice_range}
use Rattle.std.specs.Int.{w64, to_be_bytes, from_be_bytes}
use Rattle.std.proofs.lemmas.Bool.{cases_eq}
use Rattle.zh_disk.specs.declared.disk.DiskFault.{DiskFault}
use Rattle.zh_disk.specs.Disk.{Moment, Trail, IsSettled, SameOutside, Writes, Leaves, Changes, splice}
use Rattle.zh_disk.proofs.CallerLemmas.{same_refl, write_leaves, leaves_weaken, leaves_more, write_changes}
use Rattle.zh_journal.specs.Gate.{FromBytes}
use Rattle.zh_journal.specs.Calls.{Clears}
use Rattle.zh_journal.specs.Pages.{HoldsArea, IsCleared, zero_bytes}
use Rattle.zh_journal.proofs.CallerLemmas.{slice_at, zeros_at, holds_same}
use Rattle.zh_snapshot.specs.declared.layout.Slot.TheVariants.{First, Second}
use Rattle.zh_snapshot.specs.Layout.{slot_at, snapshot_at, journal_at}
use Rattle.zh_snapshot.specs.Slots.{generation_of}
use Rattle.zh_snapshot.specs.Image.{IsBlank, header_bytes}
use Rattle.zh_snapshot.specs.Format.{IsFormatted, BlankOrFormatted}
use Rattle.zh_snapshot.specs.Parts.{HasParts, IsEmptied}
use Rattle.zh_snapshot.proofs.RangeLemmas.{same_trans, same_wider, slice_kept, slice_part, placed}

-- a write after the disk's gate
pub after_gate : (t u : Trail) (at : ℕ) (bytes : List ℕ) (result : Result (Unit {0}) DiskFault) → length t.now.bytes ≡ 1118720 → 1 ≤ at
    → at + length bytes ≤ 1118720 → Writes at bytes result t u → Leaves (SameOutside 1 1118719) t u
after_gate t u at bytes result long low fits writes =
    leaves_weaken _ _ t u (λ x f image by. same_wider at (length bytes) 1 1118719 low (omega arith) x f by) (write_leaves t u at bytes result (omega arith) writes)

pub one_more : (a b c : Trail) → Leaves (SameOutside 1 1118719) a b → Leaves (SameOutside 1 1118719) b c → Leaves (SameOutside 1 1118719) a c
one_more a b c = leaves_more (SameOutside 1 1118719) a b c (same_refl 1 1118719) (same_trans 1 1118719)

-- the same as a change, at a place and of bytes that equal others
pub after_gate_is : (t u : Trail) (at at' : ℕ) (bytes bytes' : List ℕ) (result : Result (Unit {0}) DiskFault) → length t.now.bytes ≡ 1118720
    → at ≡ at' → bytes ≡ bytes' → 1 ≤ at' → at' + length bytes' ≤ 1118720
    → Writes at bytes result t u → Changes (SameOutside 1 1118719) (λ old new. new.bytes ≡ splice at' bytes' old.bytes) result t u
after_gate_is t u at at' bytes bytes' result long place same low fits writes =
    let here = subst (λ (n : ℕ). Writes n bytes' result t u) place (subst (λ (l : List ℕ). Writes at l result t u) same writes) in
    record {
      moments = after_gate t u at' bytes' result long low fits here;
      done = (write_changes t u at' (length bytes') bytes' result refl (omega arith) here).done;
    }

-- zeros written over the second slot's head, as a change
pub head_zeroed : (t u : Trail) (at : ℕ) → at ≡ slot_at Second → (result : Result (Unit {0}) DiskFault) → length t.now.bytes ≡ 1118720 → Writes at (0 ∷ 0 ∷ 0 ∷ 0 ∷ 0 ∷ 0 ∷ 0 ∷ 0 ∷ 0 ∷ []) result t u
    → Changes (SameOutside 1 1118719) (λ old new. new.bytes ≡ splice (slot_at Second) (0 ∷ 0 ∷ 0 ∷ 0 ∷ 0 ∷ 0 ∷ 0 ∷ 0 ∷ 0 ∷ []) old.bytes) result t u
head_zeroed t u at place result long writes = after_gate_is t u at (slot_at Second) _ _ result long place refl (omega arith) (omega arith) writes

-- the clearing of the first slot's journal, as a change
pub cleared_is : {T : Type 0} (t u : Trail) (at : ℕ) (result : Result T DiskFault) → at ≡ journal_at First → Clears at result t u
    → Changes (SameOutside 1 1118719) (λ old new. IsCleared (journal_at First) old.bytes new.bytes) result t u
cleared_is t u at result place clears =
    let here = subst (λ (n : ℕ). Clears n result t u) place clears in
    record { moments = leaves_weaken _ _ t u (λ x f image by. same_wider (journal_at First) 262144 1 1118719 (omega arith) (omega arith) x f by) here.moments; done = here.done }

pub parts : (setup first b0 b1 b2 b3 b4 : List ℕ) → length b0 ≡ 1118720 → length setup ≤ 65536 → length first ≡ 262391
    → b1 ≡ splice 1 (header_bytes (length setup)) b0 → b2 ≡ splice 4096 setup b1 → b3 ≡ splice (slot_at First) (165 ∷ to_be_bytes w64 1) b2
    → b4 ≡ splice (snapshot_at First) first b3 → HasParts setup first b4
parts setup first b0 b1 b2 b3 b4 long most wide one two three four =
    let fourteen : length (header_bytes (length setup)) ≡ 14 = refl in
    let w1 = placed 1 (header_bytes (length setup)) b0 b1 (omega arith) one in
    let s1 = w1.0.size in
    let w2 = placed 4096 setup b1 b2 (omega arith) two in
    let s2 = w2.0.size in
    let w3 = placed (slot_at First) (165 ∷ to_be_bytes w64 1) b2 b3 (omega arith) three in
    let s3 = w3.0.size in
    let w4 = placed (snapshot_at First) first b3 b4 (omega arith) four in
    let last : snapshot_at First + length first ≡ journal_at First = omega arith in
    record {
      header =
          slice_kept (snapshot_at First) (length first) 1 15 b3 b4 w4.0 (inl (omega arith)) (omega arith) (omega arith)
          ∙ slice_kept (slot_at First) 9 1 15 b2 b3 w3.0 (inl (omega arith)) (omega arith) (omega arith)
          ∙ slice_kept 4096 (length setup) 1 15 b1 b2 w2.0 (inl (omega arith)) (omega arith) (omega arith) ∙ w1.1;
      bytes =
          slice_kept (snapshot_at First) (length first) 4096 (4096 + length setup) b3 b4 w4.0 (inl (omega arith)) (omega arith) (omega arith)
          ∙ slice_kept (slot_at First) 9 4096 (4096 + length setup) b2 b3 w3.0 (inl (omega arith)) (omega arith) (omega arith) ∙ w2.1;
      head = slice_kept (snapshot_at First) (length first) (slot_at First) (snapshot_at First) b3 b4 w4.0 (inl (omega arith)) (omega arith) (omega arith) ∙ w3.1;
      snapshot = ap (slice_range b4 (snapshot_at First)) (sym last) ∙ w4.1;
    }

nine_zeros : (k : ℕ) → slice_index (0 ∷ 0 ∷ 0 ∷ 0 ∷ 0 ∷ 0 ∷ 0 ∷ 0 ∷ 0 ∷ []) k ≡ 0
unfolding zero_bytes
nine_zeros k = zeros_at 9 k

pub emptied : (b0 b1 b2 : List ℕ) → length b0 ≡ 1118720 → IsCleared (journal_at First) b0 b1 → b2 ≡ splice (slot_at Second) (0 ∷ 0 ∷ 0 ∷ 0 ∷ 0 ∷ 0 ∷ 0 ∷ 0 ∷ 0 ∷ []) b1 → IsEmptied b0 b2
emptied b0 b1 b2 long cleared is =
    let s1 = cleared.around.size in
    let w = placed (slot_at Second) (0 ∷ 0 ∷ 0 ∷ 0 ∷ 0 ∷ 0 ∷ 0 ∷ 0 ∷ 0 ∷ []) b1 b2 (omega arith) is in
    let s2 = w.0.size in
    record {
      around = same_trans (journal_at First) 262153 b0 b1 b2 (same_wider (journal_at First) 262144 (journal_at First) 262153 (omega arith)
          (omega arith) b0 b1 cleared.around) (same_wider (slot_at Second) 9 (journal_at First) 262153 (omega arith) (omega arith) b1 b2 w.0);
      area = holds_same (journal_at First) b1 b2 0 [] (sym w.0.size) (omega arith) (λ k from low. sym (w.0.same k (inl (omega arith)))) cleared.area;
      journal = λ k from low. w.0.same k (inl low) ∙ cleared.zero k from low;
      other = λ k from low.
          let place : slot_at Second + (k - slot_at Second) ≡ k = omega arith in
          sym (ap (slice_index b2) place) ∙ sym (slice_at b2 (slot_at Second) (snapshot_at Second) (k - slot_at Second) (omega arith))
          ∙ ap (λ (l : List ℕ). slice_index l (k - slot_at Second)) w.1 ∙ nine_zeros (k - slot_at Second);
    }

module _ (setup first b1 b2 : List ℕ) (long : length b1 ≡ 1118720) (most : length setup ≤ 65536) (has : HasParts setup first b1)
    (empty : IsEmptied b1 b2) (c : List ℕ) (by : SameOutside 0 1 b2 c) where
  long2 : length b2 ≡ 1118720
  long2 = empty.around.size ∙ long

  long_c : length c ≡ 1118720
  long_c = by.size ∙ long2

  kept : (a b : ℕ) → 1 ≤ a → a ≤ b → b ≤ (journal_at First) → slice_range c a b ≡ slice_range b1 a b
  kept a b low le high =
      slice_kept 0 1 a b b2 c by (inr (omega arith)) le (omega (arith, long2)) ∙ slice_kept (journal_at First) 262153 a b b1 b2 empty.around (inl high) le (omega arith)

  area_c : HoldsArea (journal_at First) 0 [] c
  area_c = holds_same (journal_at First) b2 c 0 [] (sym by.size) (omega (arith, long2)) (λ k from low. sym (by.same k (inr (omega arith)))) empty.area

  head_c : slice_range c (slot_at First) (snapshot_at First) ≡ 165 ∷ to_be_bytes w64 1
  head_c = kept (slot_at First) (snapshot_at First) (omega arith) (omega arith) (omega arith) ∙ has.head

  other_c : (k : ℕ) → (slot_at Second) ≤ k → k < (slot_at Second) + 9 → slice_index c k ≡ 0
  other_c k from low = by.same k (inr (omega arith)) ∙ empty.other k from low

  pub formatted : slice_index c 0 ≡ 165 → IsFormatted setup first c
  unfolding generation_of
  formatted is_open = record {
    clean = record {
      framed = record {
        gate = is_open;
        most = most;
        header = kept 1 15 (omega arith) (omega arith) (omega arith) ∙ has.header;
        setup = kept 4096 (4096 + length setup) (omega arith) (omega arith) (omega arith) ∙ has.bytes;
        slot = First;
        in_use = record {
          gate = sym (slice_at c (slot_at First) (snapshot_at First) 0 (omega arith)) ∙ ap (λ (l : List ℕ). slice_index l 0) head_c;
          newer = λ is. absurd (omega (arith, is, other_c (slot_at Second) (omega arith) (omega arith)));
        };
        holds = record {
          generation = ap (from_be_bytes w64)
              (sym (slice_part c (slice_range c (slot_at First) (snapshot_at First)) (slot_at First) 9 1 9 refl (omega (arith, long_c))
              (omega arith) (omega arith)) ∙ ap (λ (l : List ℕ). slice_range l 1 9) head_c);
          snapshot = kept (snapshot_at First) (journal_at First) (omega arith) (omega arith) (omega arith) ∙ has.snapshot;
          records = (refl, (omega arith, λ inside. area_c.closed 0 (omega arith) inside));
        };
      };
      closed = area_c.closed;
    };
    journal = λ k from low. by.same k (inr (omega arith)) ∙ empty.journal k from low;
    other = other_c;
  }

  pub opening : BlankOrFormatted setup first c
  opening = elim (cases_eq (slice_index c 0) 165) [
    | inl is_open ↦ inr (formatted is_open)
    | inr shut ↦ inl shut
  ]

-- while the disk's gate is closed on the disk, the disk stays blank
pub stays_blank : (t u : Trail) → (t.now.pending ≡ []) × IsBlank t.now.bytes → Leaves (SameOutside 1 1118719) t u → Leaves (λ d c. IsBlank c) t u
stays_blank t u closed run = leaves_weaken _ _ t u
    (λ x f image by.
    let settled : IsSettled t.now.pending 0 = subst (λ (p : List (ℕ × ℕ)). IsSettled p 0) (sym closed.0) tt in
    λ is. closed.1 (sym (image.same 0 settled) ∙ sym (by.same 0 (inl (omega arith))) ∙ is)) run

pub opens : (setup first b1 : List ℕ) (t u : Trail) → length b1 ≡ 1118720 → length setup ≤ 65536 → HasParts setup first b1
    → IsEmptied b1 t.now.bytes → Leaves (FromBytes 0 t) t u → Leaves (λ d c. BlankOrFormatted setup first c) t u
opens setup first b1 t u long most has empty run = leaves_weaken _ _ t u
    (λ x f image by. opening setup first b1 t.now.bytes long most has empty f (subst (λ (l : List ℕ). SameOutside 0 1 l f) by.0 by.1)) run

pub opened : (setup first b1 : List ℕ) (t u : Trail) → length b1 ≡ 1118720 → length setup ≤ 65536 → HasParts setup first b1 → IsEmptied b1 t.now.bytes
    → u.now ≡ record { bytes = splice 0 (165 ∷ []) t.now.bytes; pending = [] } → (u.now.pending ≡ []) × IsFormatted setup first u.now.bytes
opened setup first b1 t u long most has empty is =
    let size = empty.around.size in
    let w = placed 0 (165 ∷ []) t.now.bytes u.now.bytes (omega arith) (ap (λ (m : Moment). m.bytes) is) in
    let gate : slice_index u.now.bytes 0 ≡ 165 = sym (slice_at u.now.bytes 0 1 0 (omega arith)) ∙ ap (λ (l : List ℕ). slice_index l 0) w.1 in
    (ap (λ (m : Moment). m.pending) is, formatted setup first b1 t.now.bytes long most has empty u.now.bytes w.0 gate)
