-- The moments while a slot is rewritten: its gate is closed, it is filled, its gate is opened.
use Rattle.std.proofs.Common.{◌≡◌, inl, inr, ℕ, ◌+◌, ◌-◌, ◌≤◌, Bool, List, [], ◌∷◌, length, sym, ◌∙◌, ap, subst, arith, Result, Ok, Err}
use Rattle.std.specs.Prelude.{slice_index}
use Rattle.zh_disk.specs.Disk.{Moment, Trail, IsImage, SameOutside, Moves, Leaves, Lands, Changes, splice, settled}
use Rattle.zh_disk.proofs.CallerLemmas.{splice_same, splice_in, image_now, synced_image, same_refl, leaves_now, leaves_weaken, leaves_join}
use Rattle.zh_disk.specs.declared.disk.DiskFault.{DiskFault}
use Rattle.zh_journal.specs.Calls.{OpensGate}
use Rattle.zh_journal.specs.Gate.{FromBytes}
use Rattle.zh_snapshot.specs.Calls.{ClosesSlot, FillsSlot}
use Rattle.zh_snapshot.specs.declared.layout.Slot.{Slot}
use Rattle.zh_snapshot.specs.Layout.{slot_at, generation_at, snapshot_at, journal_at}
use Rattle.zh_snapshot.specs.Slots.{Closes, IsClosed, HasNew, Refills, IsRefilled}
use Rattle.zh_snapshot.proofs.RangeLemmas.{same_trans, same_wider, slice_kept}
use Rattle.zh_snapshot.proofs.SlotLemmas.{bounds, generation_kept}

-- a slot is rewritten
abbrev pub RefillsSlot : {T : Type 0} → Slot → Bool → ℕ → List ℕ → Result T DiskFault → Trail → Trail → Type 0
RefillsSlot slot is_open generation payload =
    Changes (Refills slot is_open generation payload) (Lands (IsRefilled slot generation payload))

-- what was written after the gate is still there if only the gate has changed since
new_kept : (slot : Slot) (generation : ℕ) (payload d c : List ℕ) → length d ≡ 1118720 → SameOutside (slot_at slot) 1 d c → HasNew slot generation payload d → HasNew slot generation payload c
new_kept slot generation payload d c long by new = record {
  generation_is = generation_kept slot d c long by ∙ new.generation_is;
  snapshot = slice_kept (slot_at slot) 1 (snapshot_at slot) (journal_at slot) d c by (inr (omega arith)) (omega arith) (omega (arith, (bounds slot).1, long)) ∙ new.snapshot;
  journal = λ k from to. by.same k (inr (omega (arith, from))) ∙ new.journal k from to;
}

-- if nothing is pending, the only image is what a read gives
only_image : (m : Moment) (b c : List ℕ) → m ≡ settled b → IsImage m c → c ≡ b
only_image m b c is image = synced_image (settled b) c (subst (λ (x : Moment). IsImage x c) is image)

module _ (slot : Slot) (is_open : Bool) (generation : ℕ) (payload : List ℕ) (t0 t1 : Trail) (long : length t0.now.bytes ≡ 1118720) (first : Leaves (Closes slot is_open) t0 t1) where
  within : (d c : List ℕ) → SameOutside (slot_at slot) 1 d c → SameOutside (slot_at slot) 524544 d c
  within d c by = same_wider (slot_at slot) 1 (slot_at slot) 524544 (omega arith) (omega arith) d c by

  behind : (d c : List ℕ) → SameOutside (generation_at slot) 524543 d c → SameOutside (slot_at slot) 524544 d c
  behind d c by = same_wider (generation_at slot) 524543 (slot_at slot) 524544 (omega arith) (omega arith) d c by

  pub at_closing : Leaves (Refills slot is_open generation payload) t0 t1
  at_closing = leaves_weaken _ _ t0 t1
      (λ d c image by. record {
        around = within d c by.1;
        gate = λ known opened. inl (known.1 by.0, generation_kept slot d c (image.size ∙ long) by.1);
      }) first

  module _ (closed : Moves (IsClosed slot is_open) t0.now t1.now) (t2 : Trail) (second : Leaves (SameOutside (generation_at slot) 524543) t1 t2) where
    pub at_filling : Leaves (Refills slot is_open generation payload) t0 t2
    at_filling = leaves_join _ _ (Refills slot is_open generation payload) t0 t1 t2 at_closing second (λ x f image by. by)
        (λ x f image by.
        let from = closed x image in (
          from.0,
          from.1,
          record {
            around = same_trans (slot_at slot) 524544 from.0 x f (within from.0 x from.2.around) (behind x f by);
            gate = λ known opened. absurd (from.2.gate known.0 (sym (by.same (slot_at slot) (inl (omega arith))) ∙ opened));
          },
        ))

    -- an image from the start that differs from this one only in the slot
    origin : (x : List ℕ) → IsImage t2.now x → (d : List ℕ) × IsImage t0.now d × SameOutside (slot_at slot) 524544 d x
    origin x image =
        let y = leaves_now (SameOutside (generation_at slot) 524543) t1 t2 (same_refl (generation_at slot) 524543) second x image in
        let from = closed y.0 y.1 in
        (from.0, from.1, same_trans (slot_at slot) 524544 from.0 y.0 x (within from.0 y.0 from.2.around) (behind y.0 x y.2))

    module _ (long2 : length t2.now.bytes ≡ 1118720) (filled : HasNew slot generation payload t2.now.bytes) (t3 : Trail) where
      pub at_opening : Leaves (FromBytes (slot_at slot) t2) t2 t3 → Leaves (Refills slot is_open generation payload) t0 t3
      at_opening third = leaves_join _ _ (Refills slot is_open generation payload) t0 t2 t3 at_filling third (λ x f image by. by)
          (λ x f image by.
          let from = origin x image in
          let here : SameOutside (slot_at slot) 1 t2.now.bytes f = subst (λ (l : List ℕ). SameOutside (slot_at slot) 1 l f) by.0 by.1 in (
            from.0,
            from.1,
            record {
              around = same_trans (slot_at slot) 524544 from.0 x f from.2 (within x f by.1);
              gate = λ known opened. inr (new_kept slot generation payload t2.now.bytes f long2 here filled);
            },
          ))

      pub at_end : t3.now ≡ settled (splice (slot_at slot) (165 ∷ []) t2.now.bytes) → Moves (IsRefilled slot generation payload) t0.now t3.now
      at_end is = λ c image.
          let b = t2.now.bytes in
          let room : slot_at slot + 1 ≤ length t2.now.bytes = omega (arith, (bounds slot).1, long2) in
          let only = only_image t3.now (splice (slot_at slot) (165 ∷ []) b) c is image in
          let here : SameOutside (slot_at slot) 1 b c = subst (λ (l : List ℕ). SameOutside (slot_at slot) 1 t2.now.bytes l) (sym only) (splice_same (slot_at slot) (165 ∷ []) t2.now.bytes room) in
          let zero : slot_at slot - slot_at slot ≡ 0 = omega arith in
          let opened : slice_index c (slot_at slot) ≡ 165 = ap (λ (l : List ℕ). slice_index l (slot_at slot)) only
          ∙ splice_in (slot_at slot) (165 ∷ []) b (slot_at slot) room (omega arith) (omega arith) ∙ ap (slice_index (165 ∷ [])) zero in
          let from = origin b (image_now t2.now) in (
            from.0,
            from.1,
            record {
              around = same_trans (slot_at slot) 524544 from.0 b c from.2 (within b c here);
              gate = opened;
              new_is = new_kept slot generation payload b c long2 here filled;
            },
          )

-- Rewriting a slot: it failed at closing the gate, at what comes after it, or at opening the gate, or it succeeded.
module _ {T : Type 0} (slot : Slot) (is_open : Bool) (generation : ℕ) (payload : List ℕ) (t0 t1 : Trail) (long : length t0.now.bytes ≡ 1118720) where
  pub refill_closing : (d : DiskFault) → ClosesSlot slot is_open (Err d) t0 t1 → RefillsSlot {T = T} slot is_open generation payload (Err d) t0 t1
  refill_closing d closes = record { moments = at_closing slot is_open generation payload t0 t1 long closes.moments; done = tt }

  module _ (closes : ClosesSlot slot is_open (Ok tt) t0 t1) (t2 : Trail) where
    pub refill_filling : {U : Type 0} (d : DiskFault) → FillsSlot {T = U} slot generation payload (Err d) t1 t2 → RefillsSlot {T = T} slot is_open generation payload (Err d) t0 t2
    refill_filling d fills = record { moments = at_filling slot is_open generation payload t0 t1 long closes.moments closes.done t2 fills.moments; done = tt }

    module _ {U : Type 0} (x : U) (fills : FillsSlot {T = U} slot generation payload (Ok x) t1 t2) (long2 : length t2.now.bytes ≡ 1118720) (t3 : Trail) where
      pub refill_opening : (d : DiskFault) → OpensGate (slot_at slot) (Err d) t2 t3 → RefillsSlot {T = T} slot is_open generation payload (Err d) t0 t3
      refill_opening d opens = record { moments = at_opening slot is_open generation payload t0 t1 long closes.moments closes.done t2 fills.moments long2 fills.done t3 opens.moments; done = tt }

      pub refill_done : (y : T) → OpensGate (slot_at slot) (Ok tt) t2 t3 → RefillsSlot {T = T} slot is_open generation payload (Ok y) t0 t3
      refill_done y opens = record {
        moments = at_opening slot is_open generation payload t0 t1 long closes.moments closes.done t2 fills.moments long2 fills.done t3 opens.moments;
        done = record {
          moves = at_end slot is_open generation payload t0 t1 long closes.moments closes.done t2 fills.moments long2 fills.done t3 opens.done;
          settled = ap (λ (m : Moment). m.pending) opens.done;
        };
      }
