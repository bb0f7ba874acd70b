-- What becomes of an image that fits in a switch.
use Rattle.std.proofs.Common.{◌≡◌, ◌⊎◌, inl, inr, ⊎_elim, ℕ, ◌+◌, ◌*◌, ◌<◌, ◌≤◌, Bool, List, [], length, refl, sym, ◌∙◌, ap, subst, arith, Ok, Err}
use Rattle.std.specs.Prelude.{slice_index, slice_range}
use Rattle.std.proofs.lemmas.Bool.{cases_eq}
use Rattle.zh_disk.specs.Disk.{Trail, SameOutside, Moves, Leaves}
use Rattle.zh_disk.proofs.CallerLemmas.{leaves_weaken}
use Rattle.zh_disk.specs.declared.disk.DiskFault.{DiskFault}
use Rattle.zh_journal.specs.Place.{Place}
use Rattle.zh_snapshot.specs.declared.fault.SwitchFault.{SwitchFault}
use Rattle.zh_snapshot.specs.Calls.{StoreSwitch}
use Rattle.zh_journal.specs.Pages.{HoldsArea}
use Rattle.zh_journal.proofs.CallerLemmas.{reads_same, holds_reads, zero_holds}
use Rattle.zh_snapshot.specs.declared.layout.Slot.{Slot}
use Rattle.zh_snapshot.specs.declared.layout.Slot.TheVariants.{First}
use Rattle.zh_snapshot.specs.Layout.{other, slot_at, snapshot_at, journal_at}
use Rattle.zh_snapshot.specs.Slots.{IsOpen, IsInUse, HasNew, Refills, IsRefilled, generation_of}
use Rattle.zh_snapshot.specs.Image.{Content, IsFramed, IsClean, with_snapshot}
use Rattle.zh_snapshot.specs.Store.{State, Fits, StoreSwitches, StoreSwitchesOrNot}
use Rattle.zh_snapshot.proofs.RangeLemmas.{slice_kept}
use Rattle.zh_snapshot.proofs.RefillLemmas.{RefillsSlot}
use Rattle.zh_snapshot.proofs.SlotLemmas.{bounds, apart, other_other, head_kept, held, closed_there}

-- only the other slot changes
module _ (slot : Slot) (d c : List ℕ) (long : length d ≡ 1118720) (by : SameOutside (slot_at (other slot)) 524544 d c) (used : IsInUse slot d) where
  low : slot_at First ≤ slot_at (other slot)
  low = (bounds (other slot)).0

  room : slot_at slot + 524544 ≤ 1118720
  room = (bounds slot).1

  out : (slot_at slot + 524544 ≤ slot_at (other slot)) ⊎ (slot_at (other slot) + 524544 ≤ slot_at slot)
  out = ⊎_elim (λ after. inr (omega (arith, after))) (λ before. inl (omega (arith, before))) (apart slot)

  inside : (k : ℕ) → slot_at slot ≤ k → k < slot_at slot + 524544 → slice_index c k ≡ slice_index d k
  inside k from to = by.same k (⊎_elim (λ before. inl (omega (arith, before))) (λ after. inr (omega (arith, after))) out)

  range : (a b : ℕ) → slot_at slot ≤ a → a ≤ b → b ≤ slot_at slot + 524544 → slice_range c a b ≡ slice_range d a b
  range a b from le to =
      slice_kept (slot_at (other slot)) 524544 a b d c by (⊎_elim (λ before. inl (omega (arith, before))) (λ after. inr (omega (arith, after))) out) le (omega (arith, to, room, long))

  front : (a b : ℕ) → a ≤ b → b ≤ slot_at First → slice_range c a b ≡ slice_range d a b
  front a b le to = slice_kept (slot_at (other slot)) 524544 a b d c by (inl (omega (arith, low))) le (omega (arith, long))

  mine : (slice_index c (slot_at slot) ≡ slice_index d (slot_at slot)) × (generation_of slot c ≡ generation_of slot d)
  mine = head_kept slot (slot_at (other slot)) 524544 d c long by (⊎_elim (λ before. inl (omega (arith, before))) (λ after. inr after) out)

  -- the other slot stays the older one
  module _ (older : IsOpen (other slot) c → generation_of (other slot) c < generation_of slot d) where
    pub still_used : IsInUse slot c
    still_used = record { gate = mine.0 ∙ used.gate; newer = λ is. omega (arith, mine.1, older is) }

    pub stays_framed : (x : Content) (j : ℕ) → IsFramed x j d → IsFramed x j c
    stays_framed x j framed =
        let h = held slot x j d used framed in
        record {
          gate = by.same 0 (inl (omega (arith, low))) ∙ framed.gate;
          most = framed.most;
          header = front 1 15 (omega arith) (omega arith) ∙ framed.header;
          setup = front 4096 (4096 + length x.setup) (omega arith) (omega (arith, framed.most)) ∙ framed.setup;
          slot = slot;
          in_use = still_used;
          holds = record {
            generation = mine.1 ∙ h.generation;
            snapshot = range (snapshot_at slot) (journal_at slot) (omega arith) (omega arith) (omega arith) ∙ h.snapshot;
            records = reads_same (journal_at slot) d c j x.records (sym by.size) (omega (arith, room, long)) (λ k from to. sym (inside k (omega (arith, from)) (omega (arith, to)))) h.records;
          };
        }

    pub stays_clean : (x : Content) (j : ℕ) → IsClean x j d → IsClean x j c
    unfolding stays_framed
    stays_clean x j clean = record {
      framed = stays_framed x j clean.framed;
      closed = λ k from to. λ is. closed_there slot x j d used clean k from to (sym (inside (journal_at slot + 256 * k) (omega arith) (omega (arith, to))) ∙ is);
    }

  -- the other slot is rewritten, one generation later, and its gate is opened
  module _ (payload : List ℕ) (is_open : IsOpen (other slot) c) (new : HasNew (other slot) (generation_of slot d + 1) payload c) where
    pub new_used : IsInUse (other slot) c
    new_used = record {
      gate = is_open;
      newer = λ is.
          let mine_still : generation_of (other (other slot)) c ≡ generation_of slot c = ap (λ (s : Slot). generation_of s c) (other_other slot) in
          omega (arith, mine_still, mine.1, new.generation_is);
    }

    area : HoldsArea (journal_at (other slot)) 0 [] c
    area = zero_holds (journal_at (other slot)) c new.journal

    pub becomes : (x : Content) (j : ℕ) → IsFramed x j d → IsClean (with_snapshot x payload) 0 c
    becomes x j framed =
        let h = held slot x j d used framed in
        record {
          framed = record {
            gate = by.same 0 (inl (omega (arith, low))) ∙ framed.gate;
            most = framed.most;
            header = front 1 15 (omega arith) (omega arith) ∙ framed.header;
            setup = front 4096 (4096 + length x.setup) (omega arith) (omega (arith, framed.most)) ∙ framed.setup;
            slot = other slot;
            in_use = new_used;
            holds = record {
              generation = new.generation_is ∙ ap (λ (n : ℕ). n + 1) h.generation;
              snapshot = new.snapshot;
              records = holds_reads (journal_at (other slot)) c 0 [] area;
            };
          };
          closed = area.closed;
        }

    -- the old slot's gate stays open
    pub old_open : IsOpen (other (other slot)) c
    old_open = subst (λ (s : Slot). IsOpen s c) (sym (other_other slot)) (mine.0 ∙ used.gate)

-- the generation of an image that fits
generation_fits : (s : State) (x : Content) (j : ℕ) (d : List ℕ) → Fits s x j d → IsFramed x j d → generation_of s.slot d ≡ s.generation
generation_fits s x j d fits framed = (held s.slot x j d fits.slot framed).generation ∙ fits.generation

-- the two things that can become of an image while the other slot is rewritten
module _ (s : State) (payload d c : List ℕ) (long : length d ≡ 1118720) (by : Refills (other s.slot) s.other_open (s.generation + 1) payload d c) where
  case : {Stays : Type 0} (x : Content) (j : ℕ) → IsFramed x j d → Fits s x j d
      → ((IsOpen (other s.slot) c → generation_of (other s.slot) c < generation_of s.slot d) → Stays) → Stays ⊎ IsClean (with_snapshot x payload) 0 c
  case x j framed fits stays = elim (cases_eq (slice_index c (slot_at (other s.slot))) 165) [
    | inl is_open ↦ ⊎_elim
        (λ old. inl (stays (λ is. omega (arith, old.1, fits.slot.newer old.0))))
        (λ new. inr (becomes s.slot d c long by.around fits.slot payload is_open
        (subst (λ (g : ℕ). HasNew (other s.slot) (g + 1) payload c) (sym (generation_fits s x j d fits framed)) new) x j framed))
        (by.gate fits.other_slot is_open)
    | inr shut ↦ inl (stays (λ is. absurd (shut is)))
  ]

  pub switches_or_not : StoreSwitchesOrNot s payload d c
  switches_or_not = record {
    around = by.around;
    framed = λ x j framed fits. case x j framed fits (λ older. stays_framed s.slot d c long by.around fits.slot older x j framed);
    clean = λ x j clean fits. case x j clean.framed fits (λ older. stays_clean s.slot d c long by.around fits.slot older x j clean);
  }

pub switches : (s : State) (payload d c : List ℕ) → length d ≡ 1118720 → IsRefilled (other s.slot) (s.generation + 1) payload d c → StoreSwitches s payload d c
switches s payload d c long by = λ x j framed fits.
    let new = subst (λ (g : ℕ). HasNew (other s.slot) (g + 1) payload c) (sym (generation_fits s x j d fits framed)) by.new_is in (
      becomes s.slot d c long by.around fits.slot payload by.gate new x j framed,
      record {
        setup = fits.setup;
        generation = ap (λ (n : ℕ). n + 1) fits.generation;
        end = refl;
        count = refl;
        slot = new_used s.slot d c long by.around fits.slot payload by.gate new;
        other_slot = (λ is. refl, λ yes. old_open s.slot d c long by.around fits.slot payload by.gate new);
      },
    )

-- the moments of a switch, if the store knew the slots and the generation
module _ (s : State) (slot : Slot) (other_open : Bool) (generation : ℕ) (payload : List ℕ) (t u : Trail)
    (to : slot ≡ other s.slot) (known : other_open ≡ s.other_open) (next : generation ≡ s.generation + 1) where
  pub switch_moments : length t.now.bytes ≡ 1118720 → Leaves (Refills slot other_open generation payload) t u → Leaves (StoreSwitchesOrNot s payload) t u
  switch_moments long run = leaves_weaken _ _ t u
      (λ d c image by. switches_or_not s payload d c (image.size ∙ long)
      (subst (λ (a : Slot). Refills a s.other_open (s.generation + 1) payload d c) to
      (subst (λ (b : Bool). Refills slot b (s.generation + 1) payload d c) known (subst (λ (n : ℕ). Refills slot other_open n payload d c) next by)))) run

  pub switch_done : length t.now.bytes ≡ 1118720 → Moves (IsRefilled slot generation payload) t.now u.now → Moves (StoreSwitches s payload) t.now u.now
  switch_done long moves = λ c image.
      let from = moves c image in (
        from.0,
        from.1,
        switches s payload from.0 c (from.1.size ∙ long)
            (subst (λ (a : Slot). IsRefilled a (s.generation + 1) payload from.0 c) to (subst (λ (n : ℕ). IsRefilled slot n payload from.0 c) next from.2)),
      )

  pub switch_fails : (d : DiskFault) (e : SwitchFault) → length t.now.bytes ≡ 1118720 → RefillsSlot {T = Place} slot other_open generation payload (Err d) t u → StoreSwitch s payload (Err e) t u
  switch_fails d e long refills = record { moments = switch_moments long refills.moments; done = tt }

  pub switch_is : (p : Place) → length t.now.bytes ≡ 1118720 → RefillsSlot slot other_open generation payload (Ok p) t u → StoreSwitch s payload (Ok tt) t u
  switch_is p long refills = record {
    moments = switch_moments long refills.moments;
    done = record { moves = switch_done long refills.done.moves; settled = refills.done.settled };
  }
