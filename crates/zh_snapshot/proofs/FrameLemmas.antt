-- Framed and clean images.
use Rattle.std.proofs.Common.{◌≡◌, ◌≢◌, ◌⊎◌, ◌↔◌, inl, inr, ⊎_elim, ℕ, ◌+◌, ◌*◌, ◌≤◌, Bool, false, List, [], ◌∷◌, ◌++◌, length, length-append, refl, sym, ◌∙◌, ap, subst, arith, None, Ok, Err}
use Rattle.std.specs.Prelude.{slice_index, slice_range, IsTrue}
use Rattle.zh_disk.specs.Disk.{Trail, SameOutside, Moves, Leaves}
use Rattle.zh_disk.proofs.CallerLemmas.{leaves_weaken}
use Rattle.zh_journal.specs.declared.fault.AppendFault as area
use Rattle.zh_snapshot.specs.declared.fault.AppendFault.{AppendFault}
use Rattle.zh_snapshot.specs.Calls.{StoreAppends}
use Rattle.zh_journal.specs.Calls.{Appends}
use Rattle.zh_journal.specs.Pages.{ReadsRecords, HoldsArea, Adds, AddsOrNot, pages_of}
use Rattle.zh_journal.specs.Place.{Place}
use Rattle.zh_journal.specs.Records.{records_of}
use Rattle.zh_journal.proofs.CallerLemmas.{holds_reads, length-slice, reads_records}
use Rattle.zh_snapshot.specs.declared.layout.Slot.{Slot}
use Rattle.zh_snapshot.specs.declared.layout.Slot.TheVariants.{First}
use Rattle.zh_snapshot.specs.Layout.{other, slot_at, snapshot_at, journal_at}
use Rattle.zh_snapshot.specs.Slots.{IsOpen, IsInUse, generation_of}
use Rattle.zh_snapshot.specs.Image.{Content, IsFramed, IsClean, IsBlank, header_bytes}
use Rattle.zh_snapshot.specs.Store.{State, Fits, StoreAdds, StoreAddsOrNot}
use Rattle.zh_snapshot.proofs.RangeLemmas.{slice_kept}
use Rattle.zh_snapshot.proofs.SlotLemmas.{bounds, apart, head_kept, in_use_kept, held, closed_there}

-- what the area of a clean image holds
pub clean_holds : (slot : Slot) (x : Content) (j : ℕ) (c : List ℕ) → IsInUse slot c → IsClean x j c → HoldsArea (journal_at slot) j x.records c
clean_holds slot x j c used clean =
    let h = held slot x j c used clean.framed in
    record { frames = h.records.0; fits = h.records.1.0; closed = closed_there slot x j c used clean }

-- only the journal of the slot in use changes
module _ (slot : Slot) (d c : List ℕ) (long : length d ≡ 1118720) (by : SameOutside (journal_at slot) 262144 d c) (used : IsInUse slot d) where
  low : slot_at First ≤ slot_at slot
  low = (bounds slot).0

  there : (snapshot_at (other slot) ≤ journal_at slot) ⊎ (journal_at slot + 262144 ≤ slot_at (other slot))
  there = ⊎_elim (λ after. inl (omega (arith, after))) (λ before. inr (omega (arith, before))) (apart slot)

  pub used_still : IsInUse slot c
  used_still = in_use_kept slot (journal_at slot) 262144 d c long by (inl (omega arith)) there used

  pub other_still : slice_index c (slot_at (other slot)) ≡ slice_index d (slot_at (other slot))
  other_still = (head_kept (other slot) (journal_at slot) 262144 d c long by there).0

  kept : (a b : ℕ) → a ≤ b → b ≤ journal_at slot → slice_range c a b ≡ slice_range d a b
  kept a b le high = slice_kept (journal_at slot) 262144 a b d c by (inl high) le (omega (arith, high, (bounds slot).1, long))

  -- the journal has other records
  pub clean_by : (x : Content) (rs : List (List ℕ)) (j i : ℕ) → IsClean x j d → HoldsArea (journal_at slot) i rs c → IsClean (record x { records = rs }) i c
  clean_by x rs j i clean holds =
      let f = clean.framed in
      let h = held slot x j d used clean.framed in
      record {
        framed = record {
          gate = by.same 0 (inl (omega (arith, low))) ∙ f.gate;
          most = f.most;
          header = kept 1 15 (omega arith) (omega (arith, low)) ∙ f.header;
          setup = kept 4096 (4096 + length x.setup) (omega arith) (omega (arith, f.most, low)) ∙ f.setup;
          slot = slot;
          in_use = used_still;
          holds = record {
            generation = (head_kept slot (journal_at slot) 262144 d c long by (inl (omega arith))).1 ∙ h.generation;
            snapshot = kept (snapshot_at slot) (journal_at slot) (omega arith) (omega arith) ∙ h.snapshot;
            records = holds_reads (journal_at slot) c i rs holds;
          };
        };
        closed = holds.closed;
      }

module _ (s : State) (r d c : List ℕ) (long : length d ≡ 1118720) where
  pub area_adds : Adds (journal_at s.slot) s.area.end r d c → StoreAdds s r d c
  area_adds by = λ x j clean fits.
      let holds = subst (λ (n : ℕ). HoldsArea (journal_at s.slot) n x.records d) fits.end (clean_holds s.slot x j d fits.slot clean) in
      let more = subst (λ (n : ℕ). HoldsArea (journal_at s.slot) (n + pages_of (length r)) (x.records ++ r ∷ []) c) (sym fits.end) (by.area x.records holds) in
      let same = other_still s.slot d c long by.around fits.slot in (
        clean_by s.slot d c long by.around fits.slot x (x.records ++ r ∷ []) j (j + pages_of (length r)) clean more,
        record {
          setup = fits.setup;
          generation = fits.generation;
          end = ap (λ (n : ℕ). n + pages_of (length r)) fits.end;
          count = omega (arith, length-append x.records (r ∷ []), fits.count);
          slot = used_still s.slot d c long by.around fits.slot;
          other_slot = (λ is. fits.other_slot.0 (sym same ∙ is), λ yes. same ∙ fits.other_slot.1 yes);
        },
      )

  pub area_adds_or_not : AddsOrNot (journal_at s.slot) s.area.end r d c → StoreAddsOrNot s r d c
  area_adds_or_not by = record {
    around = by.around;
    clean = λ x j clean fits.
        let holds = subst (λ (n : ℕ). HoldsArea (journal_at s.slot) n x.records d) fits.end (clean_holds s.slot x j d fits.slot clean) in ⊎_elim
        (λ still. inl (clean_by s.slot d c long by.around fits.slot x x.records j j clean (subst (λ (n : ℕ). HoldsArea (journal_at s.slot) n x.records c) (sym fits.end) still)))
        (λ more. inr (clean_by s.slot d c long by.around fits.slot x (x.records ++ r ∷ []) j (j + pages_of (length r)) clean
        (subst (λ (n : ℕ). HoldsArea (journal_at s.slot) (n + pages_of (length r)) (x.records ++ r ∷ []) c) (sym fits.end) more)))
        (by.area x.records holds);
  }

-- an append to the area is an append to the store
module _ (p : Place) (r : List ℕ) (s : State) (t u : Trail) (is : p ≡ s.area) (here : p.base ≡ journal_at s.slot) (long : length t.now.bytes ≡ 1118720) where
  end : p.end ≡ s.area.end
  end = ap (λ (q : Place). q.end) is

  at_moments : Leaves (AddsOrNot p.base p.end r) t u → Leaves (StoreAddsOrNot s r) t u
  at_moments run =
      leaves_weaken _ _ t u (λ d c image by. area_adds_or_not s r d c (image.size ∙ long)
      (subst (λ (n : ℕ). AddsOrNot n s.area.end r d c) here (subst (λ (n : ℕ). AddsOrNot p.base n r d c) end by))) run

  at_ok : Moves (Adds p.base p.end r) t.now u.now → Moves (StoreAdds s r) t.now u.now
  at_ok moves = λ c image.
      let from = moves c image in
      (from.0, from.1, area_adds s r from.0 c (from.1.size ∙ long) (subst (λ (n : ℕ). Adds n s.area.end r from.0 c) here (subst (λ (n : ℕ). Adds p.base n r from.0 c) end from.2)))

  at_pages : Leaves (SameOutside (p.base + 256 * p.end) (256 * pages_of (length r))) t u → Leaves (SameOutside (s.area.base + 256 * s.area.end) (256 * pages_of (length r))) t u
  at_pages = subst (λ (q : Place). Leaves (SameOutside (q.base + 256 * q.end) (256 * pages_of (length r))) t u) is

  pub store_fails : (e : area.AppendFault) (d : AppendFault) → Appends p r (Err e) t u → StoreAppends s r (Err d) t u
  store_fails e d appends = record { moments = at_moments appends.moments; pages = at_pages appends.outside; done = tt; calls = tt }

  pub store_appends : Appends p r (Ok tt) t u → StoreAppends s r (Ok tt) t u
  store_appends appends = record {
    moments = at_moments appends.moments;
    pages = at_pages appends.outside;
    done = record { moves = at_ok appends.done.moves; settled = appends.done.settled };
    calls = appends.calls;
  }

-- an image is framed with the content that an opening reads
pub framed_all : (b : List ℕ) (len : ℕ) (slot : Slot) (generation : ℕ) (other_open : Bool) (p : Place) (rs : List (List ℕ)) → length b ≡ 1118720
    → (slice_index b 0 ≡ 165) × (len ≤ 65536) × (slice_range b 1 15 ≡ header_bytes len)
    → IsInUse slot b × (generation_of slot b ≡ generation) × (IsOpen (other slot) b ↔ IsTrue other_open)
    → ReadsRecords (journal_at slot) b rs p.end → length rs ≡ p.count
    → (x : Content) × (j : ℕ) × IsFramed x j b × Fits (record { setup_length = len; slot = slot; generation = generation; other_open = other_open; area = p; broken = false }) x j b
framed_all b len slot generation other_open p rs long head found reads count =
    let wide : length (slice_range b 4096 (4096 + len)) ≡ len = omega (arith, length-slice b 4096 (4096 + len) (omega arith) (omega (arith, head.1))) in (
      record { setup = slice_range b 4096 (4096 + len); generation = generation; snapshot = slice_range b (snapshot_at slot) (journal_at slot); records = rs },
      p.end,
      record {
        gate = head.0;
        most = omega (arith, wide, head.1);
        header = head.2 ∙ ap header_bytes (sym wide);
        setup = ap (λ (n : ℕ). slice_range b 4096 (4096 + n)) wide;
        slot = slot;
        in_use = found.0;
        holds = record { generation = found.1; snapshot = refl; records = reads };
      },
      record { setup = wide; generation = refl; end = refl; count = count; slot = found.0; other_slot = found.2 },
    )

-- the disk's gate is open, and the header is valid and has this length of the set-up bytes
abbrev pub Header : ℕ → List ℕ → Type 0
Header len c = (slice_index c 0 ≡ 165) × (len ≤ 65536) × (slice_range c 1 15 ≡ header_bytes len)

-- the disk's gate is open, but the image is not framed with any content
abbrev pub Damage : List ℕ → Type 0
Damage b = (IsBlank b → ⊥) × ((x : Content) (j : ℕ) → IsFramed x j b → ⊥)

-- an image with a wrong header, with no slot in use, or with a damaged journal is damaged
pub no_header : (b : List ℕ) → (slice_index b 0 ≡ 165) × ((len : ℕ) → len ≤ 65536 → slice_range b 1 15 ≢ header_bytes len) → Damage b
no_header b wrong = (λ blank. blank wrong.0, λ x j framed. wrong.1 (length x.setup) framed.most framed.header)

pub no_slot : (b : List ℕ) (len : ℕ) → Header len b → ((slot : Slot) → IsInUse slot b → ⊥) → Damage b
no_slot b len head none = (λ blank. blank head.0, λ x j framed. none framed.slot framed.in_use)

pub no_journal : (b : List ℕ) (len : ℕ) (slot : Slot) → Header len b → IsInUse slot b → records_of (journal_at slot) b ≡ None → Damage b
no_journal b len slot head used none = (
  λ blank. blank head.0,
  λ x j framed.
      let some = reads_records (journal_at slot) b x.records j (held slot x j b used framed).records in absurd (cc),
)
