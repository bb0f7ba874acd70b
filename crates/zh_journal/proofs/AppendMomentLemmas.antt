-- The moments of a whole append: the pages except for their gates, then the gate of the first page.
use Rattle.std.proofs.Common.{◌≡◌, inl, inr, ⊎_elim, ℕ, ◌+◌, ◌*◌, ◌≤◌, List, [], ◌∷◌, length, sym, ◌∙◌, ap, subst, arith, Ok, Err}
use Rattle.std.specs.Prelude.{slice_index}
use Rattle.zh_disk.specs.Disk.{Moment, Trail, IsImage, SameOutside, Moves, Leaves, splice}
use Rattle.zh_disk.proofs.CallerLemmas.{splice_inside, splice_same, image_now, leaves_now, leaves_weaken, leaves_join, synced_image}
use Rattle.zh_journal.specs.Pages.{pages_of, HasSize, IsWritten, SameButBodies, AddsOrNot, Adds}
use Rattle.zh_journal.specs.Gate.{FromBytes}
use Rattle.zh_journal.specs.Place.{Place}
use Rattle.zh_journal.specs.Calls.{Stages, OpensGate, Appends}
use Rattle.zh_journal.specs.declared.fault.AppendFault.{AppendFault}
use Rattle.zh_disk.specs.declared.disk.DiskFault.{DiskFault}
use Rattle.zh_journal.proofs.PageLemmas.{but_refl}
use Rattle.zh_journal.proofs.AppendLemmas.{still, opening, opened}

module _ (base j : ℕ) (r : List ℕ) (sized : HasSize r) (room : j + pages_of (length r) ≤ 1024) (t0 t1 : Trail) (long : base + 262144 ≤ length t0.now.bytes)
    (staging : Leaves (SameButBodies (base + 256 * j) (pages_of (length r))) t0 t1) where
  -- the length of an image at the start
  long_image : (d : List ℕ) → IsImage t0.now d → base + 262144 ≤ length d
  long_image d image = omega (arith, image.size)

  pub at_staging : Leaves (AddsOrNot base j r) t0 t1
  at_staging = leaves_weaken _ _ t0 t1 (λ d c image by. still base j r sized room d c (long_image d image) by) staging

  came : (d : List ℕ) × IsImage t0.now d × SameButBodies (base + 256 * j) (pages_of (length r)) d t1.now.bytes
  came = leaves_now _ t0 t1 (but_refl (base + 256 * j) (pages_of (length r))) staging t1.now.bytes (image_now t1.now)

  pub at_opening : (t2 : Trail) → IsWritten t1.now.bytes (base + 256 * j) r → Leaves (FromBytes (base + 256 * j) t1) t1 t2 → Leaves (AddsOrNot base j r) t0 t2
  at_opening t2 staged seal = leaves_join _ _ (AddsOrNot base j r) t0 t1 t2 staging seal
      (λ d c image by. still base j r sized room d c (long_image d image) by)
      (λ x f image by.
      let same : SameOutside (base + 256 * j) 1 t1.now.bytes f = subst (λ (b : List ℕ). SameOutside (base + 256 * j) 1 b f) by.0 by.1 in
      (came.0, came.1, opening base j r sized room came.0 t1.now.bytes (long_image came.0 came.1) came.2 staged f same))

  pub at_end : (t2 : Trail) → IsWritten t1.now.bytes (base + 256 * j) r → t2.now
      ≡ record { bytes = splice (base + 256 * j) (165 ∷ []) t1.now.bytes; pending = [] } → Moves (Adds base j r) t0.now t2.now
  at_end t2 staged is = λ c image.
      let b = t1.now.bytes in
      let fits : base + 256 * j + 1 ≤ length b = omega (arith, came.2.size, long_image came.0 came.1) in
      let only : c ≡ splice (base + 256 * j) (165 ∷ []) b = synced_image (record { bytes = splice (base + 256 * j) (165 ∷ []) b; pending = [] }) c (subst (λ (m : Moment). IsImage m c) is image) in
      let same : SameOutside (base + 256 * j) 1 b c = subst (λ (l : List ℕ). SameOutside (base + 256 * j) 1 b l) (sym only) (splice_same (base + 256 * j) (165 ∷ []) b fits) in
      let here : base + 256 * j + 0 ≡ base + 256 * j = omega arith in
      let gate : slice_index c (base + 256 * j) ≡ 165 = ap (λ (l : List ℕ). slice_index l (base + 256 * j)) only
      ∙ ap (slice_index (splice (base + 256 * j) (165 ∷ []) b)) (sym here) ∙ splice_inside (base + 256 * j) (165 ∷ []) b 0 fits (omega arith) in
      (came.0, came.1, opened base j r sized room came.0 b (long_image came.0 came.1) came.2 staged c same gate)

-- only the record's pages change
module _ (at n : ℕ) (some : 1 ≤ n) (t0 t1 : Trail) (staging : Leaves (SameButBodies at n) t0 t1) where
  bodies_within : (d b : List ℕ) → SameButBodies at n d b → SameOutside at (256 * n) d b
  bodies_within d b by = record { size = by.size; same = λ k out. by.same k (λ x low. ⊎_elim (λ before. inl (omega arith)) (λ after. inr (omega arith)) out) }

  pub within_staging : Leaves (SameOutside at (256 * n)) t0 t1
  within_staging = leaves_weaken _ _ t0 t1 (λ d c image by. bodies_within d c by) staging

  gate_within : (d b c : List ℕ) → SameOutside at (256 * n) d b → SameOutside at 1 b c → SameOutside at (256 * n) d c
  gate_within d b c within gate = record { size = gate.size ∙ within.size; same = λ k out. gate.same k (⊎_elim (λ before. inl before) (λ after. inr (omega arith)) out) ∙ within.same k out }

  pub within_opening : (t2 : Trail) → Leaves (FromBytes at t1) t1 t2 → Leaves (SameOutside at (256 * n)) t0 t2
  within_opening t2 seal =
      let came = leaves_now _ t0 t1 (but_refl at n) staging t1.now.bytes (image_now t1.now) in
      leaves_join _ _ (SameOutside at (256 * n)) t0 t1 t2 staging seal (λ d c image by. bodies_within d c by)
      (λ x f image by.
      let same : SameOutside at 1 t1.now.bytes f = subst (λ (b : List ℕ). SameOutside at 1 b f) by.0 by.1 in
      (came.0, came.1, gate_within came.0 t1.now.bytes f (bodies_within came.0 t1.now.bytes came.2) same))

-- A whole append that failed at its pages, that failed at its gate, or that succeeded.
module _ (p : Place) (r : List ℕ) (sized : HasSize r) (room : p.end + pages_of (length r) ≤ 1024) (t0 t1 : Trail) (long : p.base + 262144 ≤ length t0.now.bytes) where
  pub append_staged : (d : DiskFault) (e : AppendFault) → Stages (p.base + 256 * p.end) r (Err d) t0 t1 → Appends p r (Err e) t0 t1
  append_staged d e staged = record {
    moments = at_staging p.base p.end r sized room t0 t1 long staged.moments;
    outside = within_staging (p.base + 256 * p.end) (pages_of (length r)) (omega arith) t0 t1 staged.moments;
    done = tt;
    calls = tt;
  }

  module _ (t2 : Trail) (staged : Stages (p.base + 256 * p.end) r (Ok tt) t0 t1) where
    pub append_shut : (d : DiskFault) (e : AppendFault) → OpensGate (p.base + 256 * p.end) (Err d) t1 t2 → Appends p r (Err e) t0 t2
    append_shut d e opens = record {
      moments = at_opening p.base p.end r sized room t0 t1 long staged.moments t2 staged.done opens.moments;
      outside = within_opening (p.base + 256 * p.end) (pages_of (length r)) (omega arith) t0 t1 staged.moments t2 opens.moments;
      done = tt;
      calls = tt;
    }

    pub append_done : OpensGate (p.base + 256 * p.end) (Ok tt) t1 t2 → Appends p r (Ok tt) t0 t2
    append_done opens = record {
      moments = at_opening p.base p.end r sized room t0 t1 long staged.moments t2 staged.done opens.moments;
      outside = within_opening (p.base + 256 * p.end) (pages_of (length r)) (omega arith) t0 t1 staged.moments t2 opens.moments;
      done = record {
        moves = at_end p.base p.end r sized room t0 t1 long staged.moments t2 staged.done opens.done;
        settled = ap (λ (m : Moment). m.pending) opens.done;
      };
      calls = omega (arith, staged.calls, opens.calls);
    }
