-- The moments while a gate is opened: a sync, a write of one byte, a sync.
use Rattle.std.proofs.Common.{◌≡◌, ℕ, ◌+◌, ◌≤◌, List, [], ◌∷◌, length, refl, sym, ◌∙◌, ap, subst, arith, Result, Ok, Err, OnOk}
use Rattle.std.specs.Prelude.{slice_index}
use Rattle.zh_disk.specs.declared.disk.DiskFault.{DiskFault}
use Rattle.zh_disk.specs.Disk.{Trail, IsImage, SameOutside, Writes, Syncs, Moves, Leaves, settled, synced, splice}
use Rattle.zh_journal.specs.Gate.{FromBytes}
use Rattle.zh_journal.specs.Calls.{IsLater, OpensGate}
use Rattle.zh_disk.proofs.CallerLemmas.{image_now, synced_image, sync_leaves, leaves_weaken, write_more, sync_more}

module _ (gate : ℕ) (t0 t1 t2 : Trail) (room : gate + 1 ≤ length t0.now.bytes) (first : Syncs (Ok tt) t0 t1) where
  at_first : Leaves (FromBytes gate t0) t0 t1
  at_first = leaves_weaken _ _ t0 t1 (λ d c image by. (by.0, record { size = ap length by.1; same = λ k out. ap (λ (l : List ℕ). slice_index l k) by.1 })) (sync_leaves t0 t1 (Ok tt) first)

  pub behind_write : (bytes : List ℕ) → length bytes ≡ 1 → (result : Result (Unit {0}) DiskFault) → Writes gate bytes result t1 t2
      → Leaves (FromBytes gate t0) t0 t2 × Moves (FromBytes gate t0) t0.now t2.now
  behind_write bytes one result writes =
      let long : length t1.now.bytes ≡ length t0.now.bytes = ap (λ (t : Trail). length t.now.bytes) first.ok in
      write_more _ t0 t1 t2 gate bytes result (omega (arith, long, one, room)) writes (λ x f image by.
      let is : x ≡ t0.now.bytes = synced_image t0.now x (subst (λ (t : Trail). IsImage t.now x) first.ok image) in
      let same : SameOutside gate 1 x f = subst (λ (n : ℕ). SameOutside gate n x f) one by in
      (x, subst (IsImage t0.now) (sym is) (image_now t0.now), (is, same))) at_first

  pub behind_sync : (t3 : Trail) (bytes : List ℕ) → length bytes ≡ 1 → (result result' : Result (Unit {0}) DiskFault)
      → Writes gate bytes result t1 t2 → Syncs result' t2 t3 → Leaves (FromBytes gate t0) t0 t3
  behind_sync t3 bytes one result result' writes syncs =
      let so_far = behind_write bytes one result writes in
      (sync_more _ t0 t2 t3 result' syncs so_far.1 so_far.0).0

  pub gate_written : (r : Result (Unit {0}) DiskFault) (d : DiskFault) → Writes gate (165 ∷ []) r t1 t2 → OpensGate gate (Err d) t0 t2
  gate_written r d writes = record { moments = (behind_write (165 ∷ []) refl r writes).0; done = tt; calls = tt }

  pub gate_opened : (t3 : Trail) (r : Result (Unit {0}) DiskFault) → Writes gate (165 ∷ []) (Ok tt) t1 t2 → Syncs r t2 t3 → OpensGate gate r t0 t3
  gate_opened t3 r writes syncs = record {
    moments = behind_sync t3 (165 ∷ []) refl (Ok tt) r writes syncs;
    done = at r syncs;
    calls = later r syncs;
  }
    where
      at : (r : Result (Unit {0}) DiskFault) → Syncs r t2 t3 → OnOk r (t3.now ≡ settled (splice gate (165 ∷ []) t0.now.bytes))
      at (Ok done) syncs =
          ap (λ (t : Trail). t.now) syncs.ok ∙ ap (λ (t : Trail). synced t.now) writes.ok ∙ ap (λ (t : Trail). settled (splice gate (165 ∷ []) t.now.bytes)) first.ok
      at (Err d) syncs = tt

      later : (r : Result (Unit {0}) DiskFault) → Syncs r t2 t3 → OnOk r (IsLater 3 t0 t3)
      later (Ok done) syncs =
          omega (arith, ap (λ (t : Trail). length t.past) syncs.ok, ap (λ (t : Trail). length t.past) writes.ok, ap (λ (t : Trail). length t.past) first.ok)
      later (Err d) syncs = tt
