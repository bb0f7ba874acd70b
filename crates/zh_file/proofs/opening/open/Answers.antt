use Rattle.std.proofs.Common.{◌≡◌, ◌≢◌, ◌∙◌, ℕ, List, [], Err, false, inl, inr, rules, ⊎_elim, arith}
use Rattle.std.specs.Prelude.{IfSome}
use Rattle.zh_file.specs.Files.{IsAsFound}
use Rattle.zh_file.specs.Locked.{IsLeftOf}
use Rattle.zh_file.specs.Stored.{IsLeftOpening, IsWhole, is_over, stored_failures, stored_history}
use Rattle.zh_file.specs.Opening.{HasFailed}
use Rattle.zh_file.proofs.LockedLemmas.{begun_leaves, found_at_path, ok_both, ok_map}
use Rattle.zh_disk.specs.Disk.{disk_length, fresh_trail}
use Rattle.zh_file.proofs.FolderLemmas.{ok_bytes}
use Rattle.zh_file.proofs.OpeningLemmas.{file_locked, file_unlocked, known_size, known_started, known_unlocked, known_unmeasured}
use Rattle.zh_file.proofs.PlaceLemmas.{goes_both, meets_after, meets_as}
use Rattle.zh_file.proofs.CompanionLemmas.{ok_cleared}
use Rattle.zh_file.proofs.NoteLemmas.{length_meets}
use Rattle.zh_file.proofs.opening.open.Goals as goal

pub returns-in_err-length-clause-opens : goal.returns-in_err-length-clause-opens
returns-in_err-length-clause-opens g c =
    let is : c.from_residual.result ≡ Err c.in_err-length.field-0.0 = search rules in
    let file = g.F.File.Disk in
    let at = g.F.Folder.known in
    rw is (known_unmeasured (HasFailed file.is_clean file.faults) c.args.path.now (λ d. (stored_history d).trail.now.bytes)
    (at c.args.folder.now) (at c.length_at.new.folder) c.in_err-length.field-0.0 c.in_err-length.ensures.measures)

pub returns-then-length-ne-DISK_LENGTH-clause-opens : goal.returns-then-length-ne-DISK_LENGTH-clause-opens
returns-then-length-ne-DISK_LENGTH-clause-opens g c =
    let file = g.F.File.Disk in
    let at = g.F.Folder.known in
    let differs : c.in_ok-length.length ≢ disk_length = omega (arith, c.if-length-ne-DISK_LENGTH.true) in
    known_size (HasFailed file.is_clean file.faults) c.args.path.now (λ d. (stored_history d).trail.now.bytes)
    (at c.args.folder.now) (at c.length_at.new.folder) c.in_ok-length.length differs c.in_ok-length.ensures.measures

pub returns-in_err-locked-clause-opens : goal.returns-in_err-locked-clause-opens
returns-in_err-locked-clause-opens g c =
    let is : c.from_residual-in_err-locked.result ≡ Err c.in_err-locked.field-0.0 = search rules in
    let file = g.F.File.Disk in
    let at = g.F.Folder.known in
    rw is (known_unlocked file.is_clean file.faults file.seen c.args.path.now (λ d. (stored_history d).trail.now.bytes) c.in_ok-length.length
    (at c.args.folder.now) (at c.length_at.new.folder) (at c.lock.new.folder) c.in_ok-length.ensures.measures c.in_err-locked.field-0.0
    (file_unlocked c.args.path.now (λ l. l.file) file.seen (at c.length_at.new.folder) (at c.lock.new.folder) c.in_err-locked.field-0.0 c.in_err-locked.ensures.locks))

pub returns-clause-opens : goal.returns-clause-opens
returns-clause-opens g c =
    let file = g.F.File.Disk in
    let at = g.F.Folder.known in
    let long : c.in_ok-length.length ≡ disk_length = omega (arith, c.if-length-ne-DISK_LENGTH.false) in
    rw c.hand_over.ensures.same.1 (known_started file.is_clean file.faults file.seen c.args.path.now (λ d. (stored_history d).trail.now.bytes) c.in_ok-length.length
    (at c.args.folder.now) (at c.length_at.new.folder) (at c.lock.new.folder) c.in_ok-length.ensures.measures c.in_ok-locked.locked.file c.hand_over.result
    long (file_locked c.args.path.now (λ l. l.file) file.seen (at c.length_at.new.folder) (at c.lock.new.folder) c.in_ok-locked.locked
    c.in_ok-locked.ensures.locks) (ok_bytes (λ d. (stored_history d).trail) (file.seen c.in_ok-locked.locked.file) c.hand_over.result
    c.hand_over.ensures.begins) c.hand_over.ensures.fault)

pub returns-clause-begins : goal.returns-clause-begins
returns-clause-begins g c =
    let at = g.F.Folder.disk_at in
    let seen = g.F.File.Disk.seen c.in_ok-locked.locked.file in
    ok_map (λ d. (stored_history d).trail ≡ fresh_trail seen)
    (λ d. IfSome (at c.args.folder.now c.args.path.now) (λ bytes. (stored_history d).trail ≡ fresh_trail bytes)) c.hand_over.result
    (λ d is. found_at_path (λ bytes left. (stored_history d).trail ≡ fresh_trail bytes) (at c.args.folder.now) (at c.length_at.new.folder) c.args.path.now seen
    c.length_at.ensures.rest.disks c.in_ok-locked.ensures.begins [] is)
    c.hand_over.ensures.begins

pub returns-clause-whole : goal.returns-clause-whole
returns-clause-whole g c =
    ok_both (λ d. stored_failures d ≡ g.F.File.Disk.faults c.in_ok-locked.locked.file) (λ d. is_over d ≡ false) (λ d. IsWhole d) c.hand_over.result
    (λ d fails over. record { failures = fails ∙ c.in_ok-locked.ensures.fresh.unfailed; begun = over }) c.hand_over.ensures.failures c.hand_over.ensures.whole

pub returns-clause-opening : goal.returns-clause-opening
returns-clause-opening g c =
    let file = g.F.File.Disk in
    let at = g.F.Folder.disk_at in
    let locked = c.in_ok-locked.ensures in
    let seen = file.seen c.in_ok-locked.locked.file in
    ok_map (λ d. (left : List ℕ) → IsLeftOpening d left → IsLeftOf file c.in_ok-locked.locked left)
    (λ d. (left : List ℕ) → IsLeftOpening d left → IfSome (at c.args.folder.now c.args.path.now) (λ bytes. IsAsFound bytes left)) c.hand_over.result
    (λ d by left here. found_at_path IsAsFound (at c.args.folder.now) (at c.length_at.new.folder) c.args.path.now seen c.length_at.ensures.rest.disks locked.begins left
    (begun_leaves file c.in_ok-locked.locked locked.fresh.begun locked.fresh.synced left (by left here)))
    c.hand_over.ensures.opening

pub returns-clause-leaves : goal.returns-clause-leaves
returns-clause-leaves g c =
    let file = g.F.File.Disk in
    let at = g.F.Folder.disk_at in
    let locked = c.in_ok-locked.ensures in
    let seen = file.seen c.in_ok-locked.locked.file in
    λ left here. ⊎_elim
    (λ of. inr (found_at_path IsAsFound (at c.args.folder.now) (at c.length_at.new.folder) c.args.path.now seen c.length_at.ensures.rest.disks locked.begins left
    (begun_leaves file c.in_ok-locked.locked locked.fresh.begun locked.fresh.synced left of)))
    (λ was. inl (c.length_at.ensures.rest.leaves left (c.lock.ensures.rest.leaves left was)))
    (c.hand_over.ensures.leaves left here)

pub returns-in_err-length-clause-leaves : goal.returns-in_err-length-clause-leaves
returns-in_err-length-clause-leaves g c = λ left here. inl (c.length_at.ensures.rest.leaves left here)

pub returns-then-length-ne-DISK_LENGTH-clause-leaves : goal.returns-then-length-ne-DISK_LENGTH-clause-leaves
returns-then-length-ne-DISK_LENGTH-clause-leaves g c = λ left here. inl (c.length_at.ensures.rest.leaves left here)

pub returns-in_err-locked-clause-leaves : goal.returns-in_err-locked-clause-leaves
returns-in_err-locked-clause-leaves g c = λ left here. inl (c.length_at.ensures.rest.leaves left (c.lock.ensures.rest.leaves left here))

pub returns-in_err-length-clause-meets : goal.returns-in_err-length-clause-meets
returns-in_err-length-clause-meets g c =
    let is : c.from_residual.result ≡ Err c.in_err-length.field-0.0 = search rules in
    rw is (meets_as c.args.path.now c.in_err-length.field-0.0 _ _ c.in_err-length.ensures.meets)

pub returns-then-length-ne-DISK_LENGTH-clause-meets : goal.returns-then-length-ne-DISK_LENGTH-clause-meets
returns-then-length-ne-DISK_LENGTH-clause-meets g c = length_meets c.args.path.now _ _ c.in_ok-length.length c.length_at.ensures.meets.goes

pub returns-in_err-locked-clause-meets : goal.returns-in_err-locked-clause-meets
returns-in_err-locked-clause-meets g c =
    let is : c.from_residual-in_err-locked.result ≡ Err c.in_err-locked.field-0.0 = search rules in
    let at = g.F.Folder.failed in
    rw is (meets_after c.args.path.now (Err c.in_err-locked.field-0.0) (at c.args.folder.now) (at c.length_at.new.folder) (at c.lock.new.folder) c.length_at.ensures.meets.goes
    (meets_as c.args.path.now c.in_err-locked.field-0.0 _ _ c.in_err-locked.ensures.meets))

pub returns-clause-meets : goal.returns-clause-meets
returns-clause-meets g c =
    let at = g.F.Folder.failed in
    meets_after c.args.path.now c.hand_over.result (at c.args.folder.now) (at c.lock.new.folder) (at c.hand_over.new.folder)
    (goes_both (at c.args.folder.now) (at c.length_at.new.folder) (at c.lock.new.folder) c.length_at.ensures.meets.goes c.lock.ensures.meets.goes) c.hand_over.ensures.meets

pub returns-clause-cleared : goal.returns-clause-cleared
returns-clause-cleared g c =
    let at = g.F.Folder.failed in
    ok_cleared c.args.path.now (at c.args.folder.now) (at c.length_at.new.folder) (at c.lock.new.folder) (at c.hand_over.new.folder)
    (g.F.Folder.known c.lock.new.folder) (g.F.Folder.known c.hand_over.new.folder) c.hand_over.result c.hand_over.ensures.same.1
    c.length_at.ensures.meets.goes c.hand_over.ensures.meets.goes c.in_ok-locked.ensures.cleared
