use Rattle.std.proofs.lemmas.Result.{err_from_is_err_and}
use Rattle.zh_program.specs.World.{BeginsAt, LeftAt}
use Rattle.std.proofs.Common.{rules, arith, ◌≡◌, ◌+◌, Err, List, ℕ, Option, inl, inr}
use Rattle.zh_file.specs.Places.{TouchesOnly}
use Rattle.zh_file.proofs.CallerLemmas.{after_stay, stays_untouched}
use Rattle.zh_program.proofs.WorldLemmas.{disk_after, known_before, leaves_after, leaves_none, met_before}
use Rattle.zh_program.proofs.on_disk.begin.Goals as goal

pub returns-clause-asked : goal.returns-clause-asked
returns-clause-asked g c =
    disk_after g.F.Files c.args.paths.disk.now c.args.files.now c.setup_at.new.files c.disk_at.new.files c.setup_at.ensures.call c.disk_at.ensures.call c.disk_at.ensures.touches

pub returns-clause-begins : goal.returns-clause-begins
returns-clause-begins g c =
    let Begins = λ (known : Option (List ℕ)). BeginsAt c.args.work known (g.F.Disk.Disk.history c.in_ok-disk.disk) in
    known_before g.F.Files.disk_at c.args.files.now c.setup_at.new.files c.args.paths.disk.now Begins c.setup_at.ensures.call.disks c.in_ok-disk.ensures.begins

pub returns-in_err-setup-clause-early : goal.returns-in_err-setup-clause-early
returns-in_err-setup-clause-early g c =
    let is : c.from_residual.result ≡ Err c.in_err-setup.field-0.0 = search rules in
    rw is (inl (c.setup_at.ensures.call.counted, c.in_err-setup.ensures.fault))

pub returns-in_err-disk-clause-early : goal.returns-in_err-disk-clause-early
returns-in_err-disk-clause-early g c =
    let p = err_from_is_err_and c.from_residual-in_err-disk.result c.from_residual-in_err-disk.ensures.1 in
    let why = c.in_err-disk.field-0.0 in
    let met = met_before g.F.Files c.args.paths.disk.now c.args.files.now c.setup_at.new.files c.disk_at.new.files c.setup_at.ensures.call.stays c.setup_at.ensures.call.goes why
    (c.in_err-disk.ensures.ends.0, c.in_err-disk.ensures.ends.1, c.in_err-disk.ensures.meets.fault) in
    let calls : g.F.Files.calls c.disk_at.new.files ≡ g.F.Files.calls c.args.files.now + 2 = omega (arith, c.setup_at.ensures.call.counted, c.disk_at.ensures.call.counted) in
    rw p.1 (inr (calls, (why, p.2, met)))

pub returns-in_err-setup-clause-touches : goal.returns-in_err-setup-clause-touches
returns-in_err-setup-clause-touches g c = stays_untouched c.args.paths.disk.now (g.F.Files.places c.args.files.now) (g.F.Files.places c.setup_at.new.files) c.setup_at.ensures.call.stays

pub returns-in_err-disk-clause-touches : goal.returns-in_err-disk-clause-touches
returns-in_err-disk-clause-touches g c =
    let at = g.F.Files.places in
    after_stay (TouchesOnly c.args.paths.disk.now) (at c.args.files.now) (at c.setup_at.new.files) (at c.disk_at.new.files) c.setup_at.ensures.call.stays c.disk_at.ensures.touches

pub returns-clause-touches : goal.returns-clause-touches
returns-clause-touches g c =
    let at = g.F.Files.places in
    after_stay (TouchesOnly c.args.paths.disk.now) (at c.args.files.now) (at c.setup_at.new.files) (at c.disk_at.new.files) c.setup_at.ensures.call.stays c.disk_at.ensures.touches

pub returns-in_err-disk-clause-leaves : goal.returns-in_err-disk-clause-leaves
returns-in_err-disk-clause-leaves g c = leaves_after g.F.Files.disk_at g.F.Files.left (LeftAt c.args.work) c.args.files.now c.setup_at.new.files c.disk_at.new.files c.args.paths.disk.now
    c.setup_at.ensures.call.disks c.setup_at.ensures.call.leaves c.disk_at.ensures.leaves

pub returns-clause-leaves : goal.returns-clause-leaves
returns-clause-leaves g c = leaves_after g.F.Files.disk_at g.F.Files.left (LeftAt c.args.work) c.args.files.now c.setup_at.new.files c.disk_at.new.files c.args.paths.disk.now
    c.setup_at.ensures.call.disks c.setup_at.ensures.call.leaves c.disk_at.ensures.leaves

pub returns-in_err-setup-clause-leaves : goal.returns-in_err-setup-clause-leaves
returns-in_err-setup-clause-leaves g c = leaves_none (LeftAt c.args.work) (g.F.Files.disk_at c.args.files.now c.args.paths.disk.now) (g.F.Files.left c.args.files.now)
    (g.F.Files.left c.setup_at.new.files) c.setup_at.ensures.call.leaves
