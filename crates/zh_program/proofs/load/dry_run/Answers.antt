use Rattle.std.proofs.Common.{rules, refl, ap, ◌≡◌, subst, Err, List, Option, Some, ℕ, inl, inr}
use Rattle.std.specs.Io.Buffered.{reader_remaining}
use Rattle.zh_csv.specs.Noted.{inner_reader}
use Rattle.zh_office.specs.Judged.{Judges}
use Rattle.zh_program.specs.DryRun.{HasDryRun, JudgesText}
use Rattle.zh_program.specs.World.{IsMetAt, WorldOf, known}
use Rattle.zh_program.specs.declared.fault.TaskFault.TheVariants as faults
use Rattle.zh_program.proofs.DryRunLemmas.{runs_calm, unread_reading}
use Rattle.zh_program.proofs.LoadLemmas.{kept_itself}
use Rattle.zh_program.proofs.ReadingLemmas.{not_opened, was_read}
use Rattle.zh_program.proofs.load.dry_run.Goals as goal

pub returns-in_err-office : goal.returns-in_err-office
returns-in_err-office g c =
    let of = known g.I.Read g.O.Write g.E.Write g.F.Files g.F.Disk.Disk in
    let is : c.from_residual.result ≡ Err (faults.Open c.in_err-office.field-0.0) = search rules in
    rw is (not_opened of (HasDryRun of c.args.csv.now) c.args.setup.now c.args.world.now c.args.disk.now c.open.new.disk c.in_err-office.field-0.0 c.in_err-office.ensures.opening)

pub returns-in_err-rows : goal.returns-in_err-rows
returns-in_err-rows g c =
    let of = known g.I.Read g.O.Write g.E.Write g.F.Files g.F.Disk.Disk in
    let is : c.from_residual-in_err-rows.result ≡ Err c.in_err-rows.field-0.0 = search rules in
    let old = c.args.world.now in
    let new : WorldOf of = record old { files = c.text_at.new.files } in
    let office = c.in_ok-office.office in
    let opened = c.in_ok-office.ensures in
    let text = g.F.Files.text_at old.files c.args.csv.now in
    let Met = IsMetAt g.F.Files c.args.csv.now old.files c.text_at.new.files in
    let unread = c.in_err-rows.ensures.fault in
    let done : HasDryRun of c.args.csv.now office.ledger.tally old new (Err c.in_err-rows.field-0.0)
    = record { rest = refl; call = c.text_at.ensures.call; text = text; read = kept_itself text; judged = inr (unread, refl) } in
    rw is (was_read of (HasDryRun of c.args.csv.now) c.args.setup.now old c.args.disk.now c.open.new.disk office opened.opening opened.held new
    (Err c.in_err-rows.field-0.0) done c.text_at.ensures.call.stays (unread_reading Met c.in_err-rows.field-0.0 unread))

pub returns : goal.returns
returns g c =
    let of = known g.I.Read g.O.Write g.E.Write g.F.Files g.F.Disk.Disk in
    let old = c.args.world.now in
    let new : WorldOf of = record old { files = c.text_at.new.files; output = c.judge_text.new.out } in
    let office = c.in_ok-office.office in
    let opened = c.in_ok-office.ensures in
    let left = reader_remaining g.F.Text.Read.remaining in
    let w = g.O.Write.contents old.output in
    let w' = g.O.Write.contents c.judge_text.new.out in
    let Judged = λ (text : Option (List ℕ)). Judges office.ledger.tally (λ bytes. text ≡ Some bytes) w w' in
    let given : left (inner_reader c.new-reader.result) ≡ left c.in_ok-rows.rows = ap left c.new-reader.ensures.over in
    let judged = subst (λ (text : Option (List ℕ)). JudgesText (Judged text) c.judge_text.result) given c.judge_text.ensures.runs in
    let done : HasDryRun of c.args.csv.now office.ledger.tally old new c.judge_text.result
    = record { rest = refl; call = c.text_at.ensures.call; text = left c.in_ok-rows.rows; read = c.in_ok-rows.ensures.text; judged = inl judged } in
    was_read of (HasDryRun of c.args.csv.now) c.args.setup.now old c.args.disk.now c.open.new.disk office opened.opening opened.held new
    c.judge_text.result done c.text_at.ensures.call.stays (runs_calm (Judged (left c.in_ok-rows.rows)) c.judge_text.result judged)
