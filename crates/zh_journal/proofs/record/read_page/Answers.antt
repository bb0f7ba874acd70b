use Rattle.std.proofs.Common.{◌≡◌, ◌+◌, ◌-◌, arith, ◌∙◌, ap}
use Rattle.std.proofs.lemmas.Grind.{common_steps}
use Rattle.std.specs.Prelude.{slice_index}
use Rattle.zh_disk.proofs.CallerLemmas.{told, asks_so}
use Rattle.zh_journal.proofs.PayloadLemmas.{on_ok_by, middle_read}
use Rattle.zh_journal.proofs.record.read_page.Goals as goal

pub returns-clause-call : goal.returns-clause-call
returns-clause-call g c =
    let b = (g.D.Disk.history c.args.disk.now).trail.now.bytes in
    let from = c.saturating_sub-from.result in
    let first = c.args.at + (4 + c.saturating_sub-from.result + c.args.i) in
    told (λ h by. asks_so (on_ok_by c.read_at.result _ _
    (λ is k low high inside.
    let place : first + (k - from) ≡ c.args.at + 4 + k + c.args.i = omega arith in
    middle_read b c.args.buffer.now c.read_at.new.into _ first from (c.min-to.result - from) k (omega arith) c.read_at.auto.into is (omega arith) (omega arith) ∙ ap (slice_index b) place)) by)
    c.read_at.ensures.call

pub returns-clause-rest : goal.returns-clause-rest
returns-clause-rest g c = grind (arith, common_steps)
