use Rattle.std.proofs.Common.{arith, refl}
use Rattle.zh_disk.proofs.CallerLemmas.{handed, failed}
use Rattle.zh_journal.proofs.ClearingLemmas.{clear_failed, clear_done}
use Rattle.zh_journal.proofs.area.Area.clear.Goals as goal

pub returns-in_err-write_at-clause-call : goal.returns-in_err-write_at-clause-call
returns-in_err-write_at-clause-call g c =
    failed c.from_residual.ensures (λ d is. refl)
    (λ d is h by. clear_failed c.args.base c.args.zeros.now _ _ (omega (arith, g.met.D.Disk.size c.args.disk.now h, c.requires.base)) c.requires.size _ d by)
    c.in_err-write_at.ensures.call

pub returns-clause-call : goal.returns-clause-call
returns-clause-call g c =
    handed refl
    (λ h by. clear_done c.args.base c.args.zeros.now _ _ (omega (arith, g.met.D.Disk.size c.args.disk.now h, c.requires.base)) c.requires.size c.requires.zero _ by)
    c.in_ok-write_at.ensures.call
