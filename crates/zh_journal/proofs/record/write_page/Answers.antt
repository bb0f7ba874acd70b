use Rattle.std.proofs.Common.{ℕ, List, ◌+◌, ◌*◌, subst}
use Rattle.zh_disk.specs.Disk.{Writes}
use Rattle.zh_disk.proofs.CallerLemmas.{told}
use Rattle.zh_journal.proofs.record.write_page.Goals as goal

pub returns : goal.returns
returns g c = record {
  call = told
      (λ h by. subst (λ (l : List ℕ). Writes (c.args.at + 256 * c.args.i + 1) l c.write_at.result (g.D.Disk.history c.args.disk.now).trail
      (g.D.Disk.history c.write_at.new.self).trail) c.page_of-page.ensures by)
      c.write_at.ensures.call;
}
