use Rattle.zh_disk.proofs.OnceLemmas.{passes_once}
use Rattle.zh_disk.proofs.failing.OnceDiskDisk.write_at.Goals as goal

pub returns-clause-once : goal.returns-clause-once
returns-clause-once g c = record {
  counts = c.write_at.ensures.failing.counts;
  rises = c.write_at.ensures.failing.rises;
  fails = c.write_at.ensures.failing.fails;
  passes = passes_once _ _ _ _ _ c.write_at.ensures.failing c.args.self.now.once;
}
