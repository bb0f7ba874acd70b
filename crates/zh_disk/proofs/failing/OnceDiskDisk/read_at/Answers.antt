use Rattle.zh_disk.proofs.OnceLemmas.{passes_once}
use Rattle.zh_disk.proofs.failing.OnceDiskDisk.read_at.Goals as goal

pub returns-clause-once : goal.returns-clause-once
returns-clause-once g c = record {
  counts = c.read_at.ensures.failing.counts;
  rises = c.read_at.ensures.failing.rises;
  fails = c.read_at.ensures.failing.fails;
  passes = passes_once _ _ _ _ _ c.read_at.ensures.failing c.args.self.now.once;
}
