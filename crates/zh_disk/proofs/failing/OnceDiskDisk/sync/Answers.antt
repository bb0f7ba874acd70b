use Rattle.zh_disk.proofs.OnceLemmas.{passes_once}
use Rattle.zh_disk.proofs.failing.OnceDiskDisk.sync.Goals as goal

pub returns-clause-once : goal.returns-clause-once
returns-clause-once g c = record {
  counts = c.sync.ensures.failing.counts;
  rises = c.sync.ensures.failing.rises;
  fails = c.sync.ensures.failing.fails;
  passes = passes_once _ _ _ _ _ c.sync.ensures.failing c.args.self.now.once;
}
