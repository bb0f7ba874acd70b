use Rattle.std.proofs.Common.{rules}
use Rattle.zh_returns.proofs.payload.write_flags.Goals as goal

pub loop-byte-preserved : goal.loop-byte-preserved
loop-byte-preserved c = search rules
