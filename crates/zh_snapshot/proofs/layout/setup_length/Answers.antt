use Rattle.std.proofs.Common.{rules}
use Rattle.zh_snapshot.proofs.layout.setup_length.Goals as goal

pub returns-then-eq-clause-right : goal.returns-then-eq-clause-right
returns-then-eq-clause-right c = search rules
