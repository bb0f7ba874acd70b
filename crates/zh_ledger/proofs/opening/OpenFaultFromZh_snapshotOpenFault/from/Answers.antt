use Rattle.std.proofs.Common.{rules}
use Rattle.zh_ledger.proofs.opening.OpenFaultFromZh_snapshotOpenFault.from.Goals as goal

pub returns-in-Blank : goal.returns-in-Blank
returns-in-Blank c = search rules
