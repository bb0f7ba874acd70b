use Rattle.std.proofs.Common.{rules}
use Rattle.zh_districts.proofs.shares.fault_of.Goals as goal

pub returns-in-Memory-clause-memory : goal.returns-in-Memory-clause-memory
returns-in-Memory-clause-memory c = search rules

pub returns-in-Tied-clause-tied : goal.returns-in-Tied-clause-tied
returns-in-Tied-clause-tied c = search rules
