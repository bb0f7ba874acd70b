use Rattle.std.proofs.Common.{rules}
use Rattle.zh_matrices.proofs.rounding.rounds_by.Goals as goal

pub returns-in-Strict : goal.returns-in-Strict
returns-in-Strict c = rw c.in-Strict.is (search rules)

pub returns-in-Weak : goal.returns-in-Weak
returns-in-Weak c = rw c.in-Weak.is (search rules)

pub returns-in-Near : goal.returns-in-Near
returns-in-Near c = rw c.in-Near.is (search rules)
