use Rattle.std.proofs.Common.{rules}
use Rattle.zh_check.specs.Lines.{after_line, first_line}
use Rattle.zh_check.proofs.lines.Lines.next.Goals as goal

pub returns-clause-line : goal.returns-clause-line
unfolding first_line
returns-clause-line c = search rules

pub returns-clause-rest : goal.returns-clause-rest
unfolding after_line
returns-clause-rest c = search rules
