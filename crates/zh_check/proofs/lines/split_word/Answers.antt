use Rattle.std.proofs.Common.{rules}
use Rattle.zh_check.specs.Lines.{after_word, leading_word}
use Rattle.zh_check.proofs.lines.split_word.Goals as goal

pub returns-clause-word : goal.returns-clause-word
unfolding leading_word
returns-clause-word c = search rules

pub returns-clause-rest : goal.returns-clause-rest
unfolding after_word
returns-clause-rest c = search rules
