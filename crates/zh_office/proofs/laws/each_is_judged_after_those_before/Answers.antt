use Rattle.zh_office.proofs.FindingLemmas.{judged_at, kept_after}
use Rattle.zh_office.proofs.laws.each_is_judged_after_those_before.Goals as goal

pub returns-clause-judged : goal.returns-clause-judged
returns-clause-judged c = judged_at

pub returns-clause-kept : goal.returns-clause-kept
returns-clause-kept c = kept_after
