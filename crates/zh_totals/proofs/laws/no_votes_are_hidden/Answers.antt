use Rattle.zh_totals.proofs.HiddenLemmas.{none_hidden}
use Rattle.zh_totals.proofs.laws.no_votes_are_hidden.Goals as goal

pub returns : goal.returns
returns c = none_hidden
