use Rattle.zh_decided.proofs.NearLemmas.{clear-strict, no_clear, weak-near}
use Rattle.zh_decided.proofs.laws.near_tie.Goals as goal

pub returns-clause-no_clear : goal.returns-clause-no_clear
returns-clause-no_clear c = no_clear

pub returns-clause-near : goal.returns-clause-near
returns-clause-near c = weak-near

pub returns-clause-clear : goal.returns-clause-clear
returns-clause-clear c = clear-strict
