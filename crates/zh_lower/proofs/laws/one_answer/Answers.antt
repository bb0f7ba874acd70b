use Rattle.zh_matrices.proofs.CallerLemmas.{no_seats, only_seats}
use Rattle.zh_lower.proofs.ShownLemmas.{only_shown}
use Rattle.zh_lower.proofs.laws.one_answer.Goals as goal

pub returns-clause-one : goal.returns-clause-one
returns-clause-one c = only_seats

pub returns-clause-tied : goal.returns-clause-tied
returns-clause-tied c = no_seats

pub returns-clause-reached : goal.returns-clause-reached
returns-clause-reached c = only_shown
