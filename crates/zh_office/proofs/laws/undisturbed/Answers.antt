use Rattle.zh_office.proofs.UndisturbedLemmas.{each_turn, one_turn}
use Rattle.zh_office.proofs.laws.undisturbed.Goals as goal

pub returns : goal.returns
returns c = record { turn = one_turn; run = each_turn }
