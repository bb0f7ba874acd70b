use Rattle.zh_returns.proofs.AcceptedLemmas.{speakable}
use Rattle.zh_returns.proofs.laws.accepted_is_speakable.Goals as goal

pub returns : goal.returns
returns c = speakable
