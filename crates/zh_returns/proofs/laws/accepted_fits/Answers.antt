use Rattle.zh_returns.proofs.AcceptedLemmas.{fits}
use Rattle.zh_returns.proofs.laws.accepted_fits.Goals as goal

pub returns : goal.returns
returns c = fits
