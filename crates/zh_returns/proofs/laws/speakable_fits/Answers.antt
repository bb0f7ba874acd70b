use Rattle.zh_returns.proofs.CommandLemmas.{speakable_fit, short}
use Rattle.zh_returns.proofs.laws.speakable_fits.Goals as goal

pub returns-clause-fits : goal.returns-clause-fits
returns-clause-fits c = speakable_fit

pub returns-clause-short : goal.returns-clause-short
returns-clause-short c = short
