use Rattle.zh_office.proofs.AnsweredLemmas.{forecast_of_text}
use Rattle.zh_office.proofs.laws.forecast_is_kept.Goals as goal

pub returns : goal.returns
returns c = forecast_of_text
