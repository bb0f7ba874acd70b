use Rattle.zh_sheet_text.proofs.LongestLemmas.{no_longer}
use Rattle.zh_sheet_text.proofs.laws.no_longer.Goals as goal

pub returns : goal.returns
returns c = λ x desk accepted is_final is few small. no_longer x desk is_final accepted is few small
