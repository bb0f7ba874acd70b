use Rattle.std.proofs.Common.{rules}
use Rattle.zh_csv.proofs.export.votes_field.Goals as goal

pub returns-in-None : goal.returns-in-None
returns-in-None c = search rules
