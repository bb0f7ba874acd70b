use Rattle.std.proofs.Common.{rules}
use Rattle.zh_arguments.proofs.TableLemmas.{number_read}
use Rattle.zh_arguments.proofs.table.number_in.Goals as goal

pub returns : goal.returns
returns c = number_read c.args.text.now c.numeral.result (search rules)
