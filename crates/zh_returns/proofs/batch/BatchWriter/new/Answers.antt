use Rattle.zh_returns.proofs.PushLemmas.{none_pushed, none_written}
use Rattle.zh_returns.proofs.batch.BatchWriter.new.Goals as goal

pub invariant_of-result : goal.invariant_of-result
invariant_of-result c = none_written c.args.bytes.now

pub returns-clause-rows : goal.returns-clause-rows
returns-clause-rows c = none_pushed c.args.bytes.now
