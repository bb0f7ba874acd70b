use Rattle.zh_csv.proofs.RunningLemmas.{none_taken}
use Rattle.zh_csv.proofs.held_sums.RunningSums.new.Goals as goal

pub returns : goal.returns
returns c = none_taken c.args.setup.now _ c.new.ensures.empty c.in_ok-new.ensures
