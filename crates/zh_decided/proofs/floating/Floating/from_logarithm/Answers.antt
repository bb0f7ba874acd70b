use Rattle.zh_decided.proofs.FloatLemmas.{below-33, floated}
use Rattle.zh_decided.proofs.floating.Floating.from_logarithm.Goals as goal

pub antilogarithm-requires-clause-most : goal.antilogarithm-requires-clause-most
antilogarithm-requires-clause-most c = below-33 c.args.logarithm

pub returns-clause-log : goal.returns-clause-log
returns-clause-log c = floated c.antilogarithm.result c.args.logarithm c.antilogarithm.ensures.log
