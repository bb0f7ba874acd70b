use Rattle.std.proofs.Common.{rules, arith}
use Rattle.zh_decided.proofs.MarkLemmas.{copied}
use Rattle.zh_decided.proofs.cycles.Trail.circle_from.Goals as goal

pub loop-place-preserved : goal.loop-place-preserved
loop-place-preserved c = record {
  long = search rules;
  copied = copied c.args.self.now.steps c.loop-place.steps c.args.first c.loop-place.place (omega arith) (omega arith)
      c.loop-place.invariant.copied;
}
