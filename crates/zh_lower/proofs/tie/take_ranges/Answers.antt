use Rattle.std.proofs.Common.{arith}
use Rattle.std.proofs.lemmas.List.{length-set}
use Rattle.zh_decided.specs.Bounds.{asked_in}
use Rattle.zh_lower.proofs.LotLemmas.{all_ranges, one_more_range}
use Rattle.zh_lower.proofs.tie.take_ranges.Goals as goal

pub loop-place-preserved : goal.loop-place-preserved
loop-place-preserved c = record {
  least = omega (arith, length-set c.loop-place.ranges.least.items c.loop-place.place c.range_at-least.result.0, c.loop-place.invariant.least);
  most = omega (arith, length-set c.loop-place.ranges.most.items c.loop-place.place c.range_at-least.result.1, c.loop-place.invariant.most);
  others = omega (arith, c.loop-place.invariant.others);
  each =
      one_more_range (asked_in c.args.bounds.now) c.loop-place.ranges.least.items c.loop-place.ranges.most.items c.loop-place.place
      c.range_at-least.result.0 c.range_at-least.result.1
      (omega (arith, c.loop-place.invariant.least, c.requires.within.one_each))
      (omega (arith, c.loop-place.invariant.most, c.requires.within.one_each))
      c.loop-place.invariant.each c.range_at-least.ensures;
}

pub returns : goal.returns
returns c =
    all_ranges (asked_in c.args.bounds.now) c.loop-place.ranges.least.items c.loop-place.ranges.most.items c.loop-place.invariant.least
    c.loop-place.invariant.most
    (λ place lt. c.loop-place.invariant.each place (omega (arith, lt, c.requires.within.one_each)))
