use Rattle.std.proofs.Common.{◌≡◌, ◌+◌, ◌*◌, ◌%◌, ◌^◌, arith}
use Rattle.std.proofs.lemmas.Nat.{one_shl}
use Rattle.zh_decided.proofs.PowerLemmas.{power_rises}
use Rattle.zh_decided.specs.Logarithms.{log_unit}
use Rattle.zh_decided.proofs.LogLemmas.{least_reached, passed, reached, rounded_down}
use Rattle.zh_decided.proofs.SquaringLemmas.{power-logarithm}
use Rattle.zh_decided.proofs.logarithms.antilogarithm.Goals as goal

pub loop-high-init : goal.loop-high-init
loop-high-init c =
    let whole : 1 * 2 ^ c.args.bits % 2 ^ 64 ≡ 2 ^ c.args.bits = one_shl c.args.bits 64 (omega arith) in
    rw whole (record {
      least = omega arith;
      some = omega arith;
      most = omega arith;
      reached = least_reached c.args.bits c.args.logarithm_of_it c.requires.least;
      passed = omega (arith, c.requires.most, power_rises c.args.most (c.args.most + 1) log_unit (omega arith));
      within = (c.args.bits * 2 ^ 30, power-logarithm c.args.bits, omega (arith, c.requires.least));
      next = λ few. absurd (omega (arith, few));
    })

pub loop-high-preserved-then-logarithm-logarithm_of_it : goal.loop-high-preserved-then-logarithm-logarithm_of_it
loop-high-preserved-then-logarithm-logarithm_of_it c = record {
  least = omega arith;
  some = omega arith;
  most = omega arith;
  reached = reached _ _ c.args.logarithm_of_it c.logarithm.ensures.log (omega arith);
  passed = c.loop-high.invariant.passed;
  within = (c.logarithm.result, c.logarithm.ensures.squared, omega arith);
  next = c.loop-high.invariant.next;
}

pub loop-high-preserved : goal.loop-high-preserved
loop-high-preserved c = record {
  least = omega arith;
  some = omega arith;
  most = omega arith;
  reached = c.loop-high.invariant.reached;
  passed = passed _ _ c.args.logarithm_of_it c.logarithm.ensures.log (omega arith);
  within = c.loop-high.invariant.within;
  next = λ few. (c.logarithm.result, c.logarithm.ensures.squared, omega arith);
}

pub returns-clause-log : goal.returns-clause-log
returns-clause-log c =
    let I = c.loop-high.invariant in
    let next : c.loop-high.high ≡ c.loop-high.low + 1 = omega arith in
    rounded_down c.args.bits c.loop-high.low c.args.logarithm_of_it c.requires.from_2 c.requires.to_31 I.least I.reached (rw next at I.passed)

pub returns-clause-greatest : goal.returns-clause-greatest
returns-clause-greatest c =
    let I = c.loop-high.invariant in
    let next : c.loop-high.high ≡ c.loop-high.low + 1 = omega arith in
    record { at_most = omega arith; within = I.within; next = λ less. rw next at (I.next (omega arith)) }
