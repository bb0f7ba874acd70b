use Rattle.std.proofs.Common.{◌*◌, ◌^◌, ◌<◌, ◌≤◌}
use Rattle.zh_decided.specs.Logarithms.{IsSquared}
use Rattle.zh_decided.proofs.ApproximationLemmas.{Approximates}
use Rattle.zh_decided.proofs.logarithms.logarithm.Given as goal

abbrev pub invariant-loop-place : goal.invariant-loop-place
invariant-loop-place l = record {
  least : 2 ^ 63 ≤ l.mantissa;
  fits : l.mantissa < 2 ^ 64;
  small : l.logarithm < 64 * 2 ^ l._place;
  nearly : Approximates l.number l._place l.mantissa l.logarithm;
  squared : IsSquared l.number l._place l.mantissa l.logarithm;
}
