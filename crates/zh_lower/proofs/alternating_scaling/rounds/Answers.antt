use Rattle.std.proofs.Common.{◌≡◌, ◌+◌, ◌*◌, arith}
use Rattle.zh_matrices.specs.Asked.{asked}
use Rattle.zh_lower.proofs.StateLemmas.{round-none, round-reached, round-state, start-none, start-reached}
use Rattle.zh_lower.proofs.alternating_scaling.rounds.Goals as goal

pub loop-round-preserved : goal.loop-round-preserved
loop-round-preserved c = record {
  limits = c.round.ensures.limits;
  room = c.round.ensures.room;
  quotients = c.round.ensures.quotients;
  at = round-state (asked c.args.question.now) c.loop-round._round _ _ c.loop-round.invariant.at c.in_default-round.ensures.goes_on;
  none = round-none (asked c.args.question.now) c.loop-round._round _ _ c.loop-round.invariant.at c.in_default-round.ensures.goes_on
      c.loop-round.invariant.none;
}

pub loop-round-init : goal.loop-round-init
loop-round-init c = record {
  limits = c.requires.limits;
  room = c.end_test.ensures.room;
  quotients = c.end_test.ensures.quotients;
  at = c.requires.start;
  none = start-none (asked c.args.question.now) (rw c.requires.start at c.in_default.ensures.none);
}

pub returns-clause-none : goal.returns-clause-none
returns-clause-none c =
    let all : 2 * c.loop-round._round + 1 ≡ 2001 = omega arith in
    rw all at c.loop-round.invariant.none

pub returns-in-Some-clause-reached : goal.returns-in-Some-clause-reached
returns-in-Some-clause-reached c = start-reached (asked c.args.question.now) _ c.requires.start

pub returns-in-Some-round-clause-reached : goal.returns-in-Some-round-clause-reached
returns-in-Some-round-clause-reached c =
    round-reached (asked c.args.question.now) c.loop-round._round _ _ (omega (arith, c.loop-round-test.true)) c.loop-round.invariant.at
    c.loop-round.invariant.none c.in-Some-round.ensures.ends_round
