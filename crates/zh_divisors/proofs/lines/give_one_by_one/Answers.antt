use Rattle.std.proofs.Common.{arith}
use Rattle.std.proofs.lemmas.Grind.{common_steps}
use Rattle.zh_divisors.proofs.LineSeatsLemmas.{AreGiven-none, AreGiven-give, IsLastCell-give, each-le-given}
use Rattle.zh_divisors.proofs.lines.give_one_by_one.Goals as goal

pub loop-given-init : goal.loop-given-init
loop-given-init c = record {
  given = AreGiven-none _ _ _ c.requires.room c.requires.empty;
  last = λ some. absurd (omega arith);
}

pub next_cell-last-requires : goal.next_cell-last-requires
next_cell-last-requires c = record {
  line = c.requires.line;
  room = c.loop-given.invariant.given.room;
  each_seat = λ k kw. omega (arith, each-le-given _ _ _ _ k c.loop-given.invariant.given kw, c.loop-given-test.true, c.requires.at_most_400);
}

pub overflow_add-seats : goal.overflow_add-seats
overflow_add-seats c = omega (arith, each-le-given _ _ _ _ _ c.loop-given.invariant.given c.next_cell-last.ensures.within, c.loop-given-test.true, c.requires.at_most_400)

pub loop-given-preserved : goal.loop-given-preserved
loop-given-preserved c = record {
  given = AreGiven-give _ _ _ _ _ _ c.loop-given.invariant.given c.next_cell-last.ensures (grind (arith, common_steps));
  last = λ _. IsLastCell-give _ _ _ _ _ _ c.requires.line c.loop-given.invariant.given c.next_cell-last.ensures (grind (arith, common_steps));
}
