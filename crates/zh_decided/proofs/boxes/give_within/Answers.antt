use Rattle.std.proofs.Common.{inl, inr, refl, arith}
use Rattle.std.proofs.lemmas.Bool.{cases_eq, cases_lt}
use Rattle.zh_matrices.specs.Asked.{asked}
use Rattle.zh_decided.specs.Taken.{logs}
use Rattle.zh_decided.proofs.FirstBoxLemmas.{outside}
use Rattle.zh_decided.proofs.boxes.give_within.Goals as goal

pub loop-smaller-preserved : goal.loop-smaller-preserved
loop-smaller-preserved c = record {
  rows = omega (arith, c.loop-smaller.invariant.rows, c.give_from.auto.of_rows);
  columns = omega (arith, c.loop-smaller.invariant.columns, c.give_from.auto.of_columns);
  moves = λ k less p stands. elim (cases_eq k c.loop-smaller.smaller) [
    | inl at ↦ c.if-give_from.ensures.moves p (rw at at stands)
    | inr other ↦ c.loop-smaller.invariant.moves k (omega (arith, less, other)) p stands
  ];
  none = λ more p S of_rows of_columns range strict. elim (cases_lt 0 c.loop-smaller.smaller) [
    | inl some ↦ c.loop-smaller.invariant.none some p S of_rows of_columns range strict
    | inr first ↦ c.if-give_from.ensures.none (omega arith) p S of_rows of_columns range strict
  ];
}

pub returns-clause-none : goal.returns-clause-none
returns-clause-none c = c.loop-smaller.invariant.none (omega arith)

pub returns-then-give_from-clause-give : goal.returns-then-give_from-clause-give
returns-then-give_from-clause-give c = record {
  limits = c.if-give_from.ensures.limits refl;
  strict = c.if-give_from.ensures.strict refl;
  first = record {
    logs = logs c.args.priced.now.logarithms.now;
    tables = c.requires.tables;
    smaller = c.loop-smaller.smaller;
    few = omega arith;
    in_box = c.if-give_from.ensures.in_box;
    before = c.loop-smaller.invariant.moves;
  };
}

pub returns-clause-outside : goal.returns-clause-outside
returns-clause-outside c = outside (asked c.args.priced.now.question.now) (logs c.args.priced.now.logarithms.now) c.args.priced.now.seats.now c.requires.tables
    (λ k less. c.loop-smaller.invariant.moves k (omega arith))
