use Rattle.std.proofs.Common.{arith, below_more}
use Rattle.zh_divisors.proofs.CallerLemmas.{cell-within}
use Rattle.zh_lower.proofs.ExtremeLemmas.{still_below}
use Rattle.zh_lower.proofs.extremes.raised.Goals as goal

pub bounds-proposal-place : goal.bounds-proposal-place
bounds-proposal-place c = omega (arith, c.args.proposal.now.question.now.sized.length_votes, cell-within c.args.proposal.now.question.now.rows c.args.proposal.now.question.now.columns c.args.row c.loop-column.column c.requires.row c.loop-column-test.true)

pub bounds-proposal-place-in-loop-column : goal.bounds-proposal-place-in-loop-column
bounds-proposal-place-in-loop-column c = omega (arith, c.args.proposal.now.each_cell, cell-within c.args.proposal.now.question.now.rows c.args.proposal.now.question.now.columns c.args.row c.loop-column.column c.requires.row c.loop-column-test.true)

pub raised_by_cell-least-requires-clause-votes : goal.raised_by_cell-least-requires-clause-votes
raised_by_cell-least-requires-clause-votes c =
    c.args.proposal.now.question.now.sized.each_vote _ 0 (omega (arith, c.args.proposal.now.question.now.sized.length_votes, cell-within c.args.proposal.now.question.now.rows c.args.proposal.now.question.now.columns c.args.row c.loop-column.column c.requires.row c.loop-column-test.true))

pub raised_by_cell-least-requires-clause-seats : goal.raised_by_cell-least-requires-clause-seats
raised_by_cell-least-requires-clause-seats c =
    c.args.proposal.now.few _ 0 (omega (arith, c.args.proposal.now.each_cell, cell-within c.args.proposal.now.question.now.rows c.args.proposal.now.question.now.columns c.args.row c.loop-column.column c.requires.row c.loop-column-test.true))

pub raised_by_cell-least-requires-clause-from_1 : goal.raised_by_cell-least-requires-clause-from_1
raised_by_cell-least-requires-clause-from_1 c = c.requires.columns.from_1 c.loop-column.column 0 (omega (arith, c.requires.columns.one_each))

pub raised_by_cell-least-requires-clause-at_most : goal.raised_by_cell-least-requires-clause-at_most
raised_by_cell-least-requires-clause-at_most c = c.requires.columns.at_most c.loop-column.column 0 (omega (arith, c.requires.columns.one_each))

pub loop-column-preserved : goal.loop-column-preserved
loop-column-preserved c = record {
  at_least = omega arith;
  below = below_more _ _
      (λ g gw. still_below _ _ c.loop-column.least c.raised_by_cell-least.result _ c.raised_by_cell-least.ensures.at_least (c.loop-column.invariant.below g gw))
      c.raised_by_cell-least.ensures.below;
  least = λ other le all. c.raised_by_cell-least.ensures.least other (c.loop-column.invariant.least other le all) (all c.loop-column.column c.loop-column-test.true);
}

pub returns-clause-below : goal.returns-clause-below
returns-clause-below c = λ g gw. c.loop-column.invariant.below g (omega arith)

pub returns-clause-least : goal.returns-clause-least
returns-clause-least c = c.loop-column.invariant.least
