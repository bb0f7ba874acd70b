use Rattle.std.proofs.Common.{arith, below_more}
use Rattle.zh_divisors.proofs.CallerLemmas.{cell-within}
use Rattle.zh_lower.proofs.ExtremeLemmas.{still_above}
use Rattle.zh_lower.proofs.extremes.lowered.Goals as goal

pub bounds-proposal-place : goal.bounds-proposal-place
bounds-proposal-place c = omega (arith, c.args.proposal.now.question.now.sized.length_votes, cell-within c.args.proposal.now.question.now.rows c.args.proposal.now.question.now.columns c.loop-row.row c.args.column c.loop-row-test.true c.requires.column)

pub bounds-proposal-place-in-loop-row : goal.bounds-proposal-place-in-loop-row
bounds-proposal-place-in-loop-row c = omega (arith, c.args.proposal.now.each_cell, cell-within c.args.proposal.now.question.now.rows c.args.proposal.now.question.now.columns c.loop-row.row c.args.column c.loop-row-test.true c.requires.column)

pub lowered_by_cell-greatest-requires-clause-votes : goal.lowered_by_cell-greatest-requires-clause-votes
lowered_by_cell-greatest-requires-clause-votes c =
    c.args.proposal.now.question.now.sized.each_vote _ 0 (omega (arith, c.args.proposal.now.question.now.sized.length_votes, cell-within c.args.proposal.now.question.now.rows c.args.proposal.now.question.now.columns c.loop-row.row c.args.column c.loop-row-test.true c.requires.column))

pub lowered_by_cell-greatest-requires-clause-seats : goal.lowered_by_cell-greatest-requires-clause-seats
lowered_by_cell-greatest-requires-clause-seats c =
    c.args.proposal.now.few _ 0 (omega (arith, c.args.proposal.now.each_cell, cell-within c.args.proposal.now.question.now.rows c.args.proposal.now.question.now.columns c.loop-row.row c.args.column c.loop-row-test.true c.requires.column))

pub lowered_by_cell-greatest-requires-clause-from_1 : goal.lowered_by_cell-greatest-requires-clause-from_1
lowered_by_cell-greatest-requires-clause-from_1 c = c.requires.rows.from_1 c.loop-row.row 0 (omega (arith, c.requires.rows.one_each))

pub lowered_by_cell-greatest-requires-clause-at_most : goal.lowered_by_cell-greatest-requires-clause-at_most
lowered_by_cell-greatest-requires-clause-at_most c = c.requires.rows.at_most c.loop-row.row 0 (omega (arith, c.requires.rows.one_each))

pub loop-row-preserved : goal.loop-row-preserved
loop-row-preserved c = record {
  at_most = omega arith;
  above = λ some. below_more _ _
      (λ d dw seated. still_above _ _ _ c.loop-row.greatest c.lowered_by_cell-greatest.result c.lowered_by_cell-greatest.ensures.at_most
      (c.loop-row.invariant.above (omega arith) d dw seated))
      (c.lowered_by_cell-greatest.ensures.above some);
  greatest = λ other le all. c.lowered_by_cell-greatest.ensures.greatest other (c.loop-row.invariant.greatest other le all) (all c.loop-row.row c.loop-row-test.true);
}

pub returns-clause-above : goal.returns-clause-above
returns-clause-above c = λ some d dw. c.loop-row.invariant.above some d (omega arith)

pub returns-clause-greatest : goal.returns-clause-greatest
returns-clause-greatest c = c.loop-row.invariant.greatest
