use Rattle.std.proofs.Common.{◌≡◌, ◌+◌, ◌-◌, arith, rules}
use Rattle.zh_matrices.specs.Asked.{asked}
use Rattle.zh_matrices.specs.Divisors.{millionths}
use Rattle.zh_lower.specs.Extremes.{IsRound}
use Rattle.zh_lower.proofs.RoundLemmas.{if-in, none-yet, one-more, so-many-more, stands-still}
use Rattle.zh_lower.proofs.SecondLemmas.{AreWithin-more}
use Rattle.zh_lower.proofs.extremes.settle.Goals as goal

pub loop-round-init : goal.loop-round-init
loop-round-init c = record {
  rows = search rules;
  columns = search rules;
  enclose = search rules;
  rounds = none-yet (asked c.args.proposal.now.question.now) c.args.top c.args.proposal.now.seats.now (millionths c.fill.new.self c.fill-2.new.self)
      (record { rows = search rules; columns = search rules });
}

pub raise_rows-requires-clause-columns : goal.raise_rows-requires-clause-columns
raise_rows-requires-clause-columns c = AreWithin-more _ _ _ _ c.requires.at_most c.loop-round.invariant.columns

pub lower_columns-requires : goal.lower_columns-requires
lower_columns-requires c = record { rows = c.raise_rows.ensures.rows; columns = c.loop-round.invariant.columns }

pub returns-in-Out-clause-columns : goal.returns-in-Out-clause-columns
returns-in-Out-clause-columns c = c.loop-round.invariant.columns

pub returns-in-Out-clause-enclose : goal.returns-in-Out-clause-enclose
returns-in-Out-clause-enclose c = c.raise_rows.ensures.enclose c.args.top c.loop-round.invariant.enclose

pub returns-in-Out-clause-out : goal.returns-in-Out-clause-out
returns-in-Out-clause-out c = c.in-Out.ensures.out c.args.top c.loop-round.invariant.enclose

pub returns-in-Still : goal.returns-in-Still
returns-in-Still c =
    let before = millionths c.loop-round.of_rows c.loop-round.of_columns in
    let after = millionths c.raise_rows.new.of_rows c.lower_columns.new.of_columns in
    let round : IsRound (asked c.args.proposal.now.question.now) c.args.proposal.now.seats.now before after = record {
      rows = if-in c.raise_rows.result _ c.in_default.not-Out c.raise_rows.ensures.least;
      columns = c.in-Still.ensures.greatest;
    } in
    let all : c.loop-round._round + 1 + (999 - c.loop-round._round) ≡ 1000 = omega arith in
    record {
      rows = c.raise_rows.ensures.rows;
      columns = c.lower_columns.ensures.columns;
      enclose = c.lower_columns.ensures.enclose (c.raise_rows.ensures.enclose c.args.top c.loop-round.invariant.enclose);
      rounds = rw all at (so-many-more (asked c.args.proposal.now.question.now) c.args.top c.args.proposal.now.seats.now (c.loop-round._round + 1) (999 - c.loop-round._round) after
          (one-more (asked c.args.proposal.now.question.now) c.args.top c.args.proposal.now.seats.now c.loop-round._round before after c.loop-round.invariant.rounds round)
          (stands-still (asked c.args.proposal.now.question.now) c.args.proposal.now.seats.now before after c.in-Still.ensures.still round));
      out = tt;
    }

pub returns-in-Out-lower_columns : goal.returns-in-Out-lower_columns
returns-in-Out-lower_columns c = record {
  rows = c.raise_rows.ensures.rows;
  columns = c.lower_columns.ensures.columns;
  enclose = c.lower_columns.ensures.enclose (c.raise_rows.ensures.enclose c.args.top c.loop-round.invariant.enclose);
  rounds = tt;
  out = c.in-Out-lower_columns.ensures.out (c.raise_rows.ensures.enclose c.args.top c.loop-round.invariant.enclose);
}

pub loop-round-preserved : goal.loop-round-preserved
loop-round-preserved c =
    let round : IsRound (asked c.args.proposal.now.question.now) c.args.proposal.now.seats.now (millionths c.loop-round.of_rows c.loop-round.of_columns)
    (millionths c.raise_rows.new.of_rows c.lower_columns.new.of_columns) = record {
      rows = if-in c.raise_rows.result _ c.in_default.not-Out c.raise_rows.ensures.least;
      columns = c.in-Moved.ensures.greatest;
    } in
    record {
      rows = c.raise_rows.ensures.rows;
      columns = c.lower_columns.ensures.columns;
      enclose = c.lower_columns.ensures.enclose (c.raise_rows.ensures.enclose c.args.top c.loop-round.invariant.enclose);
      rounds = one-more (asked c.args.proposal.now.question.now) c.args.top c.args.proposal.now.seats.now c.loop-round._round
          (millionths c.loop-round.of_rows c.loop-round.of_columns) (millionths c.raise_rows.new.of_rows c.lower_columns.new.of_columns)
          c.loop-round.invariant.rounds round;
    }

pub returns-clause-enclose : goal.returns-clause-enclose
returns-clause-enclose c = c.loop-round.invariant.enclose

pub returns-clause-rounds : goal.returns-clause-rounds
returns-clause-rounds c =
    let all : c.loop-round._round ≡ 1000 = omega arith in rw all at c.loop-round.invariant.rounds
