use Rattle.std.proofs.Common.{◌≡◌, ◌+◌, ◌-◌, ◌*◌, below_more, ap, ◌∙◌, arith}
use Rattle.zh_divisors.proofs.CallerLemmas.{cell-within}
use Rattle.zh_decided.specs.Levels.{potential_at}
use Rattle.zh_decided.specs.Prices.{Priced}
use Rattle.zh_decided.specs.Taken.{priced_in}
use Rattle.zh_decided.proofs.prices.PricedSeats.column_mark.Goals.{else-potential-mark, then-potential-mark}
use Rattle.zh_decided.proofs.prices.PricedSeats.column_mark.Goals as goal

pub bounds-self-place : goal.bounds-self-place
bounds-self-place c = omega (arith, c.args.self.now.each_cell, cell-within c.args.self.now.question.now.rows c.args.self.now.question.now.columns c.loop-row.row c.args.column c.loop-row-test.true c.requires.column)

pub loop-row-preserved-then-self-place-eq0 : goal.loop-row-preserved-then-self-place-eq0
loop-row-preserved-then-self-place-eq0 c = record {
  falls = c.loop-row.invariant.falls;
  taken = below_more _ _ c.loop-row.invariant.taken (λ some. absurd (omega (arith, c.if-self-place-eq0.true, some)));
  maker = c.loop-row.invariant.maker;
}

pub bounds-self-place-in-loop-row : goal.bounds-self-place-in-loop-row
bounds-self-place-in-loop-row c = omega (arith, c.args.self.now.each_cell, cell-within c.args.self.now.question.now.rows c.args.self.now.question.now.columns c.loop-row.row c.args.column c.loop-row-test.true c.requires.column)

pub seat_price-last-requires-clause-place : goal.seat_price-last-requires-clause-place
seat_price-last-requires-clause-place c = omega (arith, c.args.self.now.votes, cell-within c.args.self.now.question.now.rows c.args.self.now.question.now.columns c.loop-row.row c.args.column c.loop-row-test.true c.requires.column)

pub seat_price-last-requires-clause-seat : goal.seat_price-last-requires-clause-seat
seat_price-last-requires-clause-seat c =
    omega (
      arith,
      c.args.self.now.few (c.loop-row.row * c.args.self.now.question.now.columns + c.args.column) 0
          (omega (arith, c.args.self.now.each_cell, cell-within c.args.self.now.question.now.rows c.args.self.now.question.now.columns c.loop-row.row c.args.column c.loop-row-test.true c.requires.column)),
    )

pub loop-row-preserved : goal.loop-row-preserved
loop-row-preserved c =
    let m : Priced = priced_in c.args.self.now in
    let made : c.saturating_sub-potential.result ≡ potential_at c.args.rows.now c.loop-row.row - (m.last c.loop-row.row c.args.column + c.args.bounds.taken)
    = c.saturating_sub-potential.ensures
    ∙ ap (λ p. potential_at c.args.rows.now c.loop-row.row - (p + c.args.bounds.taken)) c.seat_price-last.ensures.price in
    elim c.if-potential-mark.branch [
      | then-potential-mark w ↦ rw w.mark-is (record {
        falls = omega (arith, w.if-potential-mark.true, c.loop-row.invariant.falls);
        taken = below_more _ _ (λ d lt some. omega (arith, w.if-potential-mark.true, c.loop-row.invariant.taken d lt some)) (λ some. omega (arith, made));
        maker = (
          omega (arith, w.if-potential-mark.true, c.loop-row.invariant.falls),
          record { row = c.loop-row-test.true; seat = omega (arith, c.if-self-place-eq0.false); made = made },
        );
      })
      | else-potential-mark w ↦ rw w.mark-is (record {
        falls = c.loop-row.invariant.falls;
        taken = below_more _ _ c.loop-row.invariant.taken (λ some. omega (arith, w.if-potential-mark.false, made));
        maker = c.loop-row.invariant.maker;
      })
    ]

pub returns : goal.returns
returns c = record {
  falls = c.loop-row.invariant.falls;
  taken = λ d dm. c.loop-row.invariant.taken d (omega (arith, dm));
  maker = c.loop-row.invariant.maker;
}
