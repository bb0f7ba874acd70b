use Rattle.zh_matrices.specs.Asked.{asked}
use Rattle.zh_decided.specs.Sweeps.{of_column, of_row}
use Rattle.zh_decided.specs.Taken.{logs}
use Rattle.zh_decided.proofs.CheapestLemmas.{cheapest}
use Rattle.zh_matrices.proofs.CallerLemmas.{few-in-cells}
use Rattle.zh_decided.proofs.cycles.make_cheapest.Goals as goal

pub invariant_of-priced-clause-few : goal.invariant_of-priced-clause-few
invariant_of-priced-clause-few c =
    few-in-cells (asked c.args.question.now) c.loop-potentials.seats c.requires.totals c.loop-potentials.invariant.one_each c.loop-potentials.invariant.rows_add_up

pub returns-in-Still-clause-cheapest : goal.returns-in-Still-clause-cheapest
returns-in-Still-clause-cheapest c = λ others fits.
    cheapest (asked c.args.question.now) (logs c.args.logarithms.now) c.free.result c.loop-potentials.seats others
    (of_row c.in-Still.potentials) (of_column c.in-Still.potentials) c.args.logarithms.now.taken c.requires.totals c.in-Still.ensures.fair
    c.loop-potentials.invariant fits
