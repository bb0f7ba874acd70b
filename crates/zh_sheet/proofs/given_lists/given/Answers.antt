use Rattle.std.proofs.Common.{sym, ◌∙◌}
use Rattle.std.proofs.lemmas.Bool.{false≢true}
use Rattle.zh_sheet.specs.Given.{given_lists}
use Rattle.zh_sheet.proofs.GivenLemmas.{none_above, none_shown}
use Rattle.zh_sheet.proofs.given_lists.given.Goals as goal

pub returns : goal.returns
returns c =
    none_above c.args.totals.now (given_lists c.args.seats.items c.args.row_divisors.items c.args.column_divisors.items)
    c.in-Err.fault c.in-Err.ensures.refused c.in-Err.ensures.early c.in_default.not-Memory

pub with_given-requires-clause-asked : goal.with_given-requires-clause-asked
with_given-requires-clause-asked c = c.in-Ok.ensures.given

pub returns-then-not-none_hidden : goal.returns-then-not-none_hidden
returns-then-not-none_hidden c =
    none_shown c.args.totals.now (given_lists c.args.seats.items c.args.row_divisors.items c.args.column_divisors.items)
    (λ shown. false≢true (sym c.if-not-none_hidden.true ∙ c.none_hidden.ensures.1 shown))
