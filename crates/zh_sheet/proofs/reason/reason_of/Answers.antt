use Rattle.std.proofs.Common.{refl, arith}
use Rattle.std.proofs.lemmas.Grind.{common_steps}
use Rattle.zh_decided.specs.Floats.{floating}
use Rattle.zh_sheet.proofs.reason.reason_of.Goals as goal

pub returns-in-Beyond : goal.returns-in-Beyond
returns-in-Beyond c =
    let beyond = rw c.in-Beyond.is at c.requires.decides in
    rw c.new.ensures (
      record { rows = c.requires.rows; groups_are = refl; divisors = floating c.in-Beyond._divisors; strict = beyond.strict },
      beyond.none,
    )

pub returns-in-Impossible : goal.returns-in-Impossible
returns-in-Impossible c = rw c.in-Impossible.is at c.requires.decides

pub returns-in-NearlyTied : goal.returns-in-NearlyTied
returns-in-NearlyTied c =
    let found = rw c.in-NearlyTied.is at c.requires.decides in
    record {
      possible = (c.args.decided.findings.seats.items, found.one_fits);
      column = c.in-NearlyTied.column;
      of_group = grind (arith, common_steps);
      tied = record { divisors = floating c.in-NearlyTied._divisors; seats = c.args.decided.findings.seats.items; others = c.args.decided.findings.others.items; tied = found.tied };
    }
