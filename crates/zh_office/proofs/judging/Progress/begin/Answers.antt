use Rattle.std.proofs.Common.{◌≡◌, Err, rules}
use Rattle.zh_office.proofs.judging.Progress.begin.Goals as goal

pub returns-in_err-counts-clause-front : goal.returns-in_err-counts-clause-front
returns-in_err-counts-clause-front g c =
    let is : c.from_residual.result ≡ Err c.in_err-counts.field-0.0 = search rules in
    rw is c.in_err-counts.ensures.front
