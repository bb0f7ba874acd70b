use Rattle.std.proofs.Common.{◌≡◌, Err, refl, rules}
use Rattle.zh_office.specs.JudgementText.{forecast_text}
use Rattle.zh_office.specs.declared.judgement.JudgementFault.TheVariants as faults
use Rattle.zh_office.proofs.FrontLemmas.{none_written, put_broke}
use Rattle.zh_office.proofs.judging.write_forecast.Goals as goal

pub returns-in_err-line-clause-front : goal.returns-in_err-line-clause-front
returns-in_err-line-clause-front g c =
    let is : c.from_residual.result ≡ Err faults.Memory = search rules in
    rw is ((refl, none_written 0 _ _ refl))

pub returns-in_err-put-clause-front : goal.returns-in_err-put-clause-front
returns-in_err-put-clause-front g c =
    let is : c.from_residual-in_err-put.result ≡ Err faults.Write = search rules in
    let text : c.deref.result.now ≡ forecast_text c.args.forecast = search rules in
    rw is ((refl, put_broke _ _ _ _ text c.in_err-put.ensures.front))
