use Rattle.std.proofs.Common.{◌≡◌, Err, refl, rules}
use Rattle.zh_office.specs.declared.judgement.JudgementFault.TheVariants as faults
use Rattle.zh_office.proofs.FrontLemmas.{none_written}
use Rattle.zh_office.proofs.judging.Progress.take.Goals as goal

pub returns-in_err-judgement-clause-front : goal.returns-in_err-judgement-clause-front
returns-in_err-judgement-clause-front g c =
    let is : c.from_residual.result ≡ Err faults.Memory = search rules in
    rw is ((refl, none_written 0 _ _ refl))
