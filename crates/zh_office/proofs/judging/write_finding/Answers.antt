use Rattle.std.proofs.Common.{◌≡◌, Err, refl, rules}
use Rattle.csv.specs.Records.{fields_of}
use Rattle.zh_office.specs.JudgementText.{line_by}
use Rattle.zh_office.specs.declared.judgement.JudgementFault.TheVariants as faults
use Rattle.zh_office.proofs.FrontLemmas.{none_written, put_broke}
use Rattle.zh_office.proofs.judging.write_finding.Goals as goal

pub returns-in_err-line-clause-front : goal.returns-in_err-line-clause-front
returns-in_err-line-clause-front g c =
    let is : c.from_residual.result ≡ Err faults.Memory = search rules in
    rw is ((refl, none_written 0 _ _ refl))

pub returns-in_err-put-clause-front : goal.returns-in_err-put-clause-front
returns-in_err-put-clause-front g c =
    let is : c.from_residual-in_err-put.result ≡ Err faults.Write = search rules in
    let text : c.deref.result.now ≡ line_by c.args.number (fields_of c.args.csv_record.now) c.args.judgement = search rules in
    rw is ((refl, put_broke _ _ _ _ text c.in_err-put.ensures.front))
