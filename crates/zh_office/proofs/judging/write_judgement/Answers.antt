use Rattle.zh_office.proofs.judging.write_judgement.Goals as goal

pub returns-in-Err-Read-clause-judges : goal.returns-in-Err-Read-clause-judges
returns-in-Err-Read-clause-judges g c = rw c.in-Err-Read.field-0-is at c.in-Err-Read.ensures
