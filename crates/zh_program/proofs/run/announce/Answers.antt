use Rattle.zh_program.proofs.run.announce.Goals as goal

pub returns : goal.returns
returns g c = c.make_remark.ensures
