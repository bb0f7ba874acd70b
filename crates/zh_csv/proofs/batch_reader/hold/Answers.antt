use Rattle.std.proofs.Common.{rules, sym, ◌∙◌}
use Rattle.zh_csv.proofs.LoadingLemmas.{loaded_more}
use Rattle.zh_csv.proofs.batch_reader.hold.Goals as goal

pub returns-clause-loaded : goal.returns-clause-loaded
returns-clause-loaded c are =
    let fit = sym c.unfit.ensures.first ∙ c.in_default.is in
    let none = sym c.refuses.ensures ∙ c.in_default-refuses.is in
    rw c.in_ok-push.ensures.pushed (loaded_more c.args.setup.now c.args.batch.now c.args.row are fit none (search rules))
