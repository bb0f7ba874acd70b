use Rattle.std.proofs.Common.{◌∙◌, ap, codes}
use Rattle.clap.specs.Words.{found_of}
use Rattle.clap.proofs.WalkLemmas.{first_value-rows}
use Rattle.zh_arguments.specs.Votes.{votes_by}
use Rattle.zh_arguments.proofs.votes.votes_asked.Goals as goal

pub returns : goal.returns
returns c = c.votes_by.ensures ∙ ap votes_by (c.get_str.ensures ∙ first_value-rows (found_of c.args.given.now) (codes "of"))
