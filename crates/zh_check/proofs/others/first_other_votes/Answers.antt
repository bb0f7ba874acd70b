use Rattle.std.proofs.Common.{length, ap, ◌∙◌}
use Rattle.zh_check.proofs.SizeLemmas.{length-votes}
use Rattle.zh_check.proofs.others.first_other_votes.Goals as goal

pub other_votes-requires : goal.other_votes-requires
other_votes-requires c = ap length c.requires ∙ length-votes c.args.setup.now c.args.text.now
