use Rattle.std.proofs.Common.{codes, ◌∙◌}
use Rattle.clap.specs.Words.{found_of}
use Rattle.clap.proofs.WalkLemmas.{first_value-rows}
use Rattle.zh_arguments.proofs.check.check_paths_in.Goals as goal

pub returns : goal.returns
returns c = record {
  setup = c.path_in.ensures;
  sheet = c.path_in-2.ensures;
  held = c.get_str.ensures ∙ first_value-rows (found_of c.args.given.now) (codes "held");
}
