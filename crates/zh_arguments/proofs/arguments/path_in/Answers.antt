use Rattle.std.proofs.Common.{refl}
use Rattle.clap.specs.Words.{found_of}
use Rattle.zh_arguments.proofs.ArgumentLemmas.{path_found}
use Rattle.zh_arguments.proofs.arguments.path_in.Goals as goal

pub returns : goal.returns
returns c = path_found c.get_str.result _ c.unwrap_or.result (found_of c.args.given.now) c.args.name.now c.get_str.ensures refl c.unwrap_or.ensures
