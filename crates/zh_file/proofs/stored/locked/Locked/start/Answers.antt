use Rattle.std.proofs.Common.{◌∷◌, ◌∙◌, ap}
use Rattle.zh_film.specs.Past.{items}
use Rattle.zh_file.proofs.stored.locked.Locked.start.Goals as goal

pub returns-clause-opening : goal.returns-clause-opening
returns-clause-opening g c = c.push.ensures ∙ ap (λ d. d ∷ items c.args.self.before) c.of.ensures
