use Rattle.std.proofs.Common.{◌∷◌, ◌∙◌, ap}
use Rattle.zh_film.specs.Past.{items}
use Rattle.zh_film.specs.Scenes.{scene}
use Rattle.zh_film.proofs.film.Film.add.Goals as goal

pub returns-clause-noted : goal.returns-clause-noted
returns-clause-noted g c =
    c.push.ensures ∙ ap (λ s. s ∷ items c.args.self.now.scenes) (c.of-4.ensures
    ∙ ap (λ r. scene c.args.kind r c.of-2.result.value c.of-3.result.value) c.of.ensures
    ∙ ap (λ w. scene c.args.kind c.args.reader.now w c.of-3.result.value) c.of-2.ensures
    ∙ ap (λ d. scene c.args.kind c.args.reader.now c.args.writer.now d) c.of-3.ensures)
