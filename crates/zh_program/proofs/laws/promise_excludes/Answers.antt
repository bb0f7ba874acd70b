use Rattle.std.proofs.Common.{◌≡◌, [], ◌∷◌, sym, ◌∙◌}
use Rattle.zh_program.proofs.laws.promise_excludes.Goals as goal

pub returns : goal.returns
returns g c = λ arguments old new status disk bytes x rest promise honest is none given.
    let wrong : [] ≡ x ∷ rest = sym (promise.idle honest bytes is none) ∙ given in absurd cc
