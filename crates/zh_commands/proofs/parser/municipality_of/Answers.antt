use Rattle.std.proofs.Common.{refl, [], ◌∷◌}
use Rattle.zh_commands.proofs.parser.municipality_of.Goals as goal

pub returns-in_err-municipality : goal.returns-in_err-municipality
returns-in_err-municipality c = rw c.from_residual.ensures (λ n fits e. c.in_err-municipality.ensures (n ∷ []) refl (fits, tt) e)
