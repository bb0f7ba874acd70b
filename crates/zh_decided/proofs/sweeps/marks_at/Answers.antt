use Rattle.std.proofs.Common.{◌≡◌, None, replicate, ap}
use Rattle.std.proofs.lemmas.List.{get_or-replicate}
use Rattle.zh_decided.specs.Levels.{mark_at}
use Rattle.zh_decided.specs.declared.prices.Mark.{Mark}
use Rattle.zh_decided.proofs.sweeps.marks_at.Goals as goal

pub returns : goal.returns
returns c g lt =
    let top : Mark = record { potential = c.args.potential; maker = None } in
    let same : mark_at (replicate 32 top) g ≡ top = get_or-replicate 32 g top (record { potential = 0; maker = None }) lt in
    ap (λ mark. mark.potential) same
