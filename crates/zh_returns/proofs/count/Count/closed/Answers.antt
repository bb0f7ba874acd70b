use Rattle.std.proofs.Common.{◌≤◌, ◌∙◌, ap, arith, length}
use Rattle.std.specs.FinSet as set
use Rattle.zh_returns.specs.Tally.{Tally}
use Rattle.zh_returns.proofs.FlagLemmas.{read_flag}
use Rattle.zh_returns.proofs.count.Count.closed.Goals as goal

pub returns : goal.returns
returns c =
    let within : c.args.municipality ≤ length c.self.inside.closed.items = omega (
      arith,
      c.self.invariant.flags,
      c.self.invariant.tally.canton.municipalities.1,
      ap (λ (t : Tally). length t.canton.municipalities) c.self.view_is,
    ) in
    read_flag c.self.inside.closed.items c.args.municipality c.index.result.now c.requires.from_one within c.index.ensures
    ∙ ap (λ (t : Tally). set.contains t.closed c.args.municipality) c.self.view_is
