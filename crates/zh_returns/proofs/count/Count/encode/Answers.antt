use Rattle.std.proofs.Common.{◌∙◌, ◌++◌, drop, ap}
use Rattle.zh_returns.specs.declared.command.Format.TheVariants.{Two}
use Rattle.zh_returns.specs.Payload.{payload_spelling}
use Rattle.zh_returns.specs.Tables.{tally_from}
use Rattle.zh_returns.specs.Tally.{Tally}
use Rattle.zh_returns.proofs.count.Count.encode.Goals as goal

pub returns-clause-spelling : goal.returns-clause-spelling
returns-clause-spelling c =
    let canton = c.self.inside.setup.now in
    let rest = drop 262391 c.args.out.now in
    c.write_tables.ensures canton
    ∙ ap (λ table. payload_spelling Two (tally_from canton table c.deref-2.result.now c.self.inside.accepted) ++ rest) c.deref.ensures.value
    ∙ ap (λ flags. payload_spelling Two (tally_from canton c.self.inside.entries.items flags c.self.inside.accepted) ++ rest) c.deref-2.ensures.value
    ∙ ap (λ (t : Tally). payload_spelling Two t ++ rest) c.self.view_is
