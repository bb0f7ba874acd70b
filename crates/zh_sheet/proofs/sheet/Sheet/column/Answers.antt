use Rattle.std.proofs.Common.{◌≡◌, ap, ◌∙◌}
use Rattle.std.specs.Prelude.{◌==◌, position}
use Rattle.zh_sheet.specs.Inside.{distribution_in}
use Rattle.zh_sheet.specs.Readings.{column_of}
use Rattle.zh_sheet.proofs.SheetLemmas.{column_few, column_there}
use Rattle.zh_sheet.proofs.sheet.Sheet.column.Goals as goal

pub returns-clause-there : goal.returns-clause-there
returns-clause-there c =
    let place : c.column_of.result ≡ column_of (distribution_in c.self.inside) c.args.group =
    c.column_of.ensures ∙ ap (position (λ seated. seated == c.args.group)) (c.deref.ensures.value ∙ c.self.invariant.seated) in
    rw (← c.self.view_is) (column_there (distribution_in c.self.inside) c.args.group c.column_of.result c.self.invariant.distribution place)

pub returns-clause-few : goal.returns-clause-few
returns-clause-few c =
    let place : c.column_of.result ≡ column_of (distribution_in c.self.inside) c.args.group =
    c.column_of.ensures ∙ ap (position (λ seated. seated == c.args.group)) (c.deref.ensures.value ∙ c.self.invariant.seated) in
    column_few (distribution_in c.self.inside) c.args.group c.column_of.result c.self.invariant.distribution place
