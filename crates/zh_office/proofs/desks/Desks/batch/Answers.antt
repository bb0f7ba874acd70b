use Rattle.std.proofs.Common.{◌∙◌, None, sym, ap, arith}
use Rattle.std.proofs.lemmas.List.{get_or_read}
use Rattle.zh_office.specs.DeskBatches.{Held, rows_of}
use Rattle.zh_office.proofs.desks.Desks.batch.Goals as goal

pub bounds-self-inside-desk : goal.bounds-self-inside-desk
bounds-self-inside-desk c = omega (arith, c.args.desk.from_one, c.args.desk.there)

pub listed : goal.listed
listed c = omega (arith, c.args.desk.from_one, c.args.desk.there, c.self.told)

pub returns : goal.returns
returns c =
    c.as_ref.ensures.value
    ∙ (sym c.index-self-desk.is ∙ get_or_read c.self.inside.batches _ _ (omega (arith, c.args.desk.from_one, c.args.desk.there, c.self.told)) c.index-self-desk.is None)
    ∙ ap (λ (held : Held). rows_of held c.args.desk) c.self.view_is
