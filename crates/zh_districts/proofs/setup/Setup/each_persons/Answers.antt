use Rattle.std.proofs.Common.{map, sym, ap, ◌∙◌}
use Rattle.std.proofs.lemmas.Result.{IfOk-weaker}
use Rattle.zh_districts.specs.Seats.{persons}
use Rattle.zh_districts.proofs.ImageLemmas.{persons_map}
use Rattle.zh_districts.proofs.setup.Setup.each_persons.Goals as goal

pub returns-clause-persons : goal.returns-clause-persons
returns-clause-persons c =
    IfOk-weaker c.each_persons.result _ _
    (λ numbers h. h ∙ ap (map (λ x. x.persons)) c.deref.ensures.value ∙ sym (persons_map c.self.inside.constituencies.items) ∙ ap persons c.self.view_is) c.each_persons.ensures
