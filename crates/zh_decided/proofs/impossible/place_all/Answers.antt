use Rattle.std.proofs.Common.{◌∙◌}
use Rattle.std.proofs.lemmas.Result.{IfErr-weaker}
use Rattle.zh_matrices.specs.Asked.{asked}
use Rattle.zh_decided.proofs.VoteBoundLemmas.{ArePlaced-none, too_few}
use Rattle.zh_decided.proofs.impossible.place_all.Goals as goal

pub fill_cells-requires : goal.fill_cells-requires
fill_cells-requires c =
    ArePlaced-none (asked c.args.question.now) _ c.clear.new.cells
    (record { none = c.no_seats-least.ensures.zeros; by_votes = c.bound_by_votes.ensures })
    (c.clear.auto.cells ∙ c.requires.seats) c.clear.ensures

pub returns-clause-too_few : goal.returns-clause-too_few
returns-clause-too_few c =
    IfErr-weaker c.complete.result _ _ (λ rows blocked.
    too_few (asked c.args.question.now) _ c.complete.new.seats rows
    (record { none = c.no_seats-least.ensures.zeros; by_votes = c.bound_by_votes.ensures }) c.requires.totals blocked)
    c.complete.ensures.blocked
