use Rattle.std.proofs.Common.{◌+◌, ◌∙◌, ap}
use Rattle.std.specs.Option.{option_map_or}
use Rattle.zh_matrices.specs.SeatMatrix.{seats_of}
use Rattle.zh_sheet.proofs.sheet.Sheet.list_seats.Goals as goal

pub returns-in-Some : goal.returns-in-Some
returns-in-Some c =
    c.seats.ensures
    ∙ ap (λ x. seats_of x.lower c.args.constituency (c.in-Some.column + 1)) c.self.view_is
    ∙ ap (λ found. option_map_or (λ column. seats_of c.args.self.now.lower c.args.constituency (column + 1)) found 0) c.in-Some.ensures.place
