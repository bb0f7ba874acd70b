use Rattle.zh_decided.specs.Bounds.{asked_in, bounds_of}
use Rattle.zh_decided.proofs.PathTurnLemmas.{ArePlaced-placed}
use Rattle.zh_decided.proofs.completion.place.Goals as goal

pub returns-clause-placed : goal.returns-clause-placed
returns-clause-placed c =
    ArePlaced-placed (asked_in c.args.bounds.now) (bounds_of c.args.bounds.now) c.args.seats.now c.give.new.seats c.args.row c.args.column
    c.requires.row c.requires.column c.requires.row_lacks c.requires.column_lacks c.requires.room c.give.ensures c.requires.placed
