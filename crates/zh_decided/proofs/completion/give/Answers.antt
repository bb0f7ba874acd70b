use Rattle.zh_decided.specs.Bounds.{asked_in}
use Rattle.zh_decided.proofs.PathTurnLemmas.{IsOneMore-given}
use Rattle.zh_decided.proofs.completion.give.Goals as goal

pub returns : goal.returns
returns c = IsOneMore-given (asked_in c.args.bounds.now) c.args.seats.now c.args.row c.args.column c.requires.seats c.requires.row c.requires.column
