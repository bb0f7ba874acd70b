use Rattle.std.proofs.Common.{inl}
use Rattle.zh_program.specs.SheetSeats.{AreStated, MayShowSheet}
use Rattle.zh_program.proofs.ShownLemmas.{gives_as}
use Rattle.zh_program.proofs.sheet_seats.shown_of.Goals as goal

pub returns-in-Ok : goal.returns-in-Ok
returns-in-Ok c =
    let right = c.in-Ok.right in
    gives_as (AreStated c.args.layout right) (MayShowSheet c.args.setup.now c.args.text.now c.args.layout) c.shown_stated.result
    (λ shown are. inl (right, c.in-Ok.ensures.right, are)) c.shown_stated.ensures
