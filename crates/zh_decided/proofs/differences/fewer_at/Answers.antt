use Rattle.std.proofs.Common.{◌-◌, ◌≤◌, ℕ, List, get_or, set, slice_index, sym, ◌∙◌, arith}
use Rattle.std.proofs.lemmas.Bool.{OnFalse_from, OnTrue_from}
use Rattle.zh_decided.specs.Bounds.{IsAnotherAt, IsWithin, asked_in, bounds_of}
use Rattle.zh_decided.proofs.CutLemmas.{none-after, within-after}
use Rattle.zh_decided.proofs.DifferLemmas.{IsFewer, IsFewer-of, fewer-differs, fewer-placed, lowered, none_fewer}
use Rattle.zh_decided.proofs.WithinLemmas.{at_most-at, balanced}
use Rattle.zh_decided.proofs.differences.fewer_at.Goals as goal

pub returns-then-seats-place-clause-none : goal.returns-then-seats-place-clause-none
returns-then-seats-place-clause-none c = λ t within.
    omega (arith, at_most-at (asked_in c.args.bounds.now) t c.args.bounds.now.least.now c.args.place c.requires.place within.at_least, c.if-seats-place.true)

pub complete-requires-clause-balanced : goal.complete-requires-clause-balanced
complete-requires-clause-balanced c = balanced (asked_in c.args.bounds.now) (bounds_of c.args.bounds.now) c.args.seats.now c.requires.within

pub complete-requires-clause-placed : goal.complete-requires-clause-placed
complete-requires-clause-placed c =
    let q = asked_in c.args.bounds.now in
    let b = bounds_of c.args.bounds.now in
    let tight : List ℕ = set c.copy_cells.new.into c.args.place (get_or c.args.seats.now c.args.place 0 - 1) in
    let fewer : IsFewer q b c.args.seats.now tight c.args.place
    = IsFewer-of q b c.copy_cells.new.into c.args.seats.now c.args.place c.args.bounds.now.question.now.sized
    (c.copy_cells.auto.into ∙ c.no_seats-most.ensures.length) c.requires.place c.copy_cells.ensures c.requires.within (omega (arith, c.if-seats-place.false)) in
    rw c.copy_from_slice.ensures.after (fewer-placed q b c.args.seats.now tight c.args.place fewer c.if-seats-place.false)

pub returns-clause-differs : goal.returns-clause-differs
returns-clause-differs c =
    let q = asked_in c.args.bounds.now in
    let b = bounds_of c.args.bounds.now in
    let tight : List ℕ = set c.copy_cells.new.into c.args.place (get_or c.args.seats.now c.args.place 0 - 1) in
    let fewer : IsFewer q b c.args.seats.now tight c.args.place
    = IsFewer-of q b c.copy_cells.new.into c.args.seats.now c.args.place c.args.bounds.now.question.now.sized
    (c.copy_cells.auto.into ∙ c.no_seats-most.ensures.length) c.requires.place c.copy_cells.ensures c.requires.within (omega (arith, c.if-seats-place.false)) in
    OnTrue_from _ (IsAnotherAt q b c.args.seats.now c.args.place c.complete.new.seats) (λ is.
    fewer-differs q b c.args.seats.now tight c.complete.new.seats c.args.place fewer
    (within-after c.complete.result (IsWithin q (lowered b tight) c.complete.new.seats) (sym c.is_ok.ensures.value ∙ is) c.complete.ensures.within))

pub returns-clause-none : goal.returns-clause-none
returns-clause-none c =
    let q = asked_in c.args.bounds.now in
    let b = bounds_of c.args.bounds.now in
    let tight : List ℕ = set c.copy_cells.new.into c.args.place (get_or c.args.seats.now c.args.place 0 - 1) in
    let fewer : IsFewer q b c.args.seats.now tight c.args.place
    = IsFewer-of q b c.copy_cells.new.into c.args.seats.now c.args.place c.args.bounds.now.question.now.sized
    (c.copy_cells.auto.into ∙ c.no_seats-most.ensures.length) c.requires.place c.copy_cells.ensures c.requires.within (omega (arith, c.if-seats-place.false)) in
    OnFalse_from _ ((t : List ℕ) → IsWithin q b t → slice_index c.args.seats.now c.args.place ≤ slice_index t c.args.place) (λ is.
    none_fewer q b c.args.seats.now tight c.args.place fewer
    (none-after q (lowered b tight) c.complete.new.seats c.complete.result (sym c.is_ok.ensures.value ∙ is) c.complete.ensures.blocked))
