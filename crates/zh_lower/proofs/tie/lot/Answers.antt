use Rattle.std.proofs.Common.{◌≡◌, ◌∙◌, arith}
use Rattle.zh_matrices.specs.Asked.{asked}
use Rattle.zh_lower.specs.SearchRooms.{divisors_of}
use Rattle.zh_lower.specs.SeatBounds.{seat_bounds}
use Rattle.zh_decided.specs.Bounds.{CellBounds}
use Rattle.zh_lower.proofs.LotLemmas.{tie-encloses, tie-within}
use Rattle.zh_lower.proofs.SliceLemmas.{written_whole}
use Rattle.zh_lower.proofs.tie.lot.Goals as goal

pub bound_cells-requires-clause-limits : goal.bound_cells-requires-clause-limits
bound_cells-requires-clause-limits c = c.requires.limits

pub bound_cells-requires-clause-least : goal.bound_cells-requires-clause-least
bound_cells-requires-clause-least c = omega (arith, c.in_ok-least.ensures.len, c.args.question.now.sized.length_votes)

pub bound_cells-requires-clause-most : goal.bound_cells-requires-clause-most
bound_cells-requires-clause-most c = omega (arith, c.in_ok-most.ensures.len, c.args.question.now.sized.length_votes)

pub invariant_of-bounds-clause-each_least : goal.invariant_of-bounds-clause-each_least
invariant_of-bounds-clause-each_least c = omega (arith, c.as_slice.ensures.len, c.in_ok-least.ensures.len, c.args.question.now.sized.length_votes)

pub invariant_of-bounds-clause-each_most : goal.invariant_of-bounds-clause-each_most
invariant_of-bounds-clause-each_most c = omega (arith, c.as_slice-2.ensures.len, c.in_ok-most.ensures.len, c.args.question.now.sized.length_votes)

pub take_ranges-requires-clause-enclose : goal.take_ranges-requires-clause-enclose
take_ranges-requires-clause-enclose c =
    let low : c.as_slice.result.now ≡ c.bound_cells.new.least = c.as_slice.ensures.value ∙ written_whole _ _ _ (omega arith) in
    let high : c.as_slice-2.result.now ≡ c.bound_cells.new.most = c.as_slice-2.ensures.value ∙ written_whole _ _ _ (omega arith) in
    let bounds : CellBounds = record { least = c.as_slice.result.now; most = c.as_slice-2.result.now } in
    let same : bounds ≡ seat_bounds (asked c.args.question.now) (divisors_of c.args.tie.now.divisors) = rw (low, high, c.bound_cells.ensures.least, c.bound_cells.ensures.most) in
    tie-encloses (asked c.args.question.now) c.args.tie.now bounds same c.requires

pub take_ranges-requires-clause-within : goal.take_ranges-requires-clause-within
take_ranges-requires-clause-within c =
    let low : c.as_slice.result.now ≡ c.bound_cells.new.least = c.as_slice.ensures.value ∙ written_whole _ _ _ (omega arith) in
    let high : c.as_slice-2.result.now ≡ c.bound_cells.new.most = c.as_slice-2.ensures.value ∙ written_whole _ _ _ (omega arith) in
    let bounds : CellBounds = record { least = c.as_slice.result.now; most = c.as_slice-2.result.now } in
    let same : bounds ≡ seat_bounds (asked c.args.question.now) (divisors_of c.args.tie.now.divisors) = rw (low, high, c.bound_cells.ensures.least, c.bound_cells.ensures.most) in
    let seats : c.deref.result.now ≡ c.args.tie.now.seats.items = c.deref.ensures.value in
    rw seats (tie-within (asked c.args.question.now) c.args.tie.now bounds same c.requires)

pub take_ranges-requires-clause-others : goal.take_ranges-requires-clause-others
take_ranges-requires-clause-others c = omega (arith, c.in_ok-others.ensures.len, c.args.question.now.sized.length_votes)

pub take_ranges-requires-clause-least : goal.take_ranges-requires-clause-least
take_ranges-requires-clause-least c = omega (arith, c.in_ok-vec.ensures.len, c.args.question.now.sized.length_votes)

pub take_ranges-requires-clause-most : goal.take_ranges-requires-clause-most
take_ranges-requires-clause-most c = omega (arith, c.in_ok-vec-2.ensures.len, c.args.question.now.sized.length_votes)

pub returns : goal.returns
returns c = c.take_ranges.ensures
