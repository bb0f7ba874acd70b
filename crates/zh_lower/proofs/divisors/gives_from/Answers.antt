use Rattle.std.proofs.Common.{◌≡◌, ◌++◌, ◌^◌, take, drop, length, ap, ◌∙◌, arith}
use Rattle.std.proofs.lemmas.Bool.{OnFalse_from}
use Rattle.zh_matrices.specs.Asked.{asked}
use Rattle.zh_lower.specs.Rooms.{divisors_in}
use Rattle.zh_lower.specs.Second.{scaled_down}
use Rattle.zh_lower.proofs.MiddleLemmas.{scaled_down-within}
use Rattle.zh_lower.proofs.SecondLemmas.{IsMiddle-scaled, IsMiddle-unscaled, none-in-middle}
use Rattle.zh_lower.proofs.SliceLemmas.{length_whole, written_whole}
use Rattle.zh_lower.proofs.divisors.gives_from.Goals as goal

pub middle_gives-requires-clause-room : goal.middle_gives-requires-clause-room
middle_gives-requires-clause-room c = record {
  rows = c.requires.room.rows;
  columns = length_whole _ c.args.proposal.now.question.now.columns c.scale_down.new.into _ (omega arith) (omega (arith, c.requires.room.columns));
  greatest = c.requires.room.greatest;
}

pub middle_gives-requires-clause-columns : goal.middle_gives-requires-clause-columns
middle_gives-requires-clause-columns c =
    let taken : take c.args.room.now.of_columns.len (c.scale_down.new.into ++ drop (length c.scale_down.new.into) c.args.room.now.of_columns.items)
    ≡ c.scale_down.new.into = written_whole _ _ _ (omega arith) in
    let scaled : c.scale_down.new.into ≡ scaled_down c.args.scale c.args.room.now.greatest.items = rw c.deref.ensures.value at c.scale_down.ensures in
    rw (taken, scaled)
    (scaled_down-within c.args.proposal.now.question.now.columns (10 ^ 12) (10 ^ 12) c.args.scale c.args.room.now.greatest.items (omega arith)
    c.requires.greatest)

pub returns-then-middle_gives-clause-middle : goal.returns-then-middle_gives-clause-middle
returns-then-middle_gives-clause-middle c = λ _.
    let taken : take c.args.room.now.of_columns.len (c.scale_down.new.into ++ drop (length c.scale_down.new.into) c.args.room.now.of_columns.items)
    ≡ c.scale_down.new.into = written_whole _ _ _ (omega arith) in
    IsMiddle-scaled (asked c.args.proposal.now.question.now) c.args.scale c.args.room.now.greatest.items c.args.proposal.now.seats.now c.scale_down.new.into
    (divisors_in c.middle_gives.new.room) (rw taken at c.middle_gives.ensures.middle) (rw c.deref.ensures.value at c.scale_down.ensures)
    (c.middle_gives.ensures.gives.0 c.if-middle_gives.true)

pub returns-then-middle_gives-clause-strict : goal.returns-then-middle_gives-clause-strict
returns-then-middle_gives-clause-strict c = λ _. c.middle_gives.ensures.gives.0 c.if-middle_gives.true

pub returns-then-middle_gives-clause-limits : goal.returns-then-middle_gives-clause-limits
returns-then-middle_gives-clause-limits c = c.middle_gives.ensures.limits

pub returns-then-middle_gives-clause-room : goal.returns-then-middle_gives-clause-room
returns-then-middle_gives-clause-room c = c.middle_gives.ensures.room

pub middle_gives-requires-2-clause-room : goal.middle_gives-requires-2-clause-room
middle_gives-requires-2-clause-room c = record {
  rows = c.middle_gives.ensures.room.rows;
  columns = ap length (c.copy_from_slice.ensures.items ∙ c.deref-2.ensures.value) ∙ c.middle_gives.ensures.room.greatest;
  greatest = c.middle_gives.ensures.room.greatest;
}

pub middle_gives-requires-2-clause-columns : goal.middle_gives-requires-2-clause-columns
middle_gives-requires-2-clause-columns c =
    rw (c.copy_from_slice.ensures.items ∙ c.deref-2.ensures.value ∙ c.middle_gives.ensures.greatest) c.requires.greatest

pub returns-clause-strict : goal.returns-clause-strict
returns-clause-strict c = c.middle_gives-2.ensures.gives.0

pub returns-clause-limits : goal.returns-clause-limits
returns-clause-limits c = c.middle_gives-2.ensures.limits

pub returns-clause-room : goal.returns-clause-room
returns-clause-room c = c.middle_gives-2.ensures.room

pub returns-clause-middle : goal.returns-clause-middle
returns-clause-middle c = λ _.
    let taken : take c.args.room.now.of_columns.len (c.scale_down.new.into ++ drop (length c.scale_down.new.into) c.args.room.now.of_columns.items)
    ≡ c.scale_down.new.into = written_whole _ _ _ (omega arith) in
    IsMiddle-unscaled (asked c.args.proposal.now.question.now) c.args.scale c.args.room.now.greatest.items c.args.proposal.now.seats.now c.scale_down.new.into
    c.copy_from_slice.new.self.items
    (divisors_in c.middle_gives.new.room) (divisors_in c.middle_gives-2.new.room)
    c.middle_gives.result c.requires.only (rw taken at c.middle_gives.ensures.middle) (rw c.deref.ensures.value at c.scale_down.ensures)
    c.middle_gives.ensures.gives c.if-middle_gives.false
    c.middle_gives-2.ensures.middle (c.copy_from_slice.ensures.items ∙ c.deref-2.ensures.value ∙ c.middle_gives.ensures.greatest)

pub returns-clause-none : goal.returns-clause-none
returns-clause-none c = OnFalse_from c.middle_gives-2.result _ (λ fails.
    let taken : take c.args.room.now.of_columns.len (c.scale_down.new.into ++ drop (length c.scale_down.new.into) c.args.room.now.of_columns.items)
    ≡ c.scale_down.new.into = written_whole _ _ _ (omega arith) in
    none-in-middle (asked c.args.proposal.now.question.now) c.args.scale c.args.room.now.greatest.items c.args.proposal.now.seats.now c.scale_down.new.into
    c.copy_from_slice.new.self.items
    (divisors_in c.middle_gives.new.room) (divisors_in c.middle_gives-2.new.room)
    c.middle_gives.result c.middle_gives-2.result (rw taken at c.middle_gives.ensures.middle) (rw c.deref.ensures.value at c.scale_down.ensures)
    c.middle_gives.ensures.gives
    c.if-middle_gives.false c.middle_gives-2.ensures.middle (c.copy_from_slice.ensures.items ∙ c.deref-2.ensures.value ∙ c.middle_gives.ensures.greatest) c.middle_gives-2.ensures.gives fails)
