use Rattle.std.proofs.Common.{◌≡◌, ◌++◌, take, drop, length, true, arith, sym, ◌∙◌}
use Rattle.std.proofs.lemmas.Bool.{OnTrue_from, false≢true}
use Rattle.zh_matrices.specs.Asked.{asked}
use Rattle.zh_matrices.specs.Divisors.{millionths}
use Rattle.zh_lower.specs.Rooms.{divisors_in}
use Rattle.zh_lower.proofs.SecondLemmas.{AreWithin-more, follow-false, none-middle, none-strict, only_strict, within-of}
use Rattle.zh_lower.proofs.SliceLemmas.{length_whole, written_whole}
use Rattle.zh_lower.proofs.divisors.find_within.Goals as goal

pub returns-then-not-settle-clause-room : goal.returns-then-not-settle-clause-room
returns-then-not-settle-clause-room c = record {
  rows = length_whole _ _ _ _ (omega arith) c.settle.ensures.rows.one_each;
  columns = c.requires.room.columns;
  greatest = length_whole _ _ _ _ (omega arith) c.settle.ensures.columns.one_each;
}

pub follows-requires : goal.follows-requires
follows-requires c =
    let rows : c.deref.result.now ≡ c.settle.new.of_rows = c.deref.ensures.value ∙ written_whole _ _ _ (omega arith) in
    let columns : c.deref-2.result.now ≡ c.settle.new.of_columns = c.deref-2.ensures.value ∙ written_whole _ _ _ (omega arith) in
    rw (rows, columns) (record {
      rows = c.settle.ensures.rows;
      columns = AreWithin-more _ _ _ _ c.requires.at_most c.settle.ensures.columns;
    })

pub returns-then-not-follows-clause-room : goal.returns-then-not-follows-clause-room
returns-then-not-follows-clause-room c = record {
  rows = length_whole _ _ _ _ (omega arith) c.settle.ensures.rows.one_each;
  columns = c.requires.room.columns;
  greatest = length_whole _ _ _ _ (omega arith) c.settle.ensures.columns.one_each;
}

pub gives_from-requires-clause-room : goal.gives_from-requires-clause-room
gives_from-requires-clause-room c = record {
  rows = length_whole _ _ _ _ (omega arith) c.settle.ensures.rows.one_each;
  columns = c.requires.room.columns;
  greatest = length_whole _ _ _ _ (omega arith) c.settle.ensures.columns.one_each;
}

pub gives_from-requires-clause-greatest : goal.gives_from-requires-clause-greatest
gives_from-requires-clause-greatest c =
    let taken : take c.args.room.now.greatest.len (c.settle.new.of_columns ++ drop (length c.settle.new.of_columns) c.args.room.now.greatest.items)
    ≡ c.settle.new.of_columns = written_whole _ _ _ (omega arith) in
    rw taken (AreWithin-more _ _ _ _ c.requires.at_most c.settle.ensures.columns)

pub gives_from-requires-clause-scale : goal.gives_from-requires-clause-scale
gives_from-requires-clause-scale c = omega arith

pub gives_from-requires-clause-only : goal.gives_from-requires-clause-only
gives_from-requires-clause-only c =
    let rows : c.deref.result.now ≡ c.settle.new.of_rows = c.deref.ensures.value ∙ written_whole _ _ _ (omega arith) in
    let columns : c.deref-2.result.now ≡ c.settle.new.of_columns = c.deref-2.ensures.value ∙ written_whole _ _ _ (omega arith) in
    let passed : c.follows.result ≡ true = c.if-not-follows.false in
    only_strict (asked c.args.proposal.now.question.now) (millionths c.settle.new.of_rows c.settle.new.of_columns) c.args.proposal.now.seats.now (rw (rows, columns) at (c.follows.ensures.0 passed))

pub returns-then-not-settle-clause-none : goal.returns-then-not-settle-clause-none
returns-then-not-settle-clause-none c = λ x second. c.if-not-settle.ensures.out second.rows second.columns second.give

pub returns-then-not-follows-clause-none : goal.returns-then-not-follows-clause-none
returns-then-not-follows-clause-none c =
    let rows : c.deref.result.now ≡ c.settle.new.of_rows = c.deref.ensures.value ∙ written_whole _ _ _ (omega arith) in
    let columns : c.deref-2.result.now ≡ c.settle.new.of_columns = c.deref-2.ensures.value ∙ written_whole _ _ _ (omega arith) in
    none-strict (asked c.args.proposal.now.question.now) c.args.top c.args.proposal.now.seats.now c.settle.new.of_rows c.settle.new.of_columns c.settle.ensures.rows.one_each
    c.settle.ensures.columns.one_each c.if-not-settle.ensures.rounds (λ strict. false≢true (sym c.if-not-follows.true ∙ c.follows.ensures.1 (rw (rows, columns) strict)))

pub returns-clause-second : goal.returns-clause-second
returns-clause-second c =
    let rows : c.deref.result.now ≡ c.settle.new.of_rows = c.deref.ensures.value ∙ written_whole _ _ _ (omega arith) in
    let columns : c.deref-2.result.now ≡ c.settle.new.of_columns = c.deref-2.ensures.value ∙ written_whole _ _ _ (omega arith) in
    let taken : take c.args.room.now.greatest.len (c.settle.new.of_columns ++ drop (length c.settle.new.of_columns) c.args.room.now.greatest.items)
    ≡ c.settle.new.of_columns = written_whole _ _ _ (omega arith) in
    let passed : c.follows.result ≡ true = c.if-not-follows.false in
    OnTrue_from c.gives_from.result _ (λ gives.
    within-of (asked c.args.proposal.now.question.now) c.args.top c.args.proposal.now.seats.now c.settle.new.of_rows c.settle.new.of_columns
    (divisors_in c.gives_from.new.room) c.settle.ensures.enclose c.settle.ensures.rows c.settle.ensures.columns
    c.if-not-settle.ensures.rounds (rw (rows, columns) at (c.follows.ensures.0 passed)) (rw taken at (c.gives_from.ensures.middle gives)) (c.gives_from.ensures.strict gives))

pub returns-clause-limits : goal.returns-clause-limits
returns-clause-limits c = λ _. c.gives_from.ensures.limits

pub returns-clause-room : goal.returns-clause-room
returns-clause-room c = c.gives_from.ensures.room

pub returns-clause-none : goal.returns-clause-none
returns-clause-none c =
    let taken : take c.args.room.now.greatest.len (c.settle.new.of_columns ++ drop (length c.settle.new.of_columns) c.args.room.now.greatest.items)
    ≡ c.settle.new.of_columns = written_whole _ _ _ (omega arith) in
    follow-false c.gives_from.result _ _
    (none-middle (asked c.args.proposal.now.question.now) c.args.top c.args.proposal.now.seats.now c.settle.new.of_rows c.settle.new.of_columns c.settle.ensures.rows.one_each
    c.settle.ensures.columns.one_each c.if-not-settle.ensures.rounds)
    (rw taken at c.gives_from.ensures.none)
