use Rattle.std.proofs.Common.{◌≡◌, ◌∙◌, length, refl, ap, inl, inr}
use Rattle.zh_matrices.specs.Asked.{asked}
use Rattle.zh_matrices.specs.Divisors.{millionths}
use Rattle.zh_lower.proofs.SecondLemmas.{only_strict}
use Rattle.zh_lower.proofs.fallback.make_readable.Goals as goal

pub invariant_of-proposal : goal.invariant_of-proposal
invariant_of-proposal c = record {
  each_cell = rw c.as_slice.ensures.value c.requires.give.strict.one_each;
  few = rw c.as_slice.ensures.value c.requires.few;
}

pub gives_from-requires-clause-room : goal.gives_from-requires-clause-room
gives_from-requires-clause-room c = record {
  rows = c.requires.room.rows;
  columns = c.requires.room.columns;
  greatest = ap length (c.copy_from_slice.ensures.items ∙ c.deref.ensures.value) ∙ c.requires.give.limits.columns.one_each;
}

pub gives_from-requires-clause-greatest : goal.gives_from-requires-clause-greatest
gives_from-requires-clause-greatest c = rw (c.copy_from_slice.ensures.items ∙ c.deref.ensures.value) c.requires.give.limits.columns

pub gives_from-requires-clause-only : goal.gives_from-requires-clause-only
gives_from-requires-clause-only c =
    rw c.as_slice.ensures.value
    (only_strict (asked c.args.question.now) (millionths c.args.decided.now.of_rows.items c.args.decided.now.of_columns.items)
    c.args.decided.now.seats.items c.requires.give.strict)

pub returns-then-gives_from-clause-third : goal.returns-then-gives_from-clause-third
returns-then-gives_from-clause-third c =
    let greatest : c.copy_from_slice.new.self.items ≡ c.args.decided.now.of_columns.items
    = c.copy_from_slice.ensures.items ∙ c.deref.ensures.value in
    record {
      seats = c.args.decided.now.seats.items;
      rows = c.args.decided.now.of_rows.items;
      columns = c.args.decided.now.of_columns.items;
      give = c.requires.give;
      readable = inl (
        rw greatest at (c.gives_from.ensures.middle c.if-gives_from.true),
        rw c.as_slice.ensures.value at (c.gives_from.ensures.strict c.if-gives_from.true),
      );
    }

pub returns-then-gives_from-clause-strict : goal.returns-then-gives_from-clause-strict
returns-then-gives_from-clause-strict c = rw c.as_slice.ensures.value at (c.gives_from.ensures.strict c.if-gives_from.true)

pub returns-then-gives_from-clause-limits : goal.returns-then-gives_from-clause-limits
returns-then-gives_from-clause-limits c = c.gives_from.ensures.limits

pub returns-clause-third : goal.returns-clause-third
returns-clause-third c =
    let greatest : c.copy_from_slice.new.self.items ≡ c.args.decided.now.of_columns.items
    = c.copy_from_slice.ensures.items ∙ c.deref.ensures.value in
    let rows : c.copy_from_slice-2.new.self.items ≡ c.args.decided.now.of_rows.items
    = c.copy_from_slice-2.ensures.items ∙ c.deref-2.ensures.value in
    let columns : c.copy_from_slice-3.new.self.items ≡ c.args.decided.now.of_columns.items
    = c.copy_from_slice-3.ensures.items ∙ c.deref-3.ensures.value in
    record {
      seats = c.args.decided.now.seats.items;
      rows = c.args.decided.now.of_rows.items;
      columns = c.args.decided.now.of_columns.items;
      give = c.requires.give;
      readable = inr (rw (rows, columns) refl, rw (greatest, c.as_slice.ensures.value) at c.if-gives_from.ensures.none);
    }

pub returns-clause-strict : goal.returns-clause-strict
returns-clause-strict c =
    rw (c.copy_from_slice-2.ensures.items ∙ c.deref-2.ensures.value, c.copy_from_slice-3.ensures.items ∙ c.deref-3.ensures.value) c.requires.give.strict

pub returns-clause-limits : goal.returns-clause-limits
returns-clause-limits c =
    rw (c.copy_from_slice-2.ensures.items ∙ c.deref-2.ensures.value, c.copy_from_slice-3.ensures.items ∙ c.deref-3.ensures.value) c.requires.give.limits
