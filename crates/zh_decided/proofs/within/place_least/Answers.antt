use Rattle.std.proofs.Common.{ℕ, List, ◌∙◌}
use Rattle.std.proofs.lemmas.Bool.{OnFalse_from, OnTrue_from}
use Rattle.zh_decided.specs.Bounds.{IsWithin, asked_in, bounds_of}
use Rattle.zh_decided.specs.Ways.{ArePlaced}
use Rattle.zh_decided.proofs.WayLemmas.{not-both}
use Rattle.zh_decided.proofs.WithinLemmas.{least-at_least, least-at_most, least-columns, least-of, least-rows}
use Rattle.zh_decided.proofs.within.place_least.Goals as goal

pub returns-then-not-are_at_most-clause-none : goal.returns-then-not-are_at_most-clause-none
returns-then-not-are_at_most-clause-none c = λ s within.
    not-both c.are_at_most.result c.are_at_most.ensures
    (least-at_most (asked_in c.args.bounds.now) (bounds_of c.args.bounds.now) c.copy_cells.new.into s
    (least-of (asked_in c.args.bounds.now) (bounds_of c.args.bounds.now) c.copy_cells.new.into c.copy_cells.ensures) within)
    c.if-not-are_at_most.true

pub returns-then-not-have_rows_room-clause-none : goal.returns-then-not-have_rows_room-clause-none
returns-then-not-have_rows_room-clause-none c = λ s within.
    not-both c.have_rows_room.result c.have_rows_room.ensures
    (least-rows (asked_in c.args.bounds.now) (bounds_of c.args.bounds.now) c.copy_cells.new.into s
    (least-of (asked_in c.args.bounds.now) (bounds_of c.args.bounds.now) c.copy_cells.new.into c.copy_cells.ensures) within)
    c.if-not-have_rows_room.true

pub returns-clause-none : goal.returns-clause-none
returns-clause-none c = OnFalse_from _ ((s : List ℕ) → ¬ IsWithin (asked_in c.args.bounds.now) (bounds_of c.args.bounds.now) s) (λ is s within.
    not-both c.have_columns_room.result c.have_columns_room.ensures
    (least-columns (asked_in c.args.bounds.now) (bounds_of c.args.bounds.now) c.copy_cells.new.into s
    (least-of (asked_in c.args.bounds.now) (bounds_of c.args.bounds.now) c.copy_cells.new.into c.copy_cells.ensures) within)
    is)

pub returns-clause-placed : goal.returns-clause-placed
returns-clause-placed c = OnTrue_from _ (ArePlaced (asked_in c.args.bounds.now) (bounds_of c.args.bounds.now) c.copy_cells.new.into) (λ is. record {
  one_each = c.copy_cells.auto.into ∙ c.requires;
  rows = c.have_rows_room.ensures.0 c.if-not-have_rows_room.false;
  columns = c.have_columns_room.ensures.0 is;
  at_least = least-at_least (asked_in c.args.bounds.now) (bounds_of c.args.bounds.now) c.copy_cells.new.into
      (least-of (asked_in c.args.bounds.now) (bounds_of c.args.bounds.now) c.copy_cells.new.into c.copy_cells.ensures);
  at_most = c.are_at_most.ensures.0 c.if-not-are_at_most.false;
})
