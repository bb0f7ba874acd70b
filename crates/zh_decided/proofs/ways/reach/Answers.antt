use Rattle.std.proofs.Common.{◌<◌, None, length, replicate, refl, ◌∙◌, arith}
use Rattle.zh_matrices.specs.Question.{Question}
use Rattle.zh_decided.specs.Bounds.{CellBounds, asked_in, bounds_of}
use Rattle.zh_decided.specs.Ways.{IsWay}
use Rattle.zh_decided.specs.declared.ways.Way.{Way}
use Rattle.zh_decided.proofs.WayLemmas as tables
use Rattle.zh_decided.proofs.ways.reach.Goals as goal

pub loop-rank-init : goal.loop-rank-init
loop-rank-init c = record {
  table = refl;
  sources = tables.AreSources-none (asked_in c.args.bounds.now) (bounds_of c.args.bounds.now) c.args.seats.now c.args.ways.now (replicate 32 None) (tables.all_none 32);
  ways = tables.AreWays-none (asked_in c.args.bounds.now) (bounds_of c.args.bounds.now) c.args.seats.now c.args.ways.now c.requires.none;
  ranks = tables.RanksAreBelow-none (asked_in c.args.bounds.now) c.args.ways.now 0 c.requires.none;
  count = tables.count-none c.args.bounds.now.question.now.rows c.args.ways.now c.requires.none;
  none_lacks = tables.none_lacks-none (asked_in c.args.bounds.now) c.args.seats.now c.args.ways.now c.requires.none;
}

pub returns-then-row_lacks-clause-ways : goal.returns-then-row_lacks-clause-ways
returns-then-row_lacks-clause-ways c =
    let q : Question = asked_in c.args.bounds.now in
    let b : CellBounds = bounds_of c.args.bounds.now in
    let way : Way = record { column = c.in_ok-row.column; source = c.in_ok-row.source; rank = c.loop-rank.rank } in
    let is : IsWay q b c.args.seats.now c.loop-rank.ways c.in_ok-row.row way
    = tables.IsWay-of q b c.args.seats.now c.loop-rank.ways c.add_sources.new.sources c.in_ok-row.row way c.add_sources.ensures.sources
    c.loop-rank.invariant.ranks c.in_ok-row.ensures.column c.in_ok-row.ensures.room c.in_ok-row.ensures.source in
    let within : c.in_ok-row.row < length c.loop-rank.ways = omega (arith, c.loop-rank.auto.ways, c.in_ok-row.ensures.row) in
    tables.AreWays-set q b c.args.seats.now c.loop-rank.ways c.in_ok-row.row way within c.in_ok-row.ensures.new is c.loop-rank.invariant.ways

pub loop-rank-preserved : goal.loop-rank-preserved
loop-rank-preserved c =
    let q : Question = asked_in c.args.bounds.now in
    let b : CellBounds = bounds_of c.args.bounds.now in
    let way : Way = record { column = c.in_ok-row.column; source = c.in_ok-row.source; rank = c.loop-rank.rank } in
    let is : IsWay q b c.args.seats.now c.loop-rank.ways c.in_ok-row.row way
    = tables.IsWay-of q b c.args.seats.now c.loop-rank.ways c.add_sources.new.sources c.in_ok-row.row way c.add_sources.ensures.sources
    c.loop-rank.invariant.ranks c.in_ok-row.ensures.column c.in_ok-row.ensures.room c.in_ok-row.ensures.source in
    let within : c.in_ok-row.row < length c.loop-rank.ways = omega (arith, c.loop-rank.auto.ways, c.in_ok-row.ensures.row) in
    record {
      table = c.add_sources.auto.sources ∙ c.loop-rank.invariant.table;
      sources = tables.AreSources-set q b c.args.seats.now c.loop-rank.ways c.add_sources.new.sources c.in_ok-row.row way
          c.in_ok-row.ensures.new c.add_sources.ensures.sources;
      ways = tables.AreWays-set q b c.args.seats.now c.loop-rank.ways c.in_ok-row.row way within c.in_ok-row.ensures.new is c.loop-rank.invariant.ways;
      ranks = tables.RanksAreBelow-set q c.loop-rank.ways c.in_ok-row.row c.loop-rank.rank way within refl c.loop-rank.invariant.ranks;
      count = omega (
        arith,
        c.loop-rank.invariant.count,
        tables.count-set q.rows c.loop-rank.ways c.in_ok-row.row way c.in_ok-row.ensures.row within c.in_ok-row.ensures.new,
      );
      none_lacks = tables.none_lacks-set q c.args.seats.now c.loop-rank.ways c.in_ok-row.row way
          (λ lacks. tables.not-both c.row_lacks.result c.row_lacks.ensures lacks c.if-row_lacks.false) c.loop-rank.invariant.none_lacks;
    }

pub returns-clause-stuck : goal.returns-clause-stuck
returns-clause-stuck c = record {
  all_found = λ d dm none. absurd (tables.each_has_way c.args.bounds.now.question.now.rows c.loop-rank.ways
      (omega (arith, c.loop-rank.invariant.count, c.loop-rank-test.false, c.loop-rank.auto.rank-end)) d dm none);
  none_lacks = c.loop-rank.invariant.none_lacks;
}
