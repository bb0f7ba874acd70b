use Rattle.std.proofs.Common.{◌<◌, length, ◌∙◌, arith}
use Rattle.std.proofs.lemmas.List.{length-set}
use Rattle.zh_matrices.specs.Question.{Question}
use Rattle.zh_decided.specs.Bounds.{CellBounds, asked_in, bounds_of}
use Rattle.zh_decided.proofs.SourceLemmas.{none-kept, none-written, sources-written}
use Rattle.zh_decided.proofs.ways.add_sources.Goals.{else-is_none, then-is_none}
use Rattle.zh_decided.proofs.ways.add_sources.Goals as goal

pub loop-column-init : goal.loop-column-init
loop-column-init c = record { long = c.requires.table; some = c.requires.sources; none = λ g lt is. absurd (omega arith) }

pub loop-column-preserved : goal.loop-column-preserved
loop-column-preserved c =
    let q : Question = asked_in c.args.bounds.now in
    let b : CellBounds = bounds_of c.args.bounds.now in
    let within : c.loop-column.column < length c.loop-column.sources = omega (arith, c.loop-column.invariant.long, c.args.bounds.now.question.now.sized.few_columns) in
    elim c.if-is_none.branch [
      | then-is_none w ↦ rw w.sources-is (record {
        long = length-set c.loop-column.sources c.loop-column.column w.source_of.result ∙ c.loop-column.invariant.long;
        some = sources-written q b c.args.seats.now c.args.ways.now c.loop-column.sources c.loop-column.column w.source_of.result within w.source_of.ensures.source
            c.loop-column.invariant.some;
        none = none-written q b c.args.seats.now c.args.ways.now c.loop-column.sources c.loop-column.column w.source_of.result within w.source_of.ensures.none
            c.loop-column.invariant.none;
      })
      | else-is_none w ↦ rw w.sources-is (record {
        long = c.loop-column.invariant.long;
        some = c.loop-column.invariant.some;
        none = none-kept q b c.args.seats.now c.args.ways.now c.loop-column.sources c.loop-column.column c.is_none.result c.is_none.ensures w.if-is_none.false
            c.loop-column.invariant.none;
      })
    ]

pub returns-clause-sources : goal.returns-clause-sources
returns-clause-sources c = c.loop-column.invariant.some

pub returns-clause-none : goal.returns-clause-none
returns-clause-none c = λ g gn. c.loop-column.invariant.none g (omega (arith, gn))
