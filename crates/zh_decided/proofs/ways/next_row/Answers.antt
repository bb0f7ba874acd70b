use Rattle.std.proofs.Common.{◌≡◌, None, true, ap, below_more, is_none, rules}
use Rattle.zh_decided.specs.Ways.{source_at, way_at}
use Rattle.zh_decided.proofs.WayLemmas.{none-tested}
use Rattle.zh_decided.proofs.ways.next_row.Goals as goal
use Rattle.zh_decided.proofs.ways.next_row.Goals.{else-is_none-via-else-is_none, else-is_none-via-then-is_none+in-None-1}

pub loop-row-preserved : goal.loop-row-preserved
loop-row-preserved c = elim c.else-is_none.branch [
  | else-is_none-via-else-is_none w ↦ below_more _ _ c.loop-row.invariant (λ none.
      let tested : c.is_none.result ≡ is_none (way_at c.args.ways.now c.loop-row.row)
      = none-tested (way_at c.args.ways.now c.loop-row.row) c.is_none.result c.is_none.ensures in
      let is : is_none (way_at c.args.ways.now c.loop-row.row) ≡ true = ap is_none none in
      let not = w.if-is_none.false in
      absurd (cc))
  | else-is_none-via-then-is_none+in-None-1 w ↦ below_more _ _ c.loop-row.invariant (λ none g gn room.
      let closed : source_at c.args.sources.now g ≡ None = search rules in
      c.requires.all g gn closed)
]
