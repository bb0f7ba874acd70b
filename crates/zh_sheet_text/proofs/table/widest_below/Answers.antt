use Rattle.std.proofs.Common.{ap, arith, max, rules, sym, ◌+◌, ◌∙◌, ◌≡◌, ℕ}
use Rattle.zh_sheet_text.specs.Table.{characters}
use Rattle.zh_sheet_text.proofs.WidthLemmas.{fold_next}
use Rattle.zh_sheet_text.proofs.table.widest_below.Goals as goal

pub loop-place-preserved : goal.loop-place-preserved
loop-place-preserved g c =
    let n = c.loop-place.place in
    let wider = λ (most line : ℕ). max most (characters ((g.T.TableCells.grid c.args.cells.now).cell line c.args.column)) in
    let wide : c.max-width.result ≡ max c.loop-place.width c.cell_width.result = search rules in
    let next : c.max-width.result ≡ wider c.loop-place.width (n + 1) = wide ∙ ap (λ (w : ℕ). max c.loop-place.width w) c.cell_width.ensures.width in
    record {
      so_far = next ∙ ap (λ (w : ℕ). wider w (n + 1)) c.loop-place.invariant.so_far ∙ sym (fold_next wider 3 n);
      few = omega (arith, c.loop-place.invariant.few, c.cell_width.ensures.few, wide);
    }
