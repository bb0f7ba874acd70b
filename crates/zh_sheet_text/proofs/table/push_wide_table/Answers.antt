use Rattle.std.proofs.Common.{◌≡◌, ◌∙◌, ◌++◌, ℕ, ap, append-nil, append_assoc, arith, sym}
use Rattle.zh_text.specs.Each.{each_to}
use Rattle.zh_sheet_text.specs.Table.{wide_line}
use Rattle.zh_text.proofs.CallerLemmas.{gathered-next}
use Rattle.zh_sheet_text.proofs.table.push_wide_table.Goals as goal

pub loop-place-init : goal.loop-place-init
loop-place-init g c =
    c.in_ok-push_wide_line.ensures ∙ sym (append-nil (c.args.out.now.items ++ wide_line (g.T.TableCells.grid c.args.cells.now) 0))

pub loop-place-preserved : goal.loop-place-preserved
loop-place-preserved g c =
    let grid = g.T.TableCells.grid c.args.cells.now in
    gathered-next (wide_line grid) (c.args.out.now.items ++ wide_line grid 0) c.loop-place.out.items c.push_wide_line-in-loop-place.new.out.items c.loop-place.place c.loop-place.invariant c.in_ok-push_wide_line-2.ensures

pub returns : goal.returns
returns g c =
    let grid = g.T.TableCells.grid c.args.cells.now in
    let old = c.args.out.now.items in
    let end : c.loop-place.place ≡ grid.lines = omega (arith, c.loop-place.auto.place-end, c.loop-place-test.false, c.lines-place-end.ensures.lines) in
    c.loop-place.invariant
    ∙ append_assoc old (wide_line grid 0) (each_to c.loop-place.place (wide_line grid))
    ∙ ap (λ (n : ℕ). old ++ (wide_line grid 0 ++ each_to n (wide_line grid))) end
