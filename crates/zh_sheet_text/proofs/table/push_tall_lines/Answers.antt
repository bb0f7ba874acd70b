use Rattle.std.proofs.Common.{◌≡◌, ◌-◌, ◌∙◌, [], ◌++◌, ◌∷◌, List, ℕ, ap, append-nil, append_assoc, arith, sym}
use Rattle.zh_text.specs.Each.{each_to}
use Rattle.zh_sheet_text.specs.Table.{field_line, on_left, on_right, tall_width}
use Rattle.zh_text.proofs.CallerLemmas.{gathered-next}
use Rattle.zh_sheet_text.proofs.TextLemmas.{put_three}
use Rattle.zh_sheet_text.proofs.table.push_tall_lines.Goals as goal

pub loop-place-init : goal.loop-place-init
loop-place-init g c =
    let grid = g.T.TableCells.grid c.args.cells.now in
    let line = c.args.line in
    let old = c.args.out.now.items in
    let named = c.push_left.new.out.items in
    let name : List ℕ = on_left 42 (grid.cell line 0) in
    let field : List ℕ = on_right (tall_width grid) (grid.cell line grid.columns) in
    let first : named ≡ old ++ name = c.in_ok-push_left.ensures ∙ ap (λ (text : List ℕ). old ++ on_left 42 text) (c.deref.ensures.0 ∙ c.cell.ensures) in
    let last : c.deref-2.result.now ≡ grid.cell line grid.columns
    = c.deref-2.ensures.0 ∙ c.cell-2.ensures ∙ ap (λ (column : ℕ). grid.cell line column) c.columns-last.ensures.columns in
    let second : c.push_right.new.out.items ≡ named ++ field
    = c.in_ok-push_right.ensures
    ∙ ap (λ (text : List ℕ). named ++ on_right c.tall_width.result text) last
    ∙ ap (λ (width : ℕ). named ++ on_right width (grid.cell line grid.columns)) c.tall_width.ensures in
    put_three old named c.push_right.new.out.items c.extend_from_slice.new.self.items name field (10 ∷ []) first second c.in_ok-extend_from_slice.ensures.items
    ∙ sym (append-nil (old ++ (name ++ field ++ 10 ∷ [])))

pub loop-place-preserved : goal.loop-place-preserved
loop-place-preserved g c =
    let grid = g.T.TableCells.grid c.args.cells.now in
    let line = c.args.line in
    let head = on_left 42 (grid.cell line 0) ++ on_right (tall_width grid) (grid.cell line grid.columns) ++ 10 ∷ [] in
    gathered-next (field_line grid line) (c.args.out.now.items ++ head) c.loop-place.out.items c.push_field.new.out.items c.loop-place.place c.loop-place.invariant c.in_ok-push_field.ensures

pub returns : goal.returns
returns g c =
    let grid = g.T.TableCells.grid c.args.cells.now in
    let line = c.args.line in
    let old = c.args.out.now.items in
    let head : List ℕ = on_left 42 (grid.cell line 0) ++ on_right (tall_width grid) (grid.cell line grid.columns) ++ 10 ∷ [] in
    let end : c.loop-place.place ≡ grid.columns - 1 = omega (arith, c.loop-place.auto.place-end, c.loop-place-test.false, c.columns-last.ensures.columns) in
    c.loop-place.invariant
    ∙ append_assoc old head (each_to c.loop-place.place (field_line grid line))
    ∙ ap (λ (n : ℕ). old ++ (head ++ each_to n (field_line grid line))) end
