use Rattle.std.proofs.Common.{◌<◌, ◌++◌, All, length, ap, sym, ◌∙◌, subst, arith}
use Rattle.zh_sheet_text.specs.Layout.{IsPartOf, SheetLine, end_line, sheet_lines}
use Rattle.zh_sheet_text.proofs.CallerLemmas.{parts_at}
use Rattle.zh_check.specs.Form.{line_form}
use Rattle.zh_check.specs.Lines.{after_if}
use Rattle.zh_check.proofs.FormLemmas.{line_put}
use Rattle.zh_check.proofs.form.formed.Goals as goal

pub push_line-requires : goal.push_line-requires
push_line-requires c =
    subst (λ (line : SheetLine). All (IsPartOf c.args.setup.now) line.parts) (sym c.line_at.ensures)
    (parts_at c.args.setup.now c.line_count-place-end.ensures.canton c.loop-place.place)

pub loop-place-preserved : goal.loop-place-preserved
loop-place-preserved c =
    let canton = c.args.setup.now in
    let there : c.loop-place.place < length (sheet_lines canton) = omega (arith, c.loop-place-test.true, c.line_count-place-end.ensures.count) in
    line_put canton (sheet_lines canton) c.loop-place.place end_line c.loop-place.found.items c.push_line.new.text.items c.loop-place.lines c.push_line.new.lines _ there
    c.loop-place.invariant (c.in_ok-push_line.ensures.put ∙ ap (λ line. c.loop-place.found.items ++ line_form canton line c.loop-place.lines) c.line_at.ensures)
    (c.in_ok-push_line.ensures.rest ∙ ap (λ (line : SheetLine). after_if line.is_there c.loop-place.lines) c.line_at.ensures)
