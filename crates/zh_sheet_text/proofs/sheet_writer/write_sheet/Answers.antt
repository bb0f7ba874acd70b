use Rattle.std.proofs.Common.{◌≡◌, ℕ, All, List, length, get_or, ap, sym, ◌∙◌, subst, arith}
use Rattle.zh_sheet_text.specs.Layout.{IsPartOf, SheetLine, end_line, sheet_lines}
use Rattle.zh_sheet_text.specs.SheetText.{line_text, part_text}
use Rattle.zh_sheet_text.proofs.LayoutLemmas.{parts_at}
use Rattle.zh_sheet_text.proofs.PrintingLemmas.{Prints-put, at_error, lines_all, lines_printed, lines_stopped, sent_front, sent_whole}
use Rattle.zh_sheet_text.proofs.sheet_writer.write_sheet.Goals as goal

pub loop-place-init : goal.loop-place-init
loop-place-init g c = (Prints-put _ _ _ _ c.new-buffer.ensures, omega (arith, ap length c.new-buffer.ensures))

pub print_line-requires-clause-parts : goal.print_line-requires-clause-parts
print_line-requires-clause-parts g c =
    let canton = c.args.sheet.now.totals.canton in
    let line : c.line_at.result ≡ get_or (sheet_lines canton) c.loop-place.place end_line
    = c.line_at.ensures ∙ ap (λ k. get_or (sheet_lines k) c.loop-place.place end_line) c.setup-setup.ensures.setup in
    subst (λ (l : SheetLine). All (IsPartOf canton) l.parts) (sym line) (parts_at canton c.setup-setup.ensures.meets.totals.canton c.loop-place.place)

pub returns-in_err-print_line-clause-front : goal.returns-in_err-print_line-clause-front
returns-in_err-print_line-clause-front g c =
    let canton = c.args.sheet.now.totals.canton in
    let lines : List SheetLine = sheet_lines canton in
    let text = line_text (part_text c.args.sheet.now (record { desk = c.args.desk; is_final = c.args.is_final; accepted = c.args.accepted })) in
    let k : ℕ = c.loop-place.place in
    let line : c.line_at.result ≡ get_or lines k end_line
    = c.line_at.ensures ∙ ap (λ s. get_or (sheet_lines s) k end_line) c.setup-setup.ensures.setup in
    let count : c.line_count-place-end.result ≡ length lines = c.line_count-place-end.ensures.count ∙ ap (λ s. length (sheet_lines s)) c.setup-setup.ensures.setup in
    at_error c.from_residual.result
    (lines_stopped _ _ _ _ _ text lines k end_line (omega (arith, count, c.loop-place-test.true)) c.loop-place.invariant.0
    (rw (← line) c.in_err-print_line.ensures.front))

pub loop-place-preserved : goal.loop-place-preserved
loop-place-preserved g c =
    let canton = c.args.sheet.now.totals.canton in
    let lines : List SheetLine = sheet_lines canton in
    let text = line_text (part_text c.args.sheet.now (record { desk = c.args.desk; is_final = c.args.is_final; accepted = c.args.accepted })) in
    let k : ℕ = c.loop-place.place in
    let line : c.line_at.result ≡ get_or lines k end_line
    = c.line_at.ensures ∙ ap (λ s. get_or (sheet_lines s) k end_line) c.setup-setup.ensures.setup in
    let count : c.line_count-place-end.result ≡ length lines = c.line_count-place-end.ensures.count ∙ ap (λ s. length (sheet_lines s)) c.setup-setup.ensures.setup in (
      lines_printed _ _ _ _ _ _ text lines k end_line (omega (arith, count, c.loop-place-test.true)) c.loop-place.invariant.0 (rw (← line) c.in_ok-print_line.ensures.all),
      c.in_ok-print_line.ensures.room,
    )

pub returns-clause-all : goal.returns-clause-all
returns-clause-all g c =
    let lines : List SheetLine = sheet_lines c.args.sheet.now.totals.canton in
    let text = line_text (part_text c.args.sheet.now (record { desk = c.args.desk; is_final = c.args.is_final; accepted = c.args.accepted })) in
    let count : c.line_count-place-end.result ≡ length lines = c.line_count-place-end.ensures.count ∙ ap (λ s. length (sheet_lines s)) c.setup-setup.ensures.setup in
    sent_whole c.send.result _ _ _ _ _ _ (lines_all _ _ _ _ text lines c.loop-place.place (omega (arith, count, c.loop-place-test.false)) c.loop-place.invariant.0)
    c.send.ensures.sends c.send.ensures.empty

pub returns-clause-front : goal.returns-clause-front
returns-clause-front g c =
    let lines : List SheetLine = sheet_lines c.args.sheet.now.totals.canton in
    let text = line_text (part_text c.args.sheet.now (record { desk = c.args.desk; is_final = c.args.is_final; accepted = c.args.accepted })) in
    let count : c.line_count-place-end.result ≡ length lines = c.line_count-place-end.ensures.count ∙ ap (λ s. length (sheet_lines s)) c.setup-setup.ensures.setup in
    sent_front c.send.result _ _ _ _ _ (lines_all _ _ _ _ text lines c.loop-place.place (omega (arith, count, c.loop-place-test.false)) c.loop-place.invariant.0)
    c.send.ensures.front
