use Rattle.std.proofs.Common.{◌≡◌, ℕ, ◌+◌, ◌-◌, ◌*◌, ◌/◌, ◌%◌, length, ap, sym, ◌∙◌, arith}
use Rattle.zh_sheet_text.specs.Layout.{group_line, list_line}
use Rattle.zh_sheet_text.proofs.LayoutLemmas.{end_at, group_at, list_at, row_at}
use Rattle.zh_sheet_text.proofs.sheet_writer.line_below.Goals as goal

pub returns-then-place-rows : goal.returns-then-place-rows
returns-then-place-rows c =
    c.constituency_line.ensures ∙ sym (row_at c.args.setup.now c.args.place (omega (arith, c.if-place-rows.true, c.constituencies-rows.ensures.count)))

pub returns-then-of_group-columns : goal.returns-then-of_group-columns
returns-then-of_group-columns c =
    let m : ℕ = length c.args.setup.now.constituencies in
    let rows : c.constituencies-rows.result ≡ m = c.constituencies-rows.ensures.count in
    c.group_line.ensures
    ∙ (ap (λ r. group_line (c.args.place - r + 1)) rows
    ∙ sym (group_at c.args.setup.now c.args.place (omega (arith, c.if-place-rows.false, rows))
    (omega (arith, c.if-of_group-columns.true, rows, c.groups-columns.ensures.count))))

pub returns-then-of_list-rows : goal.returns-then-of_list-rows
returns-then-of_list-rows c =
    let n : ℕ = length c.args.setup.now.groups in
    let rows = c.constituencies-rows.ensures.count in
    let columns : c.groups-columns.result ≡ n = c.groups-columns.ensures.count in
    let p : ℕ = c.args.place - c.constituencies-rows.result - c.groups-columns.result in
    c.list_line.ensures
    ∙ (ap (λ k. list_line c.args.setup.now (p / k + 1) (p % k + 1)) columns
    ∙ sym (list_at c.args.setup.now c.args.place p (omega (arith, c.if-place-rows.false, rows))
    (omega (arith, c.if-of_group-columns.false, rows, columns)) (omega (arith, rows, columns))
    (omega (arith, c.if-of_list-rows.true, ap (λ r. r * c.groups-columns.result) rows, ap (λ k. length c.args.setup.now.constituencies * k) columns))))

pub returns : goal.returns
returns c =
    let rows = c.constituencies-rows.ensures.count in
    let columns = c.groups-columns.ensures.count in
    let p : ℕ = c.args.place - c.constituencies-rows.result - c.groups-columns.result in
    c.end_line.ensures
    ∙ sym (end_at c.args.setup.now c.args.place p (omega (arith, c.if-place-rows.false, rows))
    (omega (arith, c.if-of_group-columns.false, rows, columns)) (omega (arith, rows, columns))
    (omega (arith, c.if-of_list-rows.false, ap (λ r. r * c.groups-columns.result) rows, ap (λ k. length c.args.setup.now.constituencies * k) columns)))
