use Rattle.std.proofs.Common.{◌<◌, ◌≤◌, ◌+◌, ◌*◌, ◌/◌, ◌∙◌, List, Some, length, sym, ap, arith, rules}
use Rattle.std.specs.Prelude.{slice_get}
use Rattle.std.proofs.lemmas.Option.{slice_get-get_or}
use Rattle.zh_returns.specs.declared.row.Row.{Row}
use Rattle.zh_returns.specs.RowBytes.{rows_in}
use Rattle.zh_returns.proofs.RowBytesLemmas.{length-rows_from, row_read_at}
use Rattle.zh_returns.proofs.rows.Rows.get.Goals as goal

pub slice_bounds-row_of-end : goal.slice_bounds-row_of-end
slice_bounds-row_of-end c =
    let bytes = c.self.inside.bytes.now in
    let count = length-rows_from (length bytes / 11) bytes in
    let same = ap (λ (rows : List Row). length rows) c.self.view_is in
    let within : 11 * c.args.i + 11 ≤ length bytes = omega arith in
    search rules

pub returns : goal.returns
returns c =
    let bytes = c.self.inside.bytes.now in
    let i = c.args.i in
    let count = length-rows_from (length bytes / 11) bytes in
    let same = ap (λ (rows : List Row). length rows) c.self.view_is in
    let within : i < length (rows_in bytes) = omega arith in
    ap (λ (rows : List Row). slice_get rows i) (sym c.self.view_is)
    ∙ slice_get-get_or (rows_in bytes) i c.row_of.result within
    ∙ ap Some (row_read_at bytes i c.row_of.result c.row_of.result (omega arith) c.row_of.ensures.row)
