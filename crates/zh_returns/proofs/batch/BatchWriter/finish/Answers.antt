use Rattle.std.proofs.Common.{◌*◌, ◌∙◌, length, take, sym, ap, subst, arith}
use Rattle.std.specs.List.{flat_map}
use Rattle.zh_returns.specs.Pushed.{Pushed}
use Rattle.zh_returns.specs.RowBytes.{rows_from}
use Rattle.zh_returns.specs.Rows.{row_spelling, IsBatch}
use Rattle.zh_returns.proofs.RowBytesLemmas.{rows_are}
use Rattle.zh_returns.proofs.batch.BatchWriter.finish.Goals as goal

pub new-requires-clause-spelling : goal.new-requires-clause-spelling
new-requires-clause-spelling c =
    let n = c.self.inside.count in
    let bytes = c.self.inside.bytes.now in
    let same = rows_are (rows_from n bytes) (take (11 * n) bytes) c.self.invariant.rows.speakable c.self.invariant.spelling in
    ap (flat_map row_spelling) same.same ∙ c.self.invariant.spelling

pub new-requires-clause-batch : goal.new-requires-clause-batch
new-requires-clause-batch c =
    let n = c.self.inside.count in
    let bytes = c.self.inside.bytes.now in
    let same = rows_are (rows_from n bytes) (take (11 * n) bytes) c.self.invariant.rows.speakable c.self.invariant.spelling in
    let view = ap (λ (p : Pushed). length p.rows) c.self.view_is in
    subst IsBatch (sym same.same) (record { some = omega (arith, c.requires); are_rows = c.self.invariant.rows })

pub returns-clause-rows : goal.returns-clause-rows
returns-clause-rows c =
    let n = c.self.inside.count in
    let bytes = c.self.inside.bytes.now in
    let same = rows_are (rows_from n bytes) (take (11 * n) bytes) c.self.invariant.rows.speakable c.self.invariant.spelling in
    c.new.ensures ∙ same.same ∙ ap (λ (p : Pushed). p.rows) c.self.view_is
