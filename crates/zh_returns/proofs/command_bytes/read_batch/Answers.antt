use Rattle.std.proofs.Common.{◌≡◌, ◌∙◌, List, length, take, drop, sym, ap, arith}
use Rattle.std.specs.Int.{w16, to_be_bytes}
use Rattle.byteorder.specs.Endian.{big_number}
use Rattle.zh_returns.specs.declared.row.Row.{Row}
use Rattle.zh_returns.specs.Rows.{IsBatch}
use Rattle.zh_returns.proofs.RowBytesLemmas.{batch_spelling, rows_are}
use Rattle.zh_returns.proofs.command_bytes.read_batch.Goals as goal

-- the number of rows at the front is a different one
refused : (c : goal.Then-len-read_u16) (rows : List Row) → IsBatch rows → batch_spelling rows ≡ c.args.bytes.now → ⊥
refused c rows batch spelled =
    let behind = c.split_at.result.1.now in
    let read = c.in_ok-rows.ensures.read in
    let same = rows_are rows behind batch.are_rows.speakable (ap (drop 2) spelled ∙ sym c.split_at.ensures.back) in
    let found = rows_are c.in_ok-rows.rows behind read.0.are_rows.speakable read.1 in
    let count : length c.in_ok-rows.rows ≡ length rows = ap (λ (rs : List Row). length rs) (sym found.same ∙ same.same) in
    let number : c.read_u16.result ≡ big_number 2 (to_be_bytes w16 (length rows)) = c.read_u16.ensures ∙ ap (big_number 2) (c.split_at.ensures.front ∙ ap (take 2) (sym spelled)) in
    c.if-len-read_u16.true (omega (arith, c.len.ensures.count, batch.are_rows.most))

pub returns-then-len-read_u16 : goal.returns-then-len-read_u16
returns-then-len-read_u16 c = record { read = tt; refused = refused c }
