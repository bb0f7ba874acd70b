use Rattle.std.proofs.Common.{◌∙◌, List, ℕ, length, ap, arith}
use Rattle.std.proofs.lemmas.Grind.{common_steps}
use Rattle.zh_returns.specs.Rows.{row_spelling}
use Rattle.zh_returns.proofs.RowBytesLemmas.{rows_wide}
use Rattle.zh_returns.proofs.BlockLemmas.{length-blocks}
use Rattle.zh_returns.proofs.command_bytes.write_batch.Goals as goal

pub copy_from_slice-requires : goal.copy_from_slice-requires
copy_from_slice-requires c =
    let bytes = ap (λ (b : List ℕ). length b) c.bytes.ensures ∙ length-blocks row_spelling 11 rows_wide c.args.rows.now in
    grind (arith, common_steps, bytes)
