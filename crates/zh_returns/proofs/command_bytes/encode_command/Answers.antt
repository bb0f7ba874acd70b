use Rattle.std.proofs.Common.{length, ap, arith}
use Rattle.zh_returns.specs.declared.command.Command.{Command}
use Rattle.zh_returns.specs.declared.command.Format.TheVariants.{Two}
use Rattle.zh_returns.specs.Spelling.{command_spelling}
use Rattle.zh_returns.proofs.RowBytesLemmas.{length-batch}
use Rattle.zh_returns.proofs.command_bytes.encode_command.Goals as goal

pub write_batch-requires : goal.write_batch-requires
write_batch-requires c =
    let whole = ap (λ (x : Command). length (command_spelling Two x)) c.in-Batch.is in
    omega (arith, whole, length-batch c.in-Batch.rows, c.requires.room)

pub returns-in-Batch-clause-length : goal.returns-in-Batch-clause-length
returns-in-Batch-clause-length c =
    let whole = ap (λ (x : Command). length (command_spelling Two x)) c.in-Batch.is in
    omega (arith, whole, length-batch c.in-Batch.rows, c.write_batch.ensures.length)
