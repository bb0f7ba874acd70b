use Rattle.std.proofs.Common.{arith}
use Rattle.zh_returns.proofs.NumeralLemmas.{row_read}
use Rattle.zh_returns.proofs.row.row_of.Goals as goal

pub returns-clause-spelling : goal.returns-clause-spelling
returns-clause-spelling c =
    row_read c.args.bytes.now c.read_u16.result c.read_u32.result c.read_u32-2.result (omega arith) (λ i. omega (arith, c.type_inv.bytes i)) c.read_u16.ensures c.read_u32.ensures c.read_u32-2.ensures
