use Rattle.std.proofs.Common.{arith}
use Rattle.zh_office.proofs.TextLemmas.{none_found, parted}
use Rattle.zh_office.proofs.line_cutter.split_line.Goals as goal

pub returns-in_err-end : goal.returns-in_err-end
returns-in_err-end c =
    rw c.from_residual.ensures (none_found c.args.bytes.now (λ k k_in. c.in_err-end.ensures k (omega arith) k_in))

pub returns : goal.returns
returns c =
    let first = c.in_ok-end.ensures in
    parted c.args.bytes.now c.in_ok-end.end first.0.high first.1 (λ k k_in. first.0.before k (omega arith) k_in)
