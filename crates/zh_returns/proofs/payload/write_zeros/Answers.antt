use Rattle.std.proofs.Common.{◌∙◌, length}
use Rattle.zh_returns.proofs.ZeroLemmas.{zeros_filled}
use Rattle.zh_returns.proofs.payload.write_zeros.Goals as goal

pub returns : goal.returns
returns c = c.fill.ensures.after (λ y is. is) ∙ zeros_filled (length c.args.out.now)
