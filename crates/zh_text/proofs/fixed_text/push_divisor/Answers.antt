use Rattle.std.proofs.Common.{◌≡◌, ◌∙◌, ap, arith, length, length-append}
use Rattle.zh_text.specs.Numbers.{millionths_text}
use Rattle.zh_text.proofs.NumberLemmas.{divisor}
use Rattle.zh_text.proofs.fixed_text.push_divisor.Goals as goal

pub push_bytes-requires : goal.push_bytes-requires
push_bytes-requires g c =
    let is : c.deref.result.now ≡ millionths_text c.args.millionths = c.deref.ensures.0 ∙ (c.millionths_text.ensures ∙ ap millionths_text c.from.ensures) in
    omega (arith, divisor c.args.millionths c.ranges.millionths.fits, ap length is, c.requires)

pub returns-clause-short : goal.returns-clause-short
returns-clause-short g c =
    let is : c.deref.result.now ≡ millionths_text c.args.millionths = c.deref.ensures.0 ∙ (c.millionths_text.ensures ∙ ap millionths_text c.from.ensures) in
    omega (arith, divisor c.args.millionths c.ranges.millionths.fits, ap length is, ap length c.push_bytes.ensures, length-append c.args.text.now.items c.deref.result.now)
