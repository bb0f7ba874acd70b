use Rattle.std.proofs.Common.{◌≡◌, ◌++◌, decimal, length, ap, ◌∙◌, arith, length-append}
use Rattle.std.proofs.lemmas.Fmt.{length-decimal-le}
use Rattle.zh_text.proofs.fixed_text.push_numbered.Goals as goal

-- a 32-bit number has at most ten digits
pub returns-clause-short : goal.returns-clause-short
returns-clause-short g c =
    let digits = length-decimal-le 10 c.args.number (omega arith) (omega (arith, c.ranges.number.fits)) (omega (arith, c.ranges.number.fits)) in
    let text : c.push_numeral.new.text.items ≡ (c.args.text.now.items ++ c.args.words.now) ++ decimal c.args.number =
    c.push_numeral.ensures.text ∙ ap (λ l. l ++ decimal c.from.result) c.push.ensures ∙ ap (λ n. (c.args.text.now.items ++ c.args.words.now) ++ decimal n) c.from.ensures in
    omega (arith, digits, ap length text, length-append (c.args.text.now.items ++ c.args.words.now) (decimal c.args.number), length-append c.args.text.now.items c.args.words.now)
