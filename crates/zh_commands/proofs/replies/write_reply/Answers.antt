use Rattle.std.proofs.Common.{◌≡◌, ◌++◌, [], ◌∷◌, decimal, length, ap, ◌∙◌, arith, length-append}
use Rattle.std.proofs.lemmas.Grind.{common_steps}
use Rattle.std.proofs.lemmas.Fmt.{length-decimal-le}
use Rattle.zh_commands.proofs.replies.write_reply.Goals as goal

-- a desk has at most three digits
pub push_answer-requires : goal.push_answer-requires
push_answer-requires c =
    let digits = length-decimal-le 3 c.args.desk (omega arith) (omega (arith, c.ranges.desk.fits)) (omega (arith, c.ranges.desk.fits)) in
    let text : c.push.new.text.items ≡ decimal c.args.desk ++ 32 ∷ [] =
    c.push.ensures ∙ ap (λ l. l ++ 32 ∷ []) (c.push_numeral.ensures.text ∙ ap (λ l. l ++ decimal c.from.result) c.new-text.ensures ∙ ap decimal c.from.ensures) in
    omega (arith, digits, ap length text, length-append (decimal c.args.desk) (32 ∷ []))

pub returns-clause-text : goal.returns-clause-text
returns-clause-text c = grind (arith, common_steps)
