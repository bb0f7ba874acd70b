use Rattle.std.proofs.Common.{◌++◌, ◌∙◌, ◌-◌, ◌≡◌, ap, arith, decimal, length, replicate}
use Rattle.std.proofs.lemmas.List.{length-replicate}
use Rattle.zh_text.specs.Numbers.{padded}
use Rattle.zh_text.proofs.NumberLemmas.{length-padded, short, zeros_put}
use Rattle.zh_text.proofs.numbers.padded.Goals as goal

pub slice_bounds-zeros-count : goal.slice_bounds-zeros-count
slice_bounds-zeros-count c =
    omega (arith, short c.args.digits c.args.number c.requires.some c.requires.small c.ranges.number.fits, ap length c.format-written.ensures.text)

pub push-requires : goal.push-requires
push-requires c =
    let zeros = zeros_put _ _ _ c.args.digits c.args.number c.requires.few c.new-text.ensures c.format-written.ensures.text c.push_bytes.ensures in
    omega (
      arith,
      c.requires.few,
      short c.args.digits c.args.number c.requires.some c.requires.small c.ranges.number.fits,
      ap length zeros ∙ length-replicate (c.args.digits - length (decimal c.args.number)) 48,
      ap length c.format-written.ensures.text,
    )

pub returns-clause-text : goal.returns-clause-text
returns-clause-text c =
    let zeros = zeros_put _ _ _ c.args.digits c.args.number c.requires.few c.new-text.ensures c.format-written.ensures.text c.push_bytes.ensures in
    c.push.ensures ∙ ap (λ l. l ++ c.format-written.result.now) zeros ∙ ap (λ l. replicate (c.args.digits - length (decimal c.args.number)) 48 ++ l) c.format-written.ensures.text

pub returns-clause-long : goal.returns-clause-long
returns-clause-long c =
    let few = short c.args.digits c.args.number c.requires.some c.requires.small c.ranges.number.fits in
    let zeros = zeros_put _ _ _ c.args.digits c.args.number c.requires.few c.new-text.ensures c.format-written.ensures.text c.push_bytes.ensures in
    let text : c.push.new.text.items ≡ padded c.args.digits c.args.number
    = c.push.ensures ∙ ap (λ l. l ++ c.format-written.result.now) zeros ∙ ap (λ l. replicate (c.args.digits - length (decimal c.args.number)) 48 ++ l) c.format-written.ensures.text in
    ap length text ∙ length-padded c.args.digits c.args.number few
