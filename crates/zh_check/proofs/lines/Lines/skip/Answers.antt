use Rattle.std.proofs.Common.{◌≡◌, ℕ, suc, ◌+◌, ◌-◌, ap, sym, ◌∙◌, arith}
use Rattle.zh_check.specs.Lines.{after_lines}
use Rattle.zh_check.proofs.lines.Lines.skip.Goals as goal

pub loop-preserved : goal.loop-preserved
loop-preserved c =
    let n : ℕ = c.args.count - (c.loop.counter + 1) in
    let one : c.args.count - c.loop.counter ≡ suc n = omega arith in
    ap (after_lines n) c.next.ensures.rest ∙ (ap (λ m. after_lines m c.loop.self) (sym one) ∙ c.loop.invariant)
