use Rattle.std.proofs.Common.{ℕ, ◌-◌, ◌^◌, [], ◌∷◌, min, take, get_or, ap, sym, ◌∙◌, arith}
use Rattle.std.proofs.lemmas.List.{take_more}
use Rattle.zh_check.specs.Lines.{digits_after}
use Rattle.zh_check.proofs.DigitLemmas.{after_append}
use Rattle.zh_check.proofs.lines.number_of_word.Goals as goal

pub loop-byte-preserved : goal.loop-byte-preserved
loop-byte-preserved c =
    let i : ℕ = c.loop-byte.byte-index in
    c.with_digit-number.ensures (digits_after 0 (take i c.args.word.now)) c.loop-byte.invariant
    ∙ ap (λ n. min n (2 ^ 64 - 1))
    (sym (after_append (take i c.args.word.now) (get_or c.args.word.now i 0 ∷ []) 0) ∙ ap (digits_after 0) (sym (take_more c.args.word.now i 0 (omega arith))))
