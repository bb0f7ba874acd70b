use Rattle.std.proofs.Common.{◌∙◌, ◌==◌, ℕ, List, drop, sym, ap}
use Rattle.std.specs.List.{list_all}
use Rattle.std.proofs.lemmas.Bool.{false≢true}
use Rattle.std.proofs.lemmas.List.{take_rest}
use Rattle.zh_returns.proofs.ZeroLemmas.{all_zeros}
use Rattle.zh_returns.proofs.FormatLemmas.{format_read}
use Rattle.zh_returns.proofs.payload.read_format.Goals as goal

pub returns-then-not-is_zero-clause-refused : goal.returns-then-not-is_zero-clause-refused
returns-then-not-is_zero-clause-refused c = λ format spelled.
    absurd (false≢true (sym c.if-not-is_zero.true ∙ c.is_zero.ensures ∙ ap (list_all (λ byte. byte == 0)) (take_rest c.args.bytes.now 1)
    ∙ ap (λ (bytes : List ℕ). list_all (λ byte. byte == 0) (drop 1 bytes)) (sym spelled) ∙ all_zeros 174))

pub returns-clause-read : goal.returns-clause-read
returns-clause-read c =
    format_read c.args.bytes.now c.format_of.result c.requires (ap (list_all (λ byte. byte == 0)) (sym (take_rest c.args.bytes.now 1))
    ∙ sym c.is_zero.ensures ∙ c.if-not-is_zero.false) c.format_of.ensures.read
