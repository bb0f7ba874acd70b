use Rattle.std.proofs.Common.{◌++◌, ap, sym, ◌∙◌}
use Rattle.zh_commands.proofs.RequestLemmas.{NoRequest-word, Reads-lone, Reads-numbers, other_word-bytes}
use Rattle.zh_commands.proofs.parser.request_of.Goals as goal

pub returns-in_default : goal.returns-in_default
returns-in_default c =
    let split = c.split_word.ensures in
    NoRequest-word _ _ _ split.word split.whole (other_word-bytes _ c.in_default.ensures.cases.0)

pub returns-in-Some : goal.returns-in-Some
returns-in-Some c =
    let split = c.split_word.ensures in
    let (fits, none, word) = c.in-Some.ensures in
    Reads-lone _ _ _ _ _ split.word split.whole fits none (sym c.in-Ok.ensures.cases.0 ∙ word) c.alone.ensures

pub returns-in-None : goal.returns-in-None
returns-in-None c =
    let split = c.split_word.ensures in
    let word = c.in-Ok.ensures.cases.0 in
    Reads-numbers _ _ _ _ (word ∙ split.word) (split.whole ∙ ap (λ l. l ++ c.split_word.result.1.now) (sym word)) c.in-None.ensures c.numbered_request.ensures
