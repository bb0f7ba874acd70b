use Rattle.zh_text.proofs.DecimalLemmas.{IsInRange-from_decimal, IsUtf8-from_decimal, MatchOption-from_parse}
use Rattle.zh_text.proofs.numbers.numeral.Goals as goal

pub returns-then-not-is_plain : goal.returns-then-not-is_plain
returns-then-not-is_plain c n small e =
    let plain = c.is_plain.ensures.1 (IsInRange-from_decimal _ n small e) in
    let not = c.if-not-is_plain.true in
    cc

pub returns-in_default : goal.returns-in_default
returns-in_default c n small e = c.in_default.ensures.cases.0 (IsUtf8-from_decimal _ n small e)

pub returns : goal.returns
returns c =
    let plain = c.is_plain.ensures.0 c.if-not-is_plain.false in
    rw c.ok.ensures.value
    (MatchOption-from_parse c.args.word.now _ plain (rw c.in-Ok.ensures.cases.0 at c.parse.ensures.value.0))
