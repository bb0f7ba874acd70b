use Rattle.std.proofs.Common.{◌+◌, ap, sym, ◌∙◌, take, arith}
use Rattle.std.specs.List.{position_or_len}
use Rattle.std.proofs.lemmas.List.{take_all}
use Rattle.zh_check.specs.Lines.{ends_line, whole_line}
use Rattle.zh_check.proofs.LineLemmas.{found_at, not_found}
use Rattle.zh_check.proofs.lines.with_end.Goals as goal

pub returns-in-Some : goal.returns-in-Some
unfolding whole_line
returns-in-Some c =
    ap (λ n. take (n + 1) c.args.text.now) (sym (found_at ends_line c.args.text.now c.in-Some.place (sym c.first_place.ensures ∙ c.in-Some.is)))

pub returns-in-None : goal.returns-in-None
unfolding whole_line
returns-in-None c =
    let past = not_found ends_line c.args.text.now (sym c.first_place.ensures ∙ c.in-None.is) in
    sym (take_all (position_or_len ends_line c.args.text.now + 1) c.args.text.now (omega (arith, past)))
