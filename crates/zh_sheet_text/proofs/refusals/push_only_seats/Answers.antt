use Rattle.std.proofs.Common.{◌≡◌, ℕ, ◌++◌, ◌∙◌, List, ap, append_assoc, codes, length, arith}
use Rattle.zh_text.specs.Each.{each_to}
use Rattle.zh_sheet_text.specs.Refusals.{seats_line_of}
use Rattle.zh_text.proofs.CallerLemmas.{gathered-next}
use Rattle.zh_sheet_text.proofs.refusals.push_only_seats.Goals as goal

pub loop-place-preserved : goal.loop-place-preserved
loop-place-preserved c =
    gathered-next (λ d. each_to (length c.args.lists.now.groups) (seats_line_of c.args.lists.now d))
    (c.args.out.now.items ++ codes ": no sheet, but these are the only seats") c.loop-place.out.items c.push_lists.new.out.items
    c.loop-place.place c.loop-place.invariant c.in_ok-push_lists.ensures

pub returns : goal.returns
returns c =
    let words : List ℕ = codes ": no sheet, but these are the only seats" in
    let lines : ℕ → List ℕ = λ d. each_to (length c.args.lists.now.groups) (seats_line_of c.args.lists.now d) in
    let all : c.loop-place.place ≡ c.args.lists.now.constituencies
    = omega (arith, c.loop-place-test.false, c.loop-place.auto.place-end, c.constituencies-place-end.ensures) in
    c.loop-place.invariant ∙ append_assoc c.args.out.now.items words (each_to c.loop-place.place lines)
    ∙ ap (λ (n : ℕ). c.args.out.now.items ++ (words ++ each_to n lines)) all
