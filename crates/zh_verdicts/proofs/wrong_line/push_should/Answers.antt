use Rattle.std.proofs.Common.{◌≡◌, ◌++◌, ◌∙◌, ℕ, List, OnOk, codes, subst, sym}
use Rattle.zh_verdicts.specs.Wrong.{shown_line}
use Rattle.zh_verdicts.proofs.PutLemmas.{put_after}
use Rattle.zh_verdicts.proofs.ShownLemmas.{missing_end}
use Rattle.zh_verdicts.proofs.wrong_line.push_should.Goals as goal

pub returns-then-lacks_end : goal.returns-then-lacks_end
returns-then-lacks_end c =
    let old : List ℕ = c.args.text.now.items in
    let new : List ℕ = c.extend_from_slice-then-lacks_end.new.self.items in
    subst (λ (t : List ℕ). OnOk c.extend_from_slice-then-lacks_end.result (new ≡ old ++ t))
    (missing_end c.args.found.now c.args.should.now (sym c.is_empty.ensures ∙ c.if-is_empty.false) (sym c.lacks_end.ensures ∙ c.if-lacks_end.true))
    (put_after c.extend_from_slice-then-lacks_end.result old c.push_shown_line.new.text.items new (shown_line c.args.should.now) (codes " and a line end")
    c.in_ok-push_shown_line.ensures c.extend_from_slice-then-lacks_end.ensures.items)
