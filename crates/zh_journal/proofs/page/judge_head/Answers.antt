use Rattle.std.proofs.Common.{◌≡◌, ◌+◌, ◌*◌, ℕ, List, arith, refl, sym, ◌∙◌, ap}
use Rattle.std.specs.Prelude.{slice_index}
use Rattle.zh_journal.proofs.BodyLemmas.{slice_at}
use Rattle.zh_journal.proofs.HeadLemmas.{head_record}
use Rattle.zh_journal.proofs.page.judge_head.Goals as goal

pub returns-clause-head : goal.returns-clause-head
returns-clause-head c = λ b at fits is.
    let into = c.args.head.now in
    let first : at + 0 ≡ at = omega arith in
    let gate : slice_index b at ≡ 165 = sym (ap (slice_index b) first) ∙ sym (slice_at b at (at + 4) 0 (omega arith)) ∙ sym (ap (λ (l : List ℕ). slice_index l 0) is) ∙ c.if-head.false in (
      gate,
      head_record b into at c.args.left (256 * slice_index into 2 + slice_index into 3) fits is refl (omega arith) (omega arith)
          (sym c.pages_of.ensures ∙ c.if-pages_of-pages.false) c.if-pages-left.false,
    )
