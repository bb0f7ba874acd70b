use Rattle.std.proofs.Common.{◌+◌, ◌∙◌, ◌++◌, ◌∷◌, [], ap, sym, arith}
use Rattle.zh_sheet.proofs.SeatedLemmas.{seated_no, seated_yes}
use Rattle.zh_sheet.proofs.list_question.seated_groups.Goals.{then-seats-gt0+in_ok-push, else-seats-gt0}
use Rattle.zh_sheet.proofs.list_question.seated_groups.Goals as goal

pub loop-place-preserved : goal.loop-place-preserved
loop-place-preserved c = elim c.if-seats-gt0.branch [
  | then-seats-gt0+in_ok-push w ↦
      rw w.seated-is (w.in_ok-push.ensures.items
      ∙ (ap (λ xs. xs ++ (c.loop-place.place + 1) ∷ []) c.loop-place.invariant
      ∙ sym (seated_yes c.args.upper.now.seats c.loop-place.place (omega (arith, w.if-seats-gt0.true, c.seats.ensures)))))
  | else-seats-gt0 w ↦
      rw w.seated-is (c.loop-place.invariant ∙ sym (seated_no c.args.upper.now.seats c.loop-place.place (omega (arith, w.if-seats-gt0.false, c.seats.ensures))))
]
