use Rattle.std.proofs.Common.{◌∙◌, true, false, refl, arith}
use Rattle.std.proofs.lemmas.List.{get_or_default}
use Rattle.std.proofs.lemmas.Result.{IfOk-from_err}
use Rattle.zh_upper.proofs.SpreadLemmas.{IsSpread-next, IsSpread-none, IsSpread-one_each, IsSpread-others, IsSpread-participants, IsSpread-seated, IsSpread-unseated}
use Rattle.zh_upper.proofs.apportionment.spread.Goals as goal
use Rattle.zh_upper.proofs.apportionment.spread.Goals.{then-takes_part+in_ok-push, else-takes_part+in_ok-push-2}

pub loop-takes_part-init : goal.loop-takes_part-init
loop-takes_part-init c = IsSpread-none c.args.seats.now c.args.taking.now c.in_ok-all.all.items c.requires c.in_ok-all.ensures.items

pub loop-takes_part-preserved : goal.loop-takes_part-preserved
loop-takes_part-preserved c =
    elim c.if-takes_part.branch [
      | then-takes_part+in_ok-push w ↦
          rw (w.all-is, w.next-is, w.in_ok-push.ensures.items)
          (IsSpread-seated c.args.seats.now c.args.taking.now c.loop-takes_part.all.items c.loop-takes_part.next c.loop-takes_part.takes_part-index _
          c.loop-takes_part.invariant c.loop-takes_part-test.true
          (get_or_default c.args.taking.now c.loop-takes_part.takes_part-index true false c.loop-takes_part-test.true ∙ w.if-takes_part.true) refl)
      | else-takes_part+in_ok-push-2 w ↦
          rw (w.all-is, w.next-is, w.in_ok-push-2.ensures.items)
          (IsSpread-unseated c.args.seats.now c.args.taking.now c.loop-takes_part.all.items c.loop-takes_part.next c.loop-takes_part.takes_part-index
          c.loop-takes_part.invariant c.loop-takes_part-test.true w.if-takes_part.false)
    ]

pub returns-clause-one_each : goal.returns-clause-one_each
returns-clause-one_each c =
    IsSpread-one_each c.args.seats.now c.args.taking.now c.loop-takes_part.all.items c.loop-takes_part.next c.loop-takes_part.takes_part-index
    c.loop-takes_part.invariant (omega arith)

pub returns-clause-participants : goal.returns-clause-participants
returns-clause-participants c =
    IsSpread-participants c.args.seats.now c.args.taking.now c.loop-takes_part.all.items c.loop-takes_part.next c.loop-takes_part.takes_part-index
    c.loop-takes_part.invariant (omega arith)

pub returns-clause-others : goal.returns-clause-others
returns-clause-others c =
    IsSpread-others c.args.seats.now c.args.taking.now c.loop-takes_part.all.items c.loop-takes_part.next c.loop-takes_part.takes_part-index
    c.loop-takes_part.invariant (omega arith)

pub bounds-seats-next : goal.bounds-seats-next
bounds-seats-next c =
    IsSpread-next c.args.seats.now c.args.taking.now c.loop-takes_part.all.items c.loop-takes_part.next c.loop-takes_part.takes_part-index
    c.loop-takes_part.invariant c.loop-takes_part-test.true
    (get_or_default c.args.taking.now c.loop-takes_part.takes_part-index true false c.loop-takes_part-test.true ∙ c.if-takes_part.true)

pub returns-in_err-push-clause-participants : goal.returns-in_err-push-clause-participants
returns-in_err-push-clause-participants c = IfOk-from_err _ _ c.from_residual-in_err-push.ensures.0

pub returns-in_err-push-clause-others : goal.returns-in_err-push-clause-others
returns-in_err-push-clause-others c = IfOk-from_err _ _ c.from_residual-in_err-push.ensures.0

pub returns-in_err-push-2-clause-others : goal.returns-in_err-push-2-clause-others
returns-in_err-push-2-clause-others c = IfOk-from_err _ _ c.from_residual-in_err-push-2.ensures.0

pub returns-in_err-push-2-clause-participants : goal.returns-in_err-push-2-clause-participants
returns-in_err-push-2-clause-participants c = IfOk-from_err _ _ c.from_residual-in_err-push-2.ensures.0

pub returns-in_err-push-clause-one_each : goal.returns-in_err-push-clause-one_each
returns-in_err-push-clause-one_each c = IfOk-from_err _ _ c.from_residual-in_err-push.ensures.0

pub returns-in_err-push-2-clause-one_each : goal.returns-in_err-push-2-clause-one_each
returns-in_err-push-2-clause-one_each c = IfOk-from_err _ _ c.from_residual-in_err-push-2.ensures.0
