use Rattle.zh_matrices.specs.Asked.{asked}
use Rattle.std.proofs.Common.{ℕ, refl, arith}
use Rattle.std.proofs.lemmas.List.{length-set}
use Rattle.zh_divisors.proofs.CallerLemmas.{cell-within}
use Rattle.zh_decided.proofs.PassLemmas.{PassesOn-of}
use Rattle.zh_decided.proofs.cycles.pass.Goals as goal

pub bounds-seats-step : goal.bounds-seats-step
bounds-seats-step c = omega (arith, c.requires.seats, cell-within c.args.question.now.rows c.args.question.now.columns c.args.step.giver c.args.step.column c.requires.giver c.requires.column)

pub overflow_sub-seats : goal.overflow_sub-seats
overflow_sub-seats c = omega (arith, c.requires.seat)

pub bounds-seats-step-2 : goal.bounds-seats-step-2
bounds-seats-step-2 c = omega (arith, c.requires.seats, cell-within c.args.question.now.rows c.args.question.now.columns c.args.step.giver c.args.step.column c.requires.giver c.requires.column)

pub bounds-seats-step-3 : goal.bounds-seats-step-3
bounds-seats-step-3 c = omega (arith, c.requires.seats, length-set {A = ℕ}, cell-within c.args.question.now.rows c.args.question.now.columns c.args.step.taker c.args.step.column c.requires.taker c.requires.column)

pub bounds-seats-step-4 : goal.bounds-seats-step-4
bounds-seats-step-4 c = omega (arith, c.requires.seats, length-set {A = ℕ}, cell-within c.args.question.now.rows c.args.question.now.columns c.args.step.taker c.args.step.column c.requires.taker c.requires.column)

pub returns : goal.returns
returns c =
    PassesOn-of (asked c.args.question.now) c.args.seats.now c.args.step c.requires.seats c.requires.giver c.requires.taker
    c.requires.column
    c.requires.seat _ refl
