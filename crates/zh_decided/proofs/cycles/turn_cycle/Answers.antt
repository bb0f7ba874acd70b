use Rattle.std.proofs.Common.{◌≡◌, ℕ, ◌*◌, subst, arith}
use Rattle.zh_matrices.specs.Asked.{asked}
use Rattle.zh_decided.specs.Sweeps.{CanPass, step_at}
use Rattle.zh_decided.specs.Prices.{cells, priced}
use Rattle.zh_matrices.specs.Question.{Question}
use Rattle.zh_matrices.proofs.CallerLemmas.{few-in-cell}
use Rattle.zh_decided.proofs.TightLemmas.{differs, tight, turned-fair}
use Rattle.zh_decided.proofs.CycleTurnLemmas.{AreTurned, AreTurned-more, AreTurned-start, fits-turned, turned}
use Rattle.zh_decided.proofs.cycles.turn_cycle.Goals as goal

pub loop-place-init : goal.loop-place-init
loop-place-init c = AreTurned-start (asked c.args.question.now) c.args.cycle.now c.args.seats.now c.requires.fits

pub pass-requires-clause-seats : goal.pass-requires-clause-seats
pass-requires-clause-seats c = c.loop-place.invariant.one_each

pub pass-requires-clause-giver : goal.pass-requires-clause-giver
pass-requires-clause-giver c =
    let can : CanPass (cells (asked c.args.question.now) c.args.seats.now) (step_at c.args.cycle.now.steps c.loop-place.place)
    = c.requires.circle.can_pass c.loop-place.place c.loop-place-test.true in can.giver

pub pass-requires-clause-taker : goal.pass-requires-clause-taker
pass-requires-clause-taker c =
    let can : CanPass (cells (asked c.args.question.now) c.args.seats.now) (step_at c.args.cycle.now.steps c.loop-place.place)
    = c.requires.circle.can_pass c.loop-place.place c.loop-place-test.true in can.taker

pub pass-requires-clause-column : goal.pass-requires-clause-column
pass-requires-clause-column c =
    let can : CanPass (cells (asked c.args.question.now) c.args.seats.now) (step_at c.args.cycle.now.steps c.loop-place.place)
    = c.requires.circle.can_pass c.loop-place.place c.loop-place-test.true in can.column

pub pass-requires-clause-seat : goal.pass-requires-clause-seat
pass-requires-clause-seat c =
    let can : CanPass (cells (asked c.args.question.now) c.args.seats.now) (step_at c.args.cycle.now.steps c.loop-place.place)
    = c.requires.circle.can_pass c.loop-place.place c.loop-place-test.true in
    omega (
      arith,
      can.seat,
      c.loop-place.invariant.untouched c.loop-place.place (step_at c.args.cycle.now.steps c.loop-place.place).giver (omega arith)
          c.loop-place-test.true can.giver,
    )

pub pass-requires-clause-few : goal.pass-requires-clause-few
pass-requires-clause-few c =
    let can : CanPass (cells (asked c.args.question.now) c.args.seats.now) (step_at c.args.cycle.now.steps c.loop-place.place)
    = c.requires.circle.can_pass c.loop-place.place c.loop-place-test.true in
    omega (
      arith,
      c.loop-place.invariant.untouched c.loop-place.place (step_at c.args.cycle.now.steps c.loop-place.place).taker (omega arith)
          c.loop-place-test.true can.taker,
      few-in-cell (asked c.args.question.now) c.args.seats.now c.requires.totals c.requires.fits.rows_add_up (step_at c.args.cycle.now.steps
          c.loop-place.place).taker
          (step_at c.args.cycle.now.steps c.loop-place.place).column can.taker can.column,
    )

pub loop-place-preserved : goal.loop-place-preserved
loop-place-preserved c =
    AreTurned-more (asked c.args.question.now) c.args.cycle.now c.loop-place.place c.args.seats.now c.loop-place.seats c.pass.new.seats
    c.requires.totals c.requires.fits c.requires.circle c.loop-place-test.true c.loop-place.invariant c.pass.ensures

pub returns-clause-fits : goal.returns-clause-fits
returns-clause-fits c =
    let all : c.loop-place.place ≡ c.args.cycle.now.length = omega arith in
    let P : ℕ → Type 0 = λ k. AreTurned (asked c.args.question.now) c.args.cycle.now k c.args.seats.now c.loop-place.seats in
    fits-turned (asked c.args.question.now) c.args.cycle.now c.args.seats.now c.loop-place.seats c.requires.fits c.requires.circle
    (subst P all c.loop-place.invariant)

pub returns-clause-turned : goal.returns-clause-turned
returns-clause-turned c =
    let all : c.loop-place.place ≡ c.args.cycle.now.length = omega arith in
    let P : ℕ → Type 0 = λ k. AreTurned (asked c.args.question.now) c.args.cycle.now k c.args.seats.now c.loop-place.seats in
    turned (asked c.args.question.now) c.args.cycle.now c.args.seats.now c.loop-place.seats (subst P all c.loop-place.invariant)

pub returns-clause-fair : goal.returns-clause-fair
returns-clause-fair c l bounds more x y logs cycle fair =
    let q : Question = asked c.args.question.now in
    let all : c.loop-place.place ≡ c.args.cycle.now.length = omega arith in
    let P : ℕ → Type 0 = λ k. AreTurned q c.args.cycle.now k c.args.seats.now c.loop-place.seats in
    let T : AreTurned q c.args.cycle.now c.args.cycle.now.length c.args.seats.now c.loop-place.seats = subst P all c.loop-place.invariant in
    turned-fair q l bounds c.args.seats.now c.loop-place.seats c.args.cycle.now x y (c.args.cycle.now.length * more) logs c.requires.totals
    (fits-turned q c.args.cycle.now c.args.seats.now c.loop-place.seats c.requires.fits c.requires.circle T) fair c.requires.circle
    (tight (priced q l c.args.seats.now) bounds c.args.cycle.now x y more fair cycle)
    (turned q c.args.cycle.now c.args.seats.now c.loop-place.seats T)

pub returns-clause-another : goal.returns-clause-another
returns-clause-another c l slack cycle gap =
    let q : Question = asked c.args.question.now in
    let all : c.loop-place.place ≡ c.args.cycle.now.length = omega arith in
    let P : ℕ → Type 0 = λ k. AreTurned q c.args.cycle.now k c.args.seats.now c.loop-place.seats in
    let T : AreTurned q c.args.cycle.now c.args.cycle.now.length c.args.seats.now c.loop-place.seats = subst P all c.loop-place.invariant in
    differs q l slack c.args.seats.now c.loop-place.seats c.args.cycle.now cycle
    (turned q c.args.cycle.now c.args.seats.now c.loop-place.seats T) gap

pub returns-clause-cost : goal.returns-clause-cost
returns-clause-cost c l logs =
    let all : c.loop-place.place ≡ c.args.cycle.now.length = omega arith in
    let P : ℕ → Type 0 = λ k. AreTurned (asked c.args.question.now) c.args.cycle.now k c.args.seats.now c.loop-place.seats in
    let T : AreTurned (asked c.args.question.now) c.args.cycle.now c.args.cycle.now.length c.args.seats.now c.loop-place.seats
    = subst P all c.loop-place.invariant in
    T.costs l logs
