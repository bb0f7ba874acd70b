use Rattle.std.proofs.Common.{◌≡◌, ℕ, ◌+◌, ◌*◌, ◌<◌, ◌≤◌, All, length, sym, ap, subst, arith, mul_comm}
use Rattle.std.proofs.lemmas.Nat.{mul-add-lt}
use Rattle.zh_check.specs.Reading.{lines_above}
use Rattle.zh_check.specs.Totals.{constituency_sum, spaced_sum}
use Rattle.zh_check.proofs.SizeLemmas.{length-seats}
use Rattle.zh_check.proofs.TotalLemmas.{few_read, off_among, row_sum}
use Rattle.zh_check.proofs.reasons.first_off_constituency.Goals as goal

pub first_unmet-requires-clause-few : goal.first_unmet-requires-clause-few
first_unmet-requires-clause-few c = subst (λ xs. All (λ s. s ≤ 400) xs) (sym c.requires.seats) (few_read c.args.setup.now c.args.text.now)

pub first_unmet-requires-clause-there : goal.first_unmet-requires-clause-there
first_unmet-requires-clause-there c line k lt within =
    let m : ℕ = length c.args.setup.now.constituencies in
    let n : ℕ = length c.args.setup.now.groups in
    let place : line * c.groups-groups.result + k * 1 ≡ line * n + k * 1 = ap (λ g. line * g + k * 1) c.groups-groups.ensures.count in
    let there : line * n + k < n * m = mul-add-lt line n k m (omega (arith, lt, c.requires.totals)) (omega (arith, within, c.groups-groups.ensures.count)) in
    omega (arith, place, there, mul_comm m n, ap length c.requires.seats, length-seats c.args.setup.now c.args.text.now)

pub returns : goal.returns
returns c =
    off_among (λ line. spaced_sum c.args.seats.now (line * c.groups-groups.result) c.groups-groups.result 1) (constituency_sum c.args.setup.now c.args.text.now)
    c.args.totals.now c.args.text.now (1 + lines_above c.args.setup.now) _ c.in-Some.unmet c.in_ok-off.off
    (row_sum c.args.setup.now c.args.text.now c.args.seats.now c.groups-groups.result c.requires.seats c.groups-groups.ensures.count)
    c.in-Some.ensures (omega (arith, c.lines_above.ensures)) c.in_ok-off.ensures
