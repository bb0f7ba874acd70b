use Rattle.std.proofs.Common.{◌≡◌, ℕ, ◌+◌, ◌*◌, ◌<◌, ◌≤◌, All, length, sym, ap, subst, arith, mul_comm}
use Rattle.std.proofs.lemmas.Nat.{mul-add-lt}
use Rattle.zh_check.specs.Reading.{lines_above}
use Rattle.zh_check.specs.Totals.{group_sum, spaced_sum}
use Rattle.zh_check.proofs.SizeLemmas.{length-seats}
use Rattle.zh_check.proofs.TotalLemmas.{column_sum, few_read, off_among}
use Rattle.zh_check.proofs.reasons.first_off_group.Goals as goal

pub first_unmet-requires-clause-few : goal.first_unmet-requires-clause-few
first_unmet-requires-clause-few c = subst (λ xs. All (λ s. s ≤ 400) xs) (sym c.requires.seats) (few_read c.args.setup.now c.args.text.now)

pub first_unmet-requires-clause-there : goal.first_unmet-requires-clause-there
first_unmet-requires-clause-there c line k lt within =
    let m : ℕ = length c.args.setup.now.constituencies in
    let n : ℕ = length c.args.setup.now.groups in
    let place : line * 1 + k * c.groups-columns.result ≡ line * 1 + k * n = ap (λ g. line * 1 + k * g) c.groups-columns.ensures.count in
    let there : k * n + line < n * m = mul-add-lt k n line m (omega (arith, within, c.constituencies-rows.ensures.count)) (omega (arith, lt, c.requires.totals)) in
    omega (arith, place, there, mul_comm m n, ap length c.requires.seats, length-seats c.args.setup.now c.args.text.now)

pub returns : goal.returns
returns c =
    off_among (λ line. spaced_sum c.args.seats.now (line * 1) c.constituencies-rows.result c.groups-columns.result) (group_sum c.args.setup.now c.args.text.now)
    c.args.totals.now c.args.text.now (1 + lines_above c.args.setup.now + length c.args.setup.now.constituencies) _ c.in-Some.unmet c.in_ok-off.off
    (column_sum c.args.setup.now c.args.text.now c.args.seats.now c.constituencies-rows.result c.groups-columns.result c.requires.seats
    c.constituencies-rows.ensures.count c.groups-columns.ensures.count)
    c.in-Some.ensures (omega (arith, c.lines_above.ensures, c.constituencies-rows.ensures.count)) c.in_ok-off.ensures
