use Rattle.std.proofs.Common.{◌+◌, List, ℕ, sym, subst, inl}
use Rattle.zh_check.specs.Reading.{lines_above}
use Rattle.zh_check.specs.Totals.{AreConstituencySeats, AreMet, FindsConstituencySeats, FindsOffAmong, IsOffAmong, constituency_sum}
use Rattle.zh_check.proofs.reasons.first_off_total.Goals as goal

pub first_off_group_by_votes-requires-clause-rows : goal.first_off_group_by_votes-requires-clause-rows
first_off_group_by_votes-requires-clause-rows c =
    let have : AreConstituencySeats c.args.setup.now c.in-Some.rows.seats = rw c.in-Some.is at c.in_ok-rows.ensures in
    subst (λ r. AreConstituencySeats c.args.setup.now r) (sym c.seats-2.ensures) have

pub first_off_group_by_votes-requires-clause-met : goal.first_off_group_by_votes-requires-clause-met
first_off_group_by_votes-requires-clause-met c =
    let canton = c.args.setup.now in
    let text : List ℕ = c.args.text.now in
    let none = subst (λ f. FindsOffAmong (constituency_sum canton text) c.seats.result.now text (1 + lines_above canton) f) c.in_default-2.is c.in_ok-off.ensures in
    subst (λ r. AreMet (constituency_sum canton text) r) (sym c.seats-2.ensures) (subst (λ r. AreMet (constituency_sum canton text) r) c.seats.ensures none)

pub returns-in_default : goal.returns-in_default
returns-in_default c = inl (subst (λ f. FindsConstituencySeats c.args.setup.now f) c.in_default.is c.in_ok-rows.ensures)

pub returns-in-Some-2 : goal.returns-in-Some-2
returns-in-Some-2 c =
    let canton = c.args.setup.now in
    let text : List ℕ = c.args.text.now in
    let off = c.in-Some-2.off in
    let have : AreConstituencySeats canton c.in-Some.rows.seats = rw c.in-Some.is at c.in_ok-rows.ensures in
    let among = subst (λ f. FindsOffAmong (constituency_sum canton text) c.seats.result.now text (1 + lines_above canton) f) c.in-Some-2.is c.in_ok-off.ensures in
    inl (record {
      totals = c.in-Some.rows.seats;
      follow = record { in_proportion = have.in_proportion; each = have.each };
      first = subst (λ r. IsOffAmong (constituency_sum canton text) r text (1 + lines_above canton) off) c.seats.ensures among;
    })
