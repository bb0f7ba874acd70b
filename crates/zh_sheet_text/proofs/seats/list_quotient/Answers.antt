use Rattle.std.proofs.Common.{◌≡◌, ◌≤◌, ◌-◌, ◌==◌, ◌∙◌, ℕ, List, Option, Some, None, get_or, length, ap, arith, refl}
use Rattle.std.specs.Prelude.{option_map, position}
use Rattle.std.specs.Option.{option_map_or}
use Rattle.std.proofs.lemmas.List.Quantifiers.{position-Some}
use Rattle.zh_matrices.specs.SeatMatrix.{ArePositive}
use Rattle.zh_sheet.specs.Distribution.{seated_groups}
use Rattle.zh_sheet.specs.Readings.{column_of}
use Rattle.zh_totals.specs.Totals.{VoteTotals, votes_in}
use Rattle.zh_sheet_text.specs.Lists.{constituency_divisor}
use Rattle.zh_sheet_text.specs.Quotients.{quotient}
use Rattle.zh_sheet_text.proofs.seats.list_quotient.Goals as goal

-- the divisor of a seated group is positive
divisor_found : (seated divisors : List ℕ) (g n : ℕ) (place : Option ℕ) → position (λ group. group == g) seated ≡ place → ArePositive (length seated) divisors
    → Some n ≡ option_map_or (λ k. Some (get_or divisors k 0)) place None → 1 ≤ n
divisor_found seated divisors g n None at positive is = let e : Some n ≡ None = is in absurd (cc)
divisor_found seated divisors g n (Some k) at positive is =
    let e : Some n ≡ Some (get_or divisors k 0) = is in
    let same : n ≡ get_or divisors k 0 = cc in
    omega (arith, same, positive k (position-Some (λ group. group == g) seated k 0 at).0)

pub quotient-requires-clause-votes : goal.quotient-requires-clause-votes
quotient-requires-clause-votes c = c.votes-votes.ensures.most

pub quotient-requires-clause-constituency : goal.quotient-requires-clause-constituency
quotient-requires-clause-constituency c =
    let there = c.setup-setup.ensures.meets.lower.row_divisors (c.args.constituency - 1) (omega (arith, c.requires.from_one, c.requires.there)) in
    omega (arith, there, c.constituency_divisor-of_constituency.ensures)

pub quotient-requires-clause-group : goal.quotient-requires-clause-group
quotient-requires-clause-group c =
    let x = c.args.sheet.now in
    divisor_found (seated_groups x.upper.seats) x.lower.divisors.of_columns c.args.group c.in_ok-of_group.of_group (column_of x c.args.group) refl
    c.setup-setup.ensures.meets.lower.column_divisors c.in_ok-of_group.ensures

pub returns : goal.returns
returns c =
    let x = c.args.sheet.now in
    let row = c.constituency_divisor-of_constituency.result in
    let column = c.in_ok-of_group.of_group in
    let shown : ℕ = votes_in x.totals c.args.constituency c.args.group in
    let votes : c.votes-votes.result ≡ shown
    = c.votes-votes.ensures.votes ∙ ap (λ (t : VoteTotals). votes_in t c.args.constituency c.args.group) c.totals.ensures in
    let is : c.quotient.result ≡ quotient shown (constituency_divisor x c.args.constituency) column
    = c.quotient.ensures ∙ ap (λ (v : ℕ). quotient v row column) votes ∙ ap (λ (r : ℕ). quotient shown r column) c.constituency_divisor-of_constituency.ensures in
    ap Some is ∙ ap (option_map (quotient shown (constituency_divisor x c.args.constituency))) c.in_ok-of_group.ensures
