use Rattle.std.proofs.Common.{◌≡◌, ◌∙◌, ◌*◌, ℕ, List, length, replicate, ap, sym, subst}
use Rattle.zh_returns.specs.Tally.{empty}
use Rattle.zh_returns.proofs.CallerLemmas.{IsTally-empty}
use Rattle.zh_totals.specs.Counting.{totals_of}
use Rattle.zh_totals.specs.Inside.{AreConstituencies}
use Rattle.zh_totals.specs.Totals.{AreTotals}
use Rattle.zh_totals.proofs.BoundLemmas.{no_sums, AreTotals-of, AreConstituencies-empty}
use Rattle.zh_totals.proofs.totals.Totals.new.Goals as goal

votes_are : (c : goal.In_ok-no_votes-2) → c.in_ok-no_votes.field-0.items ≡ (totals_of (empty c.args.setup.now)).votes
votes_are c =
    c.in_ok-no_votes.ensures
    ∙ ap (λ (n : ℕ). replicate (n * c.groups-groups.result) 0) c.constituencies-constituencies.ensures.count
    ∙ ap (λ (n : ℕ). replicate (length c.args.setup.now.constituencies * n) 0) c.groups-groups.ensures.count
    ∙ sym (no_sums c.args.setup.now c.constituencies-constituencies.ensures.limits)

pub invariant_of-result : goal.invariant_of-result
invariant_of-result c =
    let canton = c.args.setup.now in
    let limits = c.constituencies-constituencies.ensures.limits in
    let kept : c.in_ok-no_votes-2.field-0.items ≡ replicate (length canton.constituencies) 0 = c.in_ok-no_votes-2.ensures
    ∙ ap (λ (n : ℕ). replicate n 0) c.constituencies-constituencies.ensures.count in
    record {
      totals = subst (λ (votes : List ℕ). AreTotals (record { canton = canton; votes = votes })) (sym (votes_are c)) (AreTotals-of (empty canton) (IsTally-empty canton limits));
      constituencies =
          subst (λ (votes : List ℕ). AreConstituencies (record { canton = canton; votes = votes }) c.in_ok-no_votes-2.field-0.items) (sym (votes_are c)) (
          subst (AreConstituencies (totals_of (empty canton))) (sym kept) (AreConstituencies-empty canton));
    }

pub returns : goal.returns
returns c = ap (λ (votes : List ℕ). record { canton = c.args.setup.now; votes = votes }) (votes_are c)
