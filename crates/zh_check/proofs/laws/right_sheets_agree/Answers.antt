use Rattle.std.proofs.Common.{ap, sym, ◌∙◌}
use Rattle.zh_sheet.proofs.CallerLemmas.{one_result}
use Rattle.zh_check.proofs.laws.right_sheets_agree.Goals as goal

pub returns : goal.returns
returns c canton held other_held bytes others one other X Y votes =
    one_result one.sheet other.sheet X.meets.distribution Y.meets.distribution
    (ap (λ k. record { canton = k; votes = other.sheet.totals.votes }) (Y.same_setup ∙ sym X.same_setup)
    ∙ ap (λ v. record { canton = one.sheet.totals.canton; votes = v }) votes)
