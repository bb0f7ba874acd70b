use Rattle.std.proofs.Common.{Bool, Option, Some, None, sym, ap, ◌∙◌, if◌then◌else◌, le-ltb, lt-ltb}
use Rattle.zh_districts.specs.declared.setup.Misplaced.{Misplaced}
use Rattle.zh_returns.specs.declared.judgement.Reason.TheVariants as reasons
use Rattle.zh_returns.specs.RowFaults.{unfit_at}
use Rattle.zh_returns.proofs.row.unfit.Goals as goal

pub returns-in-Some-clause-first : goal.returns-in-Some-clause-first
returns-in-Some-clause-first c =
    let judged = sym c.misplaced.ensures.misplaced ∙ c.in-Some.is in
    ap Some c.from.ensures ∙ sym (ap (λ (o : Option Misplaced). unfit_at o c.args.row.votes) judged)

pub returns-in-Some-clause-fits : goal.returns-in-Some-clause-fits
returns-in-Some-clause-fits c = tt

pub returns-clause-first : goal.returns-clause-first
returns-clause-first c =
    let judged = sym c.misplaced.ensures.misplaced ∙ c.in_default.is in
    sym (ap (λ (o : Option Misplaced). unfit_at o c.args.row.votes) judged ∙ ap (λ (b : Bool). if b then Some reasons.Votes else None) (le-ltb _ _ c.if-row-gt-MOST_VOTES.false))

pub returns-then-row-gt-MOST_VOTES-clause-first : goal.returns-then-row-gt-MOST_VOTES-clause-first
returns-then-row-gt-MOST_VOTES-clause-first c =
    let judged = sym c.misplaced.ensures.misplaced ∙ c.in_default.is in
    sym (ap (λ (o : Option Misplaced). unfit_at o c.args.row.votes) judged ∙ ap (λ (b : Bool). if b then Some reasons.Votes else None) (lt-ltb _ _ c.if-row-gt-MOST_VOTES.true))

pub returns-then-row-gt-MOST_VOTES-clause-fits : goal.returns-then-row-gt-MOST_VOTES-clause-fits
returns-then-row-gt-MOST_VOTES-clause-fits c = tt
