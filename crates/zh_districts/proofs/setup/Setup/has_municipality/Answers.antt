use Rattle.std.proofs.Common.{◌≤◌, ℕ, refl, sym, subst, ◌∙◌}
use Rattle.std.proofs.lemmas.Bool.{le-leb, lt-leb, leb-true, true≢false}
use Rattle.zh_districts.proofs.setup.Setup.has_municipality.Goals as goal

pub returns-then-municipality-ge1-clause-there : goal.returns-then-municipality-ge1-clause-there
returns-then-municipality-ge1-clause-there c = rw (le-leb 1 c.args.municipality c.if-municipality-ge1.true, c.municipalities.ensures.count) refl

pub returns-else-municipality-ge1-clause-there : goal.returns-else-municipality-ge1-clause-there
returns-else-municipality-ge1-clause-there c = rw (lt-leb 1 c.args.municipality c.if-municipality-ge1.false) refl

pub returns-then-municipality-ge1-clause-range : goal.returns-then-municipality-ge1-clause-range
returns-then-municipality-ge1-clause-range c = λ within.
    (c.if-municipality-ge1.true, subst (λ (n : ℕ). c.args.municipality ≤ n) c.municipalities.ensures.count (leb-true c.args.municipality c.municipalities.result within))

pub returns-else-municipality-ge1-clause-range : goal.returns-else-municipality-ge1-clause-range
returns-else-municipality-ge1-clause-range c = λ within. absurd (true≢false (sym within ∙ lt-leb 1 c.args.municipality c.if-municipality-ge1.false))
