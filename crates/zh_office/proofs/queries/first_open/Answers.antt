use Rattle.std.proofs.Common.{arith, inl, inr, ap, sym, ◌∙◌, ◌≤◌, eq-or-lt_of_le, length}
use Rattle.std.specs.FinSet as set
use Rattle.zh_office.proofs.queries.first_open.Goals as goal

pub loop-municipality-init : goal.loop-municipality-init
loop-municipality-init c = λ k one below. absurd (omega (arith, one, below))

pub loop-municipality-preserved : goal.loop-municipality-preserved
loop-municipality-preserved c = λ k one below.
    let within : k ≤ c.loop-municipality.municipality = omega (arith, below) in
    elim (eq-or-lt_of_le within) [
      | inl same ↦ ap (set.contains c.args.count.now.closed) same ∙ sym c.closed.ensures ∙ c.if-not-closed.false
      | inr less ↦ c.loop-municipality.invariant k one less
    ]

pub returns-else-not-closed : goal.returns-else-not-closed
returns-else-not-closed c = λ m one within.
    let last : m ≤ c.loop-municipality.municipality =
    omega (arith, within, c.municipalities-municipality-end.ensures.count, ap (λ t. length t.municipalities) c.setup.ensures) in
    elim (eq-or-lt_of_le last) [
      | inl same ↦ ap (set.contains c.args.count.now.closed) same ∙ sym c.closed.ensures ∙ c.if-not-closed.false
      | inr less ↦ c.loop-municipality.invariant m one less
    ]

pub returns-then-not-closed : goal.returns-then-not-closed
returns-then-not-closed c = record {
  from_one = c.loop-municipality.auto.municipality;
  there = omega (arith, c.loop-municipality-test.true, c.municipalities-municipality-end.ensures.count, ap (λ t. length t.municipalities) c.setup.ensures);
  not_closed = sym c.closed.ensures ∙ c.if-not-closed.true;
  before = c.loop-municipality.invariant;
}
