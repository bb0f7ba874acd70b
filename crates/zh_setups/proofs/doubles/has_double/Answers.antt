use Rattle.std.proofs.Common.{refl, sym, ◌∙◌}
use Rattle.zh_setups.proofs.doubles.has_double.Goals as goal

pub returns-then-branch : goal.returns-then-branch
returns-then-branch c =
    let constituencies = rw c.tables_at.ensures at c.in_ok-repeats_name.ensures in
    rw (sym constituencies ∙ c.if-branch.true) refl

pub returns-then-branch-2 : goal.returns-then-branch-2
returns-then-branch-2 c =
    let constituencies = rw c.tables_at.ensures at c.in_ok-repeats_name.ensures in
    let municipalities = rw c.tables_at-2.ensures at c.in_ok-repeats_name-2.ensures in
    rw (sym constituencies ∙ c.if-branch.false, sym municipalities ∙ c.if-branch-2.true) refl

pub returns-then-branch-3 : goal.returns-then-branch-3
returns-then-branch-3 c =
    let constituencies = rw c.tables_at.ensures at c.in_ok-repeats_name.ensures in
    let municipalities = rw c.tables_at-2.ensures at c.in_ok-repeats_name-2.ensures in
    let groups = rw c.tables_at-3.ensures at c.in_ok-repeats_name-3.ensures in
    rw (sym constituencies ∙ c.if-branch.false, sym municipalities ∙ c.if-branch-2.false, sym groups ∙ c.if-branch-3.true) refl

pub returns : goal.returns
returns c =
    let constituencies = rw c.tables_at.ensures at c.in_ok-repeats_name.ensures in
    let municipalities = rw c.tables_at-2.ensures at c.in_ok-repeats_name-2.ensures in
    let groups = rw c.tables_at-3.ensures at c.in_ok-repeats_name-3.ensures in
    rw (sym constituencies ∙ c.if-branch.false, sym municipalities ∙ c.if-branch-2.false, sym groups ∙ c.if-branch-3.false) (rw c.tables_at-4.ensures at c.stands_twice.ensures)
