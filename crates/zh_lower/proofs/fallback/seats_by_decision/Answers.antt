use Rattle.std.proofs.Common.{◌∙◌, inl, inr}
use Rattle.zh_matrices.specs.Asked.{asked}
use Rattle.zh_matrices.proofs.CallerLemmas.{few-in-cells}
use Rattle.zh_lower.proofs.FallbackLemmas.{few-strict}
use Rattle.zh_lower.proofs.SecondLemmas.{follow-false, follow-true, none-second, tried-strict}
use Rattle.zh_lower.proofs.fallback.seats_by_decision.Goals as goal

pub try_seats-requires-clause-seats : goal.try_seats-requires-clause-seats
try_seats-requires-clause-seats c =
    let give = rw c.in-Seats.is at c.requires.decides in rw c.deref.ensures.value give.strict.one_each

pub try_seats-requires-clause-few : goal.try_seats-requires-clause-few
try_seats-requires-clause-few c =
    let give = rw c.in-Seats.is at c.requires.decides in
    rw c.deref.ensures.value (few-strict (asked c.args.question.now) _ c.args.decided.now.findings.seats.items c.requires.proper.row_totals give.strict)

pub make_readable-requires-clause-give : goal.make_readable-requires-clause-give
make_readable-requires-clause-give c = rw c.in-Seats.is at c.requires.decides

pub make_readable-requires-clause-few : goal.make_readable-requires-clause-few
make_readable-requires-clause-few c =
    let give = rw c.in-Seats.is at c.requires.decides in
    few-strict (asked c.args.question.now) _ c.args.decided.now.findings.seats.items c.requires.proper.row_totals give.strict

pub returns-then-not-try_seats-clause-later : goal.returns-then-not-try_seats-clause-later
returns-then-not-try_seats-clause-later c =
    let give = rw c.in-Seats.is at c.requires.decides in
    inr (
      none-second (asked c.args.question.now) c.args.decided.now.findings.seats.items _ give.strict
          (rw c.deref.ensures.value at c.if-not-try_seats.ensures.none),
      c.make_readable.ensures.third,
    )

pub returns-then-not-try_seats-clause-strict : goal.returns-then-not-try_seats-clause-strict
returns-then-not-try_seats-clause-strict c = λ _. rw (c.try_seats.ensures.taken ∙ c.deref.ensures.value) c.make_readable.ensures.strict

pub returns-then-not-try_seats-clause-limits : goal.returns-then-not-try_seats-clause-limits
returns-then-not-try_seats-clause-limits c = λ _. c.make_readable.ensures.limits

pub returns-else-not-try_seats-clause-later : goal.returns-else-not-try_seats-clause-later
returns-else-not-try_seats-clause-later c = inl (c.deref.result.now, c.if-not-try_seats.ensures.second)

pub returns-else-not-try_seats-clause-strict : goal.returns-else-not-try_seats-clause-strict
returns-else-not-try_seats-clause-strict c = λ _.
    tried-strict (asked c.args.question.now) c.deref.result.now _ _ c.try_seats.result c.try_seats.ensures.taken c.try_seats.ensures.second c.if-not-try_seats.false

pub returns-else-not-try_seats-clause-limits : goal.returns-else-not-try_seats-clause-limits
returns-else-not-try_seats-clause-limits c = λ _. c.try_seats.ensures.limits c.if-not-try_seats.false

pub try_seats-requires-in-NearlyTied-clause-seats : goal.try_seats-requires-in-NearlyTied-clause-seats
try_seats-requires-in-NearlyTied-clause-seats c =
    let are = rw c.in-NearlyTied.is at c.requires.decides in rw c.deref-in-NearlyTied.ensures.value are.one_fits.one_each

pub try_seats-requires-in-NearlyTied-clause-few : goal.try_seats-requires-in-NearlyTied-clause-few
try_seats-requires-in-NearlyTied-clause-few c =
    let are = rw c.in-NearlyTied.is at c.requires.decides in
    rw c.deref-in-NearlyTied.ensures.value
    (few-in-cells (asked c.args.question.now) c.args.decided.now.findings.seats.items c.requires.proper.row_totals are.one_fits.one_each are.one_fits.rows_add_up)

pub returns-then-try_seats-clause-later : goal.returns-then-try_seats-clause-later
returns-then-try_seats-clause-later c =
    follow-true c.try_seats-in-NearlyTied.result _ _ (λ second. inl (c.deref-in-NearlyTied.result.now, second)) c.try_seats-in-NearlyTied.ensures.second

pub returns-then-try_seats-clause-strict : goal.returns-then-try_seats-clause-strict
returns-then-try_seats-clause-strict c =
    tried-strict (asked c.args.question.now) c.deref-in-NearlyTied.result.now _ _ c.try_seats-in-NearlyTied.result c.try_seats-in-NearlyTied.ensures.taken
    c.try_seats-in-NearlyTied.ensures.second

pub returns-then-try_seats-clause-limits : goal.returns-then-try_seats-clause-limits
returns-then-try_seats-clause-limits c = c.try_seats-in-NearlyTied.ensures.limits

pub try_seats-requires-else-try_seats-clause-seats : goal.try_seats-requires-else-try_seats-clause-seats
try_seats-requires-else-try_seats-clause-seats c =
    let are = rw c.in-NearlyTied.is at c.requires.decides in rw c.deref-else-try_seats.ensures.value are.other_fits.one_each

pub try_seats-requires-else-try_seats-clause-into : goal.try_seats-requires-else-try_seats-clause-into
try_seats-requires-else-try_seats-clause-into c =
    let are = rw c.in-NearlyTied.is at c.requires.decides in
    rw (c.try_seats-in-NearlyTied.ensures.taken ∙ c.deref-in-NearlyTied.ensures.value) are.one_fits.one_each

pub try_seats-requires-else-try_seats-clause-few : goal.try_seats-requires-else-try_seats-clause-few
try_seats-requires-else-try_seats-clause-few c =
    let are = rw c.in-NearlyTied.is at c.requires.decides in
    rw c.deref-else-try_seats.ensures.value
    (few-in-cells (asked c.args.question.now) c.args.decided.now.findings.others.items c.requires.proper.row_totals are.other_fits.one_each are.other_fits.rows_add_up)

pub returns-else-try_seats-clause-later : goal.returns-else-try_seats-clause-later
returns-else-try_seats-clause-later c =
    follow-true c.try_seats-else-try_seats.result _ _ (λ second. inl (c.deref-else-try_seats.result.now, second)) c.try_seats-else-try_seats.ensures.second

pub returns-else-try_seats-clause-strict : goal.returns-else-try_seats-clause-strict
returns-else-try_seats-clause-strict c =
    tried-strict (asked c.args.question.now) c.deref-else-try_seats.result.now _ _ c.try_seats-else-try_seats.result c.try_seats-else-try_seats.ensures.taken
    c.try_seats-else-try_seats.ensures.second

pub returns-else-try_seats-clause-limits : goal.returns-else-try_seats-clause-limits
returns-else-try_seats-clause-limits c = c.try_seats-else-try_seats.ensures.limits

pub returns-else-try_seats-clause-tried : goal.returns-else-try_seats-clause-tried
returns-else-try_seats-clause-tried c =
    rw c.in-NearlyTied.is
    (follow-false c.try_seats-else-try_seats.result _ _ (λ none. (rw c.deref-in-NearlyTied.ensures.value at c.if-try_seats.ensures.none, none))
    (rw c.deref-else-try_seats.ensures.value at c.try_seats-else-try_seats.ensures.none))

pub try_seats-requires-in-Beyond-clause-seats : goal.try_seats-requires-in-Beyond-clause-seats
try_seats-requires-in-Beyond-clause-seats c =
    let are = rw c.in-Beyond.is at c.requires.decides in rw c.deref-in-Beyond.ensures.value are.strict.one_each

pub try_seats-requires-in-Beyond-clause-few : goal.try_seats-requires-in-Beyond-clause-few
try_seats-requires-in-Beyond-clause-few c =
    let are = rw c.in-Beyond.is at c.requires.decides in
    rw c.deref-in-Beyond.ensures.value
    (few-strict (asked c.args.question.now) _ c.args.decided.now.findings.seats.items c.requires.proper.row_totals are.strict)

pub returns-in-Beyond-clause-later : goal.returns-in-Beyond-clause-later
returns-in-Beyond-clause-later c =
    follow-true c.try_seats-in-Beyond.result _ _ (λ second. inl (c.deref-in-Beyond.result.now, second)) c.try_seats-in-Beyond.ensures.second

pub returns-in-Beyond-clause-strict : goal.returns-in-Beyond-clause-strict
returns-in-Beyond-clause-strict c =
    tried-strict (asked c.args.question.now) c.deref-in-Beyond.result.now _ _ c.try_seats-in-Beyond.result c.try_seats-in-Beyond.ensures.taken
    c.try_seats-in-Beyond.ensures.second

pub returns-in-Beyond-clause-limits : goal.returns-in-Beyond-clause-limits
returns-in-Beyond-clause-limits c = c.try_seats-in-Beyond.ensures.limits

pub returns-in-Beyond-clause-tried : goal.returns-in-Beyond-clause-tried
returns-in-Beyond-clause-tried c = rw c.in-Beyond.is (rw c.deref-in-Beyond.ensures.value at c.try_seats-in-Beyond.ensures.none)
