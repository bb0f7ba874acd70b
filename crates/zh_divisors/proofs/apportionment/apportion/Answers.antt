use Rattle.std.proofs.Common.{◌≡◌, ◌+◌, ◌∙◌, ℕ, List, get_or, ap, arith}
use Rattle.std.proofs.lemmas.Grind.{common_steps}
use Rattle.zh_divisors.specs.Fit.{IsStrictFit, IsTied}
use Rattle.zh_divisors.specs.Shares.{Apportionment}
use Rattle.zh_divisors.proofs.LastSeatLemmas.{AreApart, IsStrictFit-apart, RoundsEach-apart, IsTied-together}
use Rattle.zh_divisors.proofs.OneFitLemmas.{no_strict_fit}
use Rattle.zh_divisors.proofs.apportionment.apportion.Goals as goal

-- the weights and seats in the calls are those of the result
apart : (c : goal.After-new) → AreApart c.args.weights.now c.new.result.seats c.least_last-last.result c.most_next-next.result
apart c = record { last_is = grind arith; next_is = grind arith; apart = grind arith }

strict : (c : goal.After-new) → IsStrictFit c.args.weights.now c.args.house c.new.result.seats
strict c = IsStrictFit-apart _ _ _ _ _ (grind arith) (apart c)

tied : (c : goal.After-drop-seats) → IsTied c.args.weights.now c.args.house
tied c =
    IsTied-together c.args.weights.now c.in_ok-seats.seats.items c.args.house c.least_last-last.result c.most_next-next.result
    (grind arith) c.requires.positive (grind arith) (grind arith) (grind arith)

num : (c : goal.After-new) → c.new.result.num ≡ get_or c.args.weights.now c.least_last-last.result 0 + get_or c.args.weights.now c.most_next-next.result 0
num c =
    ap (λ (s : Apportionment). s.num) c.new.ensures
    ∙ ap (λ (weights : List ℕ). get_or weights c.least_last-last.result 0 + get_or weights c.most_next-next.result 0) c.as_slice-weights.ensures.value

den : (c : goal.After-new) → c.new.result.den ≡ get_or c.new.result.seats c.least_last-last.result 0 + get_or c.new.result.seats c.most_next-next.result 0
den c =
    let held : c.index.result.now + c.index-2.result.now ≡ get_or c.new.result.seats c.least_last-last.result 0 + get_or c.new.result.seats c.most_next-next.result 0 = grind (arith, common_steps) in
    ap (λ (s : Apportionment). s.den) c.new.ensures ∙ held

pub returns : goal.returns
returns c = record {
  seats = strict c;
  divisor = record {
    last = c.least_last-last.result;
    next = c.most_next-next.result;
    last_is = (apart c).last_is;
    next_is = (apart c).next_is;
    num_is = num c;
    den_is = den c;
  };
  rounds = RoundsEach-apart c.args.weights.now c.new.result _ _ (apart c) (num c) (den c);
  untied = λ is. no_strict_fit _ _ _ is (strict c);
  tied = grind (arith, common_steps);
  no_strict = grind (arith, common_steps);
}

pub returns-then-not-next_is_worth_less : goal.returns-then-not-next_is_worth_less
returns-then-not-next_is_worth_less c = record {
  seats = tt;
  divisor = tt;
  rounds = tt;
  untied = tt;
  tied = λ _. tied c;
  no_strict = λ _ seats. no_strict_fit _ _ seats (tied c);
}

pub overflow_add-den : goal.overflow_add-den
overflow_add-den c = grind (arith, common_steps)

pub next_is_worth_less-requires-clause-small : goal.next_is_worth_less-requires-clause-small
next_is_worth_less-requires-clause-small c = grind (arith, common_steps)

pub most_next-next-requires-clause-small : goal.most_next-next-requires-clause-small
most_next-next-requires-clause-small c = grind (arith, common_steps)

pub least_last-last-requires-clause-small : goal.least_last-last-requires-clause-small
least_last-last-requires-clause-small c = grind (arith, common_steps)
