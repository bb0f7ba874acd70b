use Rattle.std.proofs.Common.{◌≡◌, ℕ, List, ◌++◌, take, drop, length, ◌∙◌, arith}
use Rattle.std.proofs.lemmas.Grind.{common_steps}
use Rattle.zh_matrices.specs.Asked.{asked}
use Rattle.zh_lower.proofs.BoundLemmas.{none-left, two-left}
use Rattle.zh_lower.proofs.end_test.find_two_ways.Goals as goal

-- the content of a vector after its slice was written
written_back : (n : ℕ) (xs ys : List ℕ) → length xs ≡ n → take n (xs ++ drop (length xs) ys) ≡ xs
written_back n xs ys long = grind (arith, common_steps)

pub returns-clause-two : goal.returns-clause-two
returns-clause-two c =
    two-left (asked c.args.question.now) c.args.state.now.of_rows.items c.args.state.now.of_columns.items c.as_slice.result.now c.as_slice-2.result.now
    c.find_both.new.seats c.find_both.new.others _ _ c.find_both.result c.requires.proper c.requires.limits
    (c.as_slice.ensures.value ∙ c.bound_room.ensures.least) (c.as_slice-2.ensures.value ∙ c.bound_room.ensures.most)
    (written_back _ _ _ (omega (arith, c.find_both.auto.seats, c.deref_mut.ensures.len)))
    (written_back _ _ _ (omega (arith, c.find_both.auto.others, c.deref_mut-2.ensures.len)))
    c.find_both.ensures.one c.find_both.ensures.other c.find_both.ensures.differ

pub returns-clause-none : goal.returns-clause-none
returns-clause-none c =
    none-left (asked c.args.question.now) c.args.state.now.of_rows.items c.args.state.now.of_columns.items c.as_slice.result.now c.as_slice-2.result.now
    c.find_both.result c.requires.proper (c.as_slice.ensures.value ∙ c.bound_room.ensures.least) (c.as_slice-2.ensures.value ∙ c.bound_room.ensures.most)
    c.find_both.ensures.none
