use Rattle.std.proofs.Common.{◌≡◌, ◌∙◌, ℕ, ◌+◌, ◌-◌, ◌≤◌, true, false, length, get_or, sym, ap, subst, arith, below_more}
use Rattle.std.proofs.lemmas.Bool.{iff_false}
use Rattle.zh_check.specs.Cells.{DoFollowAt, DoSeatsFollow, IsOffAs}
use Rattle.zh_check.specs.Lines.{after_lines, first_line}
use Rattle.zh_check.specs.Reading.{standing}
use Rattle.zh_check.specs.declared.lists.ShownList.{ShownList}
use Rattle.zh_check.proofs.CellLemmas.{few_places, next_line_hidden, next_line_stands, place_there}
use Rattle.zh_check.proofs.SizeLemmas.{length-votes}
use Rattle.zh_check.proofs.lists.first_off_list.Goals as goal
use Rattle.zh_check.proofs.lists.first_off_list.Goals.{then-stands_at+else-not-do_seats_follow, else-stands_at}

pub stands_at-requires : goal.stands_at-requires
stands_at-requires c =
    place_there c.args.setup.now c.args.text.now c.as_slice-votes.result.now c.loop-place.place (c.as_slice-votes.ensures.value ∙ c.requires.votes) c.loop-place-test.true

pub list_at-list-requires-clause-there : goal.list_at-list-requires-clause-there
list_at-list-requires-clause-there c =
    place_there c.args.setup.now c.args.text.now c.as_slice-votes.result.now c.loop-place.place (c.as_slice-votes.ensures.value ∙ c.requires.votes) c.loop-place-test.true

pub overflow_add-before : goal.overflow_add-before
overflow_add-before c =
    let there = place_there c.args.setup.now c.args.text.now c.as_slice-votes.result.now c.loop-place.place (c.as_slice-votes.ensures.value ∙ c.requires.votes) c.loop-place-test.true in
    let rows : length c.args.setup.now.constituencies ≤ 69 = omega (arith, c.lines_before_lists-before.ensures.count, c.lines_before_lists-before.ensures.few) in
    let columns : length c.args.setup.now.groups ≤ 69 = omega (arith, c.lines_before_lists-before.ensures.count, c.lines_before_lists-before.ensures.few) in
    omega (arith, c.loop-place.invariant.few, few_places _ _ c.loop-place.place rows columns there)

pub returns : goal.returns
returns c =
    let read = c.as_slice-votes.ensures.value ∙ c.requires.votes in
    λ k lt. c.loop-place.invariant.follow k (omega (arith, lt, c.loop-place-test.false, ap length read, length-votes c.args.setup.now c.args.text.now))

pub returns-then-not-do_seats_follow : goal.returns-then-not-do_seats_follow
returns-then-not-do_seats_follow c =
    let canton = c.args.setup.now in
    let text = c.args.text.now in
    let k : ℕ = c.loop-place.place in
    let here : get_or (standing canton) k false ≡ true = sym c.stands_at.ensures ∙ c.if-stands_at.true in
    let number : c.in_ok-off_list.field-0.line ≡ c.loop-place.before + 1 = c.in_ok-off_list.ensures.line in
    let before : c.in_ok-off_list.field-0.line - 1 ≡ c.loop-place.before = omega (arith, number) in
    record {
      place = k;
      there = place_there canton text c.as_slice-votes.result.now k (c.as_slice-votes.ensures.value ∙ c.requires.votes) c.loop-place-test.true;
      not = λ follows. iff_false c.do_seats_follow.ensures c.if-not-do_seats_follow.true
          (subst (λ (l : ShownList). DoSeatsFollow l) (sym c.list_at-list.ensures) (follows here));
      before = c.loop-place.invariant.follow;
      line = number ∙ c.loop-place.invariant.line;
      found = c.in_ok-off_list.ensures.found ∙ ap (λ n. first_line (after_lines n text)) (sym before);
      says = subst (λ (l : ShownList). IsOffAs l c.in_ok-off_list.field-0) c.list_at-list.ensures c.in_ok-off_list.ensures.list;
    }

pub loop-place-preserved : goal.loop-place-preserved
loop-place-preserved c =
    let canton = c.args.setup.now in
    let text = c.args.text.now in
    let k : ℕ = c.loop-place.place in
    let there = place_there canton text c.as_slice-votes.result.now k (c.as_slice-votes.ensures.value ∙ c.requires.votes) c.loop-place-test.true in
    elim c.if-stands_at.branch [
      | then-stands_at+else-not-do_seats_follow w ↦
          let follows : DoFollowAt canton text k
          = λ stands. subst (λ (l : ShownList). DoSeatsFollow l) w.list_at-list.ensures (w.do_seats_follow.ensures.0 w.if-not-do_seats_follow.false) in
          record {
            line = omega (arith, w.before-is, c.loop-place.invariant.line, next_line_stands canton k there (sym c.stands_at.ensures ∙ w.if-stands_at.true));
            few = omega (arith, w.before-is, c.loop-place.invariant.few);
            follow = below_more (DoFollowAt canton text) k c.loop-place.invariant.follow follows;
          }
      | else-stands_at w ↦
          let away : get_or (standing canton) k false ≡ false = sym c.stands_at.ensures ∙ w.if-stands_at.false in
          record {
            line = omega (arith, w.before-is, c.loop-place.invariant.line, next_line_hidden canton k there away);
            few = omega (arith, w.before-is, c.loop-place.invariant.few);
            follow = below_more (DoFollowAt canton text) k c.loop-place.invariant.follow (λ here. absurd (cc));
          }
    ]
