use Rattle.std.proofs.Common.{refl, subst, sym}
use Rattle.zh_matrices.specs.Question.{Question}
use Rattle.zh_sheet.specs.Given.{DoFollow, given_lists}
use Rattle.zh_sheet.proofs.DistributionLemmas.{targets_above}
use Rattle.zh_sheet.proofs.GivenLemmas.{none_given}
use Rattle.zh_sheet.proofs.QuestionLemmas.{given_of}
use Rattle.zh_sheet.proofs.given_lists.with_given.Goals as goal

pub returns-then-not-do_follow : goal.returns-then-not-do_follow
returns-then-not-do_follow c =
    let lists = given_lists c.args.seats.items c.args.row_divisors.items c.args.column_divisors.items in
    let known = rw (c.deref.ensures.value, c.deref-2.ensures.value, c.deref-3.ensures.value) at c.do_follow.ensures in
    none_given c.args.totals.now (targets_above c.args.totals.now c.args.asked.above c.requires.asked.above) lists (λ follow.
    let yes = known.1 (subst (λ (q : Question). DoFollow q lists) (sym c.requires.asked.same) follow) in
    let no = c.if-not-do_follow.true in
    absurd (cc)
    )

pub returns : goal.returns
returns c =
    let lists = given_lists c.args.seats.items c.args.row_divisors.items c.args.column_divisors.items in
    let known = rw (c.deref.ensures.value, c.deref-2.ensures.value, c.deref-3.ensures.value) at c.do_follow.ensures in
    rw (c.with_lists.ensures, c.in_ok-totals.ensures, c.new-lower.ensures)
    (given_of c.args.totals.now c.args.asked lists c.requires.asked c.requires.votes (known.0 c.if-not-do_follow.false) refl)
