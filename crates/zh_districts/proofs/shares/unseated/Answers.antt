use Rattle.std.proofs.Common.{◌≡◌, ◌==◌, ◌∙◌, ap, false, length, map, Err, rules}
use Rattle.std.specs.Prelude.{replicate}
use Rattle.zh_divisors.specs.declared.shares.ShareFault.TheVariants.{Tied}
use Rattle.zh_districts.specs.Claims.{IsUnseated, Tell}
use Rattle.zh_districts.specs.Seats.{AreSeats}
use Rattle.zh_districts.proofs.ClaimLemmas.{if_ok, told_nowhere, told_unseated}
use Rattle.zh_districts.proofs.shares.unseated.Goals as goal

pub returns-in-Ok : goal.returns-in-Ok
returns-in-Ok c =
    let canton = c.args.setup.now in
    let seats = c.seats.result.now in
    let are : AreSeats canton seats = rw c.seats.ensures c.in-Ok.ensures.shares.seats in
    if_ok c.nothing.result (λ marks. marks.items ≡ map (λ n. n == 0) seats) (λ marks. Tell (IsUnseated canton) (length canton.constituencies) marks.items)
    (λ marks is. rw is (told_unseated canton seats are)) c.nothing.ensures

pub returns-in-Err-Tied : goal.returns-in-Err-Tied
returns-in-Err-Tied c =
    let canton = c.args.setup.now in
    let tie : c.proportion.result ≡ Err Tied = search rules in
    if_ok c.unmarked.result (λ marks. marks.items ≡ replicate c.constituencies.result false) (λ marks. Tell (IsUnseated canton) (length canton.constituencies) marks.items)
    (λ marks is. told_nowhere canton marks.items (is ∙ ap (λ n. replicate n false) c.constituencies.ensures.count) (c.proportion.ensures.shares.tied tie)) c.unmarked.ensures
