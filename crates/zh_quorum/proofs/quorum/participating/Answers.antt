use Rattle.std.proofs.Common.{◌≡◌, length, ap, ◌∙◌, arith}
use Rattle.std.proofs.lemmas.Grind.{common_steps}
use Rattle.zh_quorum.proofs.ParticipatingLemmas.{AreParticipatingTo-more}
use Rattle.zh_quorum.proofs.quorum.participating.Goals as goal

pub loop-place-preserved : goal.loop-place-preserved
loop-place-preserved c =
    rw c.in_ok-push.ensures.items (AreParticipatingTo-more c.args.totals.now c.loop-place.taking.items c.loop-place.place c.takes_part.result c.loop-place.invariant c.takes_part.ensures)

pub returns : goal.returns
returns c =
    let all : c.groups-groups.result ≡ length c.args.totals.now.canton.groups = c.groups-groups.ensures.count ∙ ap (λ s. length s.groups) c.setup.ensures.setup in
    record {
      one_each = omega (arith, all, c.loop-place.invariant.one_each);
      each = λ g from there. c.loop-place.invariant.each g from (omega arith);
    }

pub returns-in_err-push : goal.returns-in_err-push
returns-in_err-push c = grind (arith, common_steps)

pub loop-place-init : goal.loop-place-init
loop-place-init c = grind (arith, common_steps)
