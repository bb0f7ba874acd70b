use Rattle.std.proofs.Common.{◌≡◌, ◌∙◌, ◌<◌, ◌-◌, ◌^◌, ◌∷◌, [], sym, ap, subst, arith, rules}
use Rattle.zh_returns.specs.Judgement.{judge}
use Rattle.zh_returns.specs.Tally.{Tally}
use Rattle.zh_returns.specs.declared.judgement.Verdict.TheVariants.{Accept}
use Rattle.zh_returns.specs.declared.command.Command.{Command}
use Rattle.zh_returns.proofs.CallerLemmas.{command_once}
use Rattle.zh_ledger.specs.Stands.{Replays}
use Rattle.zh_ledger.proofs.ReplayLemmas.{IsNext, replays_one}
use Rattle.zh_ledger.proofs.opening.replay_record.Goals.{then-ne-via-then-ne, then-ne-via-else-ne+then-accepted}
use Rattle.zh_ledger.proofs.opening.replay_record.Goals as goal

pub returns-clause-replayed : goal.returns-clause-replayed
returns-clause-replayed c = λ is.
    let found : c.judge.result ≡ Accept = search rules in
    let judged : judge c.args.count.now c.in-Some.command ≡ Accept = sym (ap (λ (t : Tally). judge t c.in-Some.command) c.count-now.ensures) ∙ (sym c.judge.ensures ∙ found) in
    let room : c.args.count.now.accepted < 2 ^ 64 - 1 = omega (arith, ap (λ (t : Tally). t.accepted) c.count-now.ensures) in
    let next : IsNext c.args.format c.args.count.now c.args.payload.now c.in-Some.command =
    record { speakable = c.in-Some.ensures.read.0; spelled = c.in-Some.ensures.read.1; accepted = judged; room = room } in
    subst (λ (tally : Tally). Replays c.args.format c.args.count.now (c.args.payload.now ∷ []) tally) (sym c.apply.ensures)
    (replays_one c.args.count.now c.args.payload.now c.in-Some.command next)

pub returns-then-ne-clause-refused : goal.returns-then-ne-clause-refused
returns-then-ne-clause-refused c = λ _ command speakable spelled accept room.
    let same : command ≡ c.in-Some.command = command_once c.args.format command c.in-Some.command speakable c.in-Some.ensures.read.0 (spelled ∙ sym c.in-Some.ensures.read.1) in
    let judged : judge c.args.count.now c.in-Some.command ≡ Accept = subst (λ (x : Command). judge c.args.count.now x ≡ Accept) same accept in
    let found : c.judge.result ≡ Accept = c.judge.ensures ∙ (ap (λ (t : Tally). judge t c.in-Some.command) c.count-now.ensures ∙ judged) in
    elim c.then-ne.branch [ then-ne-via-then-ne w ↦ absurd (search rules) | then-ne-via-else-ne+then-accepted w ↦ absurd (omega (arith, ap (λ (t : Tally). t.accepted) c.count-now.ensures)) ]
