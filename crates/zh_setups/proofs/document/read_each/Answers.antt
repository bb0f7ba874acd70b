use Rattle.std.proofs.Common.{◌≡◌, ◌++◌, [], ◌∷◌, map, ◌∙◌, ap, arith}
use Rattle.std.proofs.lemmas.Grind.{common_steps}
use Rattle.std.proofs.lemmas.Result.{err_from_is_err_and}
use Rattle.std.proofs.lemmas.List.{map-append}
use Rattle.zh_setups.proofs.EachLemmas.{goes_on, ends}
use Rattle.zh_setups.proofs.document.read_each.Goals as goal

pub returns-in_err-part : goal.returns-in_err-part
returns-in_err-part g c =
    let p = err_from_is_err_and c.from_residual.result c.from_residual.ensures.1 in
    rw (p.1, p.2) (ends (g.P.Part.said c.args.constituencies) (map g.P.Part.meaning c.loop-value.parts.items) c.args.values.now
    c.loop-value.value-index c.value-item.result _ _ c.loop-value-test.true c.value-item.is c.in_err-part.ensures c.loop-value.invariant)

pub loop-value-preserved : goal.loop-value-preserved
loop-value-preserved g c =
    let grown : map g.P.Part.meaning c.push.new.self.items ≡ map g.P.Part.meaning c.loop-value.parts.items ++ g.P.Part.meaning c.in_ok-part.part ∷ [] =
    ap (map g.P.Part.meaning) c.in_ok-push.ensures.items ∙ map-append g.P.Part.meaning c.loop-value.parts.items (c.in_ok-part.part ∷ []) in
    rw grown (goes_on (g.P.Part.said c.args.constituencies) (map g.P.Part.meaning c.loop-value.parts.items) c.args.values.now
    c.loop-value.value-index c.value-item.result (g.P.Part.meaning c.in_ok-part.part) _ c.loop-value-test.true c.value-item.is
    c.in_ok-part.ensures c.loop-value.invariant)

pub returns : goal.returns
returns g c = grind (arith, common_steps)
