use Rattle.std.proofs.Common.{arith, rules}
use Rattle.std.proofs.lemmas.Grind.{common_steps}
use Rattle.std.proofs.KnownBytes.{Appends-trans}
use Rattle.zh_text.proofs.WriteLemmas.{Keeps-from_none, IsFront-from_kept, moves_front}
use Rattle.zh_text.proofs.output.put.Goals as goal

pub returns-in_default-clause-front : goal.returns-in_default-clause-front
returns-in_default-clause-front g c =
    let (front, split, written) = c.loop-rest.invariant in
    IsFront-from_kept _ _ _ _ front _ (search rules) split written c.in_default.ensures.bytes

pub returns-then-written-eq0-clause-front : goal.returns-then-written-eq0-clause-front
returns-then-written-eq0-clause-front g c =
    let (front, split, written) = c.loop-rest.invariant in
    IsFront-from_kept _ _ _ _ front _ (search rules) split written (Keeps-from_none _ _ _ _ c.if-written-eq0.true c.in-Ok.ensures.bytes)

pub loop-rest-preserved : goal.loop-rest-preserved
loop-rest-preserved g c =
    let (front, split, written) = c.loop-rest.invariant in
    (_, moves_front _ front c.loop-rest.rest.now c.in-Ok.written split, Appends-trans _ _ _ _ _ written c.in-Ok.ensures.bytes)

pub returns-clause-all : goal.returns-clause-all
returns-clause-all g c = grind (arith, common_steps)

pub returns-in_default-clause-nothing : goal.returns-in_default-clause-nothing
returns-in_default-clause-nothing g c = grind (arith, common_steps)
