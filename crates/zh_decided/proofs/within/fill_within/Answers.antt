use Rattle.std.proofs.Common.{sym, ◌∙◌}
use Rattle.std.proofs.lemmas.Bool.{OnFalse_from}
use Rattle.zh_decided.specs.Bounds.{asked_in, bounds_of}
use Rattle.zh_decided.proofs.CutLemmas.{none-after}
use Rattle.zh_decided.proofs.WayLemmas.{not-both}
use Rattle.zh_decided.proofs.WithinLemmas.{balanced}
use Rattle.zh_decided.proofs.within.fill_within.Goals as goal

pub returns-then-not-are_balanced-clause-none : goal.returns-then-not-are_balanced-clause-none
returns-then-not-are_balanced-clause-none c = λ s within.
    not-both c.are_balanced.result c.are_balanced.ensures (balanced (asked_in c.args.bounds.now) (bounds_of c.args.bounds.now) s within)
    c.if-not-are_balanced.true

pub returns-clause-none : goal.returns-clause-none
returns-clause-none c = OnFalse_from _ _ (λ is.
    none-after (asked_in c.args.bounds.now) (bounds_of c.args.bounds.now) c.complete.new.seats c.complete.result
    (sym c.is_ok.ensures.value ∙ is) c.complete.ensures.blocked)
