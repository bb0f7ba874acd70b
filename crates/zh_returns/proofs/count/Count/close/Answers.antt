use Rattle.std.proofs.Common.{◌-◌, ◌∙◌, sym, subst, true}
use Rattle.std.proofs.lemmas.List.{length-set}
use Rattle.zh_returns.specs.Limits.{IsTally}
use Rattle.zh_returns.proofs.LimitsLemmas.{IsTally-close}
use Rattle.zh_returns.proofs.TableWriteLemmas.{tally_of-close}
use Rattle.zh_returns.proofs.count.Count.close.Goals as goal

pub invariant_of-self : goal.invariant_of-self
invariant_of-self c = record {
  places = c.self.invariant.places;
  flags = length-set c.self.inside.closed.items (c.args.municipality - 1) true ∙ c.self.invariant.flags;
  tally = subst IsTally (sym (tally_of-close c.self.inside c.args.self.now c.args.municipality c.self.view_is c.self.invariant c.requires)) (
      IsTally-close c.args.self.now c.args.municipality (subst IsTally c.self.view_is c.self.invariant.tally) c.requires
      );
}

pub returns : goal.returns
returns c = tally_of-close c.self.inside c.args.self.now c.args.municipality c.self.view_is c.self.invariant c.requires
