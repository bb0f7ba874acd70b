use Rattle.std.proofs.Common.{◌≡◌, ◌∙◌, true, sym, subst, Some}
use Rattle.std.proofs.lemmas.List.{length-set}
use Rattle.zh_districts.specs.Canton.{has_municipality, stands, constituency_of}
use Rattle.zh_districts.proofs.CallerLemmas.{placed}
use Rattle.zh_returns.specs.Limits.{IsTally}
use Rattle.zh_returns.proofs.LimitsLemmas.{IsTally-insert}
use Rattle.zh_returns.proofs.TableWriteLemmas.{tally_of-put}
use Rattle.zh_returns.proofs.count.Count.put.Goals as goal

-- the list stands in a municipality of the set-up
on_place : (c : goal.After-self-1) → (has_municipality c.args.self.now.canton c.args.municipality ≡ true)
    × (stands c.args.self.now.canton (constituency_of c.args.self.now.canton c.args.municipality) c.args.list ≡ true)
on_place c = placed c.args.self.now.canton c.args.municipality c.args.list c.requires.place

pub invariant_of-self : goal.invariant_of-self
invariant_of-self c = record {
  places = length-set c.self.inside.entries.items c.index_of.result (Some c.args.entry) ∙ c.self.invariant.places;
  flags = c.self.invariant.flags;
  tally = subst IsTally (sym (tally_of-put c.self.inside c.args.self.now c.index_of.result c.args.municipality c.args.list c.args.entry
      c.self.view_is c.self.invariant (on_place c).0 (on_place c).1 c.index_of.ensures.place c.index_of.ensures.within)) (
      IsTally-insert c.args.self.now c.args.municipality c.args.list c.args.entry (subst IsTally c.self.view_is c.self.invariant.tally) (on_place c).0 (on_place c).1 c.requires.entry
      );
}

pub returns : goal.returns
returns c = tally_of-put c.self.inside c.args.self.now c.index_of.result c.args.municipality c.args.list c.args.entry c.self.view_is
    c.self.invariant (on_place c).0 (on_place c).1 c.index_of.ensures.place c.index_of.ensures.within
