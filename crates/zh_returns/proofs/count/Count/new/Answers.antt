use Rattle.std.proofs.Common.{◌≡◌, sym, subst}
use Rattle.zh_returns.specs.Tally.{Tally, empty}
use Rattle.zh_returns.specs.Limits.{IsTally}
use Rattle.zh_returns.specs.Tables.{entries_of, closed_of}
use Rattle.zh_returns.proofs.EntryTableLemmas.{entries_of-absent}
use Rattle.zh_returns.proofs.FlagLemmas.{closed_of-unset}
use Rattle.zh_returns.proofs.LimitsLemmas.{IsTally-empty}
use Rattle.zh_returns.proofs.count.Count.new.Goals as goal

-- the count in tables without an entry and without a flag is empty
stands_for : (c : goal.In_ok-unset)
    → ◌≡◌ {A = Tally} (record {
      canton = c.args.setup.now;
      entries = entries_of c.in_ok-absent.field-0.items;
      closed =
          closed_of c.in_ok-unset.field-0.items;
      accepted = 0;
    }) (empty c.args.setup.now)
stands_for c =
    let entries = entries_of-absent c.in_ok-absent.field-0.items c.in_ok-absent.ensures.absent in
    let closed = closed_of-unset c.in_ok-unset.field-0.items c.in_ok-unset.ensures.unset in
    λ i. record { canton = c.args.setup.now; entries = entries i; closed = closed i; accepted = 0 }

pub invariant_of-result : goal.invariant_of-result
invariant_of-result c = record {
  places = c.in_ok-absent.ensures.places;
  flags = c.in_ok-unset.ensures.places;
  tally = subst IsTally (sym (stands_for c)) (IsTally-empty c.args.setup.now c.municipalities.ensures.limits);
}

pub returns : goal.returns
returns c = stands_for c
