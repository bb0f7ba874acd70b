use Rattle.std.proofs.Common.{◌≡◌, ◌≤◌, ◌<◌, ◌∙◌, ap, sym, subst, arith, length}
use Rattle.std.specs.Prelude.{IfSome}
use Rattle.zh_returns.specs.Tally.{Tally, held}
use Rattle.zh_returns.specs.Inside.{tally_of}
use Rattle.zh_returns.specs.Limits.{IsEntry}
use Rattle.zh_returns.proofs.EntryTableLemmas.{read_key}
use Rattle.zh_returns.proofs.count.Count.entry.Goals as goal

-- what was read is what the count in the fields holds
read_is : (c : goal.After-result-1) → c.index.result.now ≡ held (tally_of c.self.inside) c.args.municipality c.args.list
read_is c =
    let within : c.args.list ≤ 32 = omega (arith, c.self.invariant.tally.canton.groups.1, ap (λ (t : Tally). length t.canton.groups) c.self.view_is) in
    let in_table : c.index_of.result < length c.self.inside.entries.items = omega (arith, c.self.invariant.places) in
    read_key c.self.inside.entries.items c.index_of.result c.args.municipality c.args.list c.index.result.now
    c.requires.from_one c.requires.list_from_one within c.index_of.ensures.place in_table c.index.ensures

pub returns-clause-held : goal.returns-clause-held
returns-clause-held c = read_is c ∙ ap (λ (t : Tally). held t c.args.municipality c.args.list) c.self.view_is

pub returns-clause-limits : goal.returns-clause-limits
returns-clause-limits c =
    subst (λ entry. IfSome entry IsEntry) (sym (read_is c)) (c.self.invariant.tally.entries c.args.municipality c.args.list)
