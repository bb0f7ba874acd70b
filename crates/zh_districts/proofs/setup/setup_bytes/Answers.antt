use Rattle.std.proofs.Common.{◌≡◌, map, subst, arith}
use Rattle.std.proofs.lemmas.Grind.{common_steps}
use Rattle.zh_districts.specs.Canton.{IsCanton}
use Rattle.zh_districts.specs.Parts.{constituency, municipality, group}
use Rattle.zh_districts.specs.Spelling.{setup_spelling}
use Rattle.zh_districts.proofs.LengthLemmas.{short_names, length-setup_spelling}
use Rattle.zh_districts.proofs.SpellingLemmas.{spelled}
use Rattle.zh_districts.proofs.setup.setup_bytes.Goals as goal

pub put_constituencies-requires-clause-names : goal.put_constituencies-requires-clause-names
put_constituencies-requires-clause-names c =
    rw c.deref.ensures.value (short_names (λ x. x.name) (map constituency c.setup.inside.constituencies.items) c.setup.invariant.constituency_names)

pub put_municipalities-requires-clause-names : goal.put_municipalities-requires-clause-names
put_municipalities-requires-clause-names c =
    rw c.deref-2.ensures.value (short_names (λ x. x.name) (map municipality c.setup.inside.municipalities.items) c.setup.invariant.municipality_names)

pub put_groups-requires-clause-names : goal.put_groups-requires-clause-names
put_groups-requires-clause-names c =
    rw c.deref-3.ensures.value (short_names (λ x. x.name) (map group c.setup.inside.groups.items) c.setup.invariant.group_names)

-- the bytes that were written
the_bytes : (c : goal.In_ok-put_quorum) → c.put_quorum.new.out.items ≡ setup_spelling c.args.setup.now
the_bytes c =
    let house = rw (c.new-out.ensures.items, c.to_be_bytes.ensures) at c.in_ok-extend_from_slice.ensures.items in
    let constituencies = rw c.deref.ensures.value at c.in_ok-put_constituencies.ensures in
    let municipalities = rw c.deref-2.ensures.value at c.in_ok-put_municipalities.ensures in
    let groups = rw c.deref-3.ensures.value at c.in_ok-put_groups.ensures in
    let quorum = c.in_ok-put_quorum.ensures in
    spelled c.setup.inside c.args.setup.now c.extend_from_slice.new.self.items c.put_constituencies.new.out.items
    c.put_municipalities.new.out.items c.put_groups.new.out.items c.put_quorum.new.out.items c.setup.view_is house constituencies
    municipalities groups quorum

pub returns-clause-spelling : goal.returns-clause-spelling
returns-clause-spelling c = the_bytes c

pub returns-clause-length : goal.returns-clause-length
returns-clause-length c = rw (the_bytes c) (length-setup_spelling c.args.setup.now (subst IsCanton c.setup.view_is c.setup.invariant))

pub put_groups-requires-clause-count : goal.put_groups-requires-clause-count
put_groups-requires-clause-count c = grind (arith, common_steps)

pub put_municipalities-requires-clause-count : goal.put_municipalities-requires-clause-count
put_municipalities-requires-clause-count c = grind (arith, common_steps)

pub put_constituencies-requires-clause-count : goal.put_constituencies-requires-clause-count
put_constituencies-requires-clause-count c = grind (arith, common_steps)

pub put_groups-requires-clause-stands : goal.put_groups-requires-clause-stands
put_groups-requires-clause-stands c = grind (arith, common_steps)

pub put_municipalities-requires-clause-numbers : goal.put_municipalities-requires-clause-numbers
put_municipalities-requires-clause-numbers c = grind (arith, common_steps)

pub returns-in_err-put_municipalities-clause-length : goal.returns-in_err-put_municipalities-clause-length
returns-in_err-put_municipalities-clause-length c = grind (arith, common_steps)

pub returns-in_err-put_municipalities-clause-spelling : goal.returns-in_err-put_municipalities-clause-spelling
returns-in_err-put_municipalities-clause-spelling c = grind (arith, common_steps)
