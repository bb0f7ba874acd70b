use Rattle.std.proofs.Common.{sym, refl}
use Rattle.zh_districts.proofs.CantonLemmas.{list_within, not_misplaced, stands_past, stands_zero, misplaced_list}
use Rattle.zh_districts.proofs.setup.Setup.misplaced.Goals as goal
use Rattle.zh_districts.proofs.setup.Setup.misplaced.Goals.{then-list-eq0-via-then-list-eq0}
use Rattle.zh_districts.proofs.setup.Setup.misplaced.Goals.{then-list-eq0-via-else-list-eq0+then-list-groups}
use Rattle.zh_districts.proofs.setup.Setup.misplaced.Goals.{then-list-eq0-via-else-list-eq0+else-list-groups+then-not-stands}

pub returns-then-not-has_municipality-clause-misplaced : goal.returns-then-not-has_municipality-clause-misplaced
returns-then-not-has_municipality-clause-misplaced c = rw (sym c.if-not-has_municipality.ensures.there) refl

pub returns-then-not-has_municipality-clause-municipality : goal.returns-then-not-has_municipality-clause-municipality
returns-then-not-has_municipality-clause-municipality c = tt

pub returns-then-not-has_municipality-clause-list : goal.returns-then-not-has_municipality-clause-list
returns-then-not-has_municipality-clause-list c = tt

pub returns-then-list-eq0-clause-misplaced : goal.returns-then-list-eq0-clause-misplaced
returns-then-list-eq0-clause-misplaced c =
    let canton = c.args.self.now in
    let there = sym c.if-not-has_municipality.ensures.there in
    let d = c.constituency_of-constituency.result in
    let lies = c.constituency_of-constituency.ensures.number in
    elim c.then-list-eq0.branch [
      | then-list-eq0-via-then-list-eq0 w ↦ misplaced_list canton c.args.municipality c.args.list d there lies (stands_zero canton d c.args.list w.if-list-eq0.true)
      | then-list-eq0-via-else-list-eq0+then-list-groups w ↦ misplaced_list canton c.args.municipality c.args.list d there lies
          (stands_past canton d c.args.list (rw (← w.groups.ensures.count) w.if-list-groups.true))
      | then-list-eq0-via-else-list-eq0+else-list-groups+then-not-stands w ↦ misplaced_list canton c.args.municipality c.args.list d there lies (sym w.if-not-stands.ensures)
    ]

pub returns-then-list-eq0-clause-municipality : goal.returns-then-list-eq0-clause-municipality
returns-then-list-eq0-clause-municipality c = tt

pub returns-then-list-eq0-clause-list : goal.returns-then-list-eq0-clause-list
returns-then-list-eq0-clause-list c = tt

pub returns-clause-misplaced : goal.returns-clause-misplaced
returns-clause-misplaced c =
    sym (not_misplaced c.args.self.now c.args.municipality c.args.list (sym c.if-not-has_municipality.ensures.there)
    (rw (← c.constituency_of-constituency.ensures.number) (sym c.if-not-stands.ensures)))

pub returns-clause-municipality : goal.returns-clause-municipality
returns-clause-municipality c = c.has_municipality.ensures.range c.if-not-has_municipality.false

pub returns-clause-list : goal.returns-clause-list
returns-clause-list c = list_within c.args.self.now c.constituency_of-constituency.result c.args.list (sym c.if-not-stands.ensures)
