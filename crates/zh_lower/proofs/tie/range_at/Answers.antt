use Rattle.zh_decided.specs.Bounds.{asked_in, bounds_of}
use Rattle.zh_lower.proofs.LotLemmas.{fixed_range, open_range}
use Rattle.zh_lower.proofs.tie.range_at.Goals as goal

pub returns-then-may_change : goal.returns-then-may_change
returns-then-may_change c =
    open_range (asked_in c.args.bounds.now) (bounds_of c.args.bounds.now) c.args.seats.now c.may_change.new.others c.args.place c.requires.place
    c.requires.enclose c.requires.within c.if-may_change.ensures.differs

pub returns-else-may_change : goal.returns-else-may_change
returns-else-may_change c =
    fixed_range (asked_in c.args.bounds.now) (bounds_of c.args.bounds.now) c.args.seats.now c.args.place c.requires.enclose c.requires.within
    c.if-may_change.ensures.same
