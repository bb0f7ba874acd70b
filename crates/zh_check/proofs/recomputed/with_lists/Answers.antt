use Rattle.std.proofs.Common.{◌*◌, length, ap, sym, ◌∙◌}
use Rattle.zh_check.proofs.SizeLemmas.{length-groups, length-seats}
use Rattle.zh_check.proofs.recomputed.with_lists.Goals as goal

pub seats_in_columns-requires-clause-divisors : goal.seats_in_columns-requires-clause-divisors
seats_in_columns-requires-clause-divisors c =
    ap length c.deref.ensures.value
    ∙ (ap length c.requires.groups ∙ (length-groups c.args.totals.now.canton c.args.text.now ∙ ap (λ k. length k.groups) (sym c.setup-setup.ensures.setup)))

pub seats_in_columns-requires-clause-seats : goal.seats_in_columns-requires-clause-seats
seats_in_columns-requires-clause-seats c =
    ap length c.deref-2.ensures.value
    ∙ (ap length c.requires.seats ∙ (length-seats c.args.totals.now.canton c.args.text.now
    ∙ ap (λ k. length k.constituencies * length k.groups) (sym c.setup-setup.ensures.setup)))
