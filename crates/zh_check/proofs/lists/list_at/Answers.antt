use Rattle.std.proofs.Common.{◌∙◌, ◌/◌, ◌%◌, length, ap, arith}
use Rattle.zh_divisors.proofs.CallerLemmas.{column_of, row_of}
use Rattle.zh_check.proofs.SizeLemmas.{length-groups, length-rows, length-seats, length-votes}
use Rattle.zh_check.proofs.lists.list_at.Goals as goal

pub bounds-votes-place : goal.bounds-votes-place
bounds-votes-place c =
    omega (arith, c.requires.there, ap length (c.as_slice-votes.ensures.value ∙ c.requires.read.votes), length-votes c.args.setup.now c.args.text.now)

pub bounds-of_rows-place : goal.bounds-of_rows-place
bounds-of_rows-place c =
    let same = ap (λ g. c.args.place / g) c.groups-groups.ensures.count in
    omega (
      arith,
      same,
      row_of (length c.args.setup.now.constituencies) (length c.args.setup.now.groups) c.args.place c.requires.there,
      ap length (c.as_slice-of_rows.ensures.value ∙ c.requires.read.rows),
      length-rows c.args.setup.now c.args.text.now,
    )

pub bounds-of_groups-place : goal.bounds-of_groups-place
bounds-of_groups-place c =
    let same = ap (λ g. c.args.place % g) c.groups-groups.ensures.count in
    omega (
      arith,
      same,
      column_of (length c.args.setup.now.constituencies) (length c.args.setup.now.groups) c.args.place c.requires.there,
      ap length (c.as_slice-of_groups.ensures.value ∙ c.requires.read.groups),
      length-groups c.args.setup.now c.args.text.now,
    )

pub bounds-seats-place : goal.bounds-seats-place
bounds-seats-place c =
    omega (arith, c.requires.there, ap length (c.as_slice-seats.ensures.value ∙ c.requires.read.seats), length-seats c.args.setup.now c.args.text.now)
