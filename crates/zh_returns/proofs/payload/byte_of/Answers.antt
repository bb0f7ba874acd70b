use Rattle.std.proofs.Common.{◌+◌, take, arith, ◌∙◌}
use Rattle.std.proofs.lemmas.List.{length-take}
use Rattle.zh_districts.proofs.CallerLemmas.{mask_of-here, mask_of-not_here, mask_of-fits}
use Rattle.zh_returns.proofs.payload.byte_of.Goals as goal
use Rattle.zh_returns.proofs.payload.byte_of.Goals.{then-flag, else-flag}

pub overflow_add-byte : goal.overflow_add-byte
overflow_add-byte c =
    let xs = c.args.flags.now in
    let more = mask_of-here 8 xs c.loop-place.place c.loop-place.byte c.loop-place-test.true c.requires c.if-flag.true c.loop-place.invariant in
    let fits = mask_of-fits 8 (take (c.loop-place.place + 1) xs) (omega (arith, length-take (c.loop-place.place + 1) xs, c.requires)) in
    omega (arith, more, fits)

pub loop-place-preserved : goal.loop-place-preserved
loop-place-preserved c =
    let xs = c.args.flags.now in
    elim c.if-flag.branch [
      | then-flag w ↦ w.byte-is ∙ mask_of-here 8 xs c.loop-place.place c.loop-place.byte c.loop-place-test.true c.requires w.if-flag.true c.loop-place.invariant
      | else-flag w ↦ w.byte-is ∙ mask_of-not_here xs c.loop-place.place c.loop-place.byte c.loop-place-test.true w.if-flag.false c.loop-place.invariant
    ]
