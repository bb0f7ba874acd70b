use Rattle.std.proofs.Common.{◌+◌, take, arith, ◌∙◌, sym, subst, Fits, w32}
use Rattle.std.proofs.lemmas.List.{length-take}
use Rattle.zh_districts.proofs.MaskLemmas.{mask_of-here, mask_of-not_here, mask_of-fits}
use Rattle.zh_districts.proofs.bytes.mask.Goals as goal
use Rattle.zh_districts.proofs.bytes.mask.Goals.{then-here, else-here}

pub overflow_add-mask : goal.overflow_add-mask
overflow_add-mask c =
    let xs = c.args.stands.now in
    let more = mask_of-here 32 xs c.loop-place.place c.loop-place.mask c.loop-place-test.true c.requires c.if-here.true c.loop-place.invariant in
    let fits = mask_of-fits 32 (take (c.loop-place.place + 1) xs) (omega (arith, length-take (c.loop-place.place + 1) xs, c.requires)) in
    subst (Fits w32) (sym more) (omega (arith, fits))

pub loop-place-preserved : goal.loop-place-preserved
loop-place-preserved c =
    let xs = c.args.stands.now in
    elim c.if-here.branch [
      | then-here w ↦ w.mask-is ∙ mask_of-here 32 xs c.loop-place.place c.loop-place.mask c.loop-place-test.true c.requires w.if-here.true c.loop-place.invariant
      | else-here w ↦ w.mask-is ∙ mask_of-not_here xs c.loop-place.place c.loop-place.mask c.loop-place-test.true w.if-here.false c.loop-place.invariant
    ]
