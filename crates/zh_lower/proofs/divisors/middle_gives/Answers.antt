use Rattle.std.proofs.Common.{◌≡◌, ◌∙◌, arith}
use Rattle.zh_lower.proofs.SliceLemmas.{written_whole}
use Rattle.zh_lower.proofs.divisors.middle_gives.Goals as goal

pub follows-requires : goal.follows-requires
follows-requires c =
    let rows : c.deref.result.now ≡ c.middle.new.of_rows = c.deref.ensures.value ∙ written_whole _ _ _ (omega arith) in
    let columns : c.deref-2.result.now ≡ c.middle.new.of_columns = c.deref-2.ensures.value ∙ written_whole _ _ _ (omega arith) in
    rw (rows, columns) c.middle.ensures.limits
