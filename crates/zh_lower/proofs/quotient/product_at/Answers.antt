use Rattle.std.proofs.Common.{arith}
use Rattle.std.proofs.lemmas.Grind.{common_steps}
use Rattle.zh_lower.proofs.quotient.product_at.Goals as goal

pub product-requires-clause-from_1 : goal.product-requires-clause-from_1
product-requires-clause-from_1 c = grind (arith, common_steps)

pub product-requires-clause-at_most : goal.product-requires-clause-at_most
product-requires-clause-at_most c = grind (arith, common_steps)
