-- The desks' batches.
use Rattle.std.specs.Prelude.{◌-◌, List, [], ◌∷◌, Option, None, get_or, set}
use Rattle.zh_returns.specs.declared.row.Row.{Row}
use Rattle.zh_returns.specs.declared.batch.Desk.{Desk}

-- the rows in each desk's batch, from desk 1 on, or nothing if the desk has no batch
abbrev pub Held : Type 0
Held = List (Option (List Row))

-- the rows of a desk's batch
abbrev pub rows_of : Held → Desk → Option (List Row)
rows_of held desk = get_or held (desk.number - 1) None

-- the batches with this batch, or none, for a desk
abbrev pub with_batch : Held → Desk → Option (List Row) → Held
with_batch held desk batch = set held (desk.number - 1) batch

-- no desk has a batch
abbrev pub no_batches : Held
no_batches = None ∷ None ∷ None ∷ None ∷ None ∷ None ∷ None ∷ None ∷ []
