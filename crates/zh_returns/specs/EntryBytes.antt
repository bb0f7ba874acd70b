-- The sixteen bytes of what is held under a key. Numbers are big endian.
use Rattle.std.specs.Prelude.{ℕ, if◌then◌else◌, Option, Some, None, is_some, List, [], ◌∷◌, ◌++◌, unwrap_or}
use Rattle.std.specs.Int.{w32, to_be_bytes}
use Rattle.zh_returns.specs.declared.entry.Entry.{Entry}
use Rattle.zh_returns.specs.declared.entry.EntryFields.{EntryFields}
use Rattle.zh_returns.specs.Origin.{no_desk, origin_spelling}

-- the state, the origin in three bytes, the replacement number, the votes, and four zero bytes
abbrev pub fields_spelling : EntryFields → List ℕ
fields_spelling fields = fields.state ∷ (origin_spelling fields.origin ++ (to_be_bytes w32 fields.number
    ++ (to_be_bytes w32 fields.votes ++ (0 ∷ 0 ∷ 0 ∷ 0 ∷ []))))

-- the fields for what is held: the state is 0 for nothing, 1 for votes, and 2 for a withdrawn list
abbrev pub fields_of : Option Entry → EntryFields
fields_of None = record { state = 0; origin = no_desk; number = 0; votes = 0 }
fields_of (Some entry) =
    record { state = if is_some entry.votes then 1 else 2; origin = entry.origin; number = entry.number; votes = unwrap_or entry.votes 0 }

unfoldable pub entry_spelling : Option Entry → List ℕ
entry_spelling held = fields_spelling (fields_of held)
