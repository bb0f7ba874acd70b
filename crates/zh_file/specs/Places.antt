-- What is at each path: a path leads to a place, after links are followed, and at a place there is a file, something else or nothing.
use Rattle.std.specs.Prelude.{◌≡◌, ◌≢◌, ◌⊎◌, ℕ, List, [], ◌++◌, codes, Option, Some, None}

-- nothing, a file with these bytes, a folder, or something else, for example a pipe or a device
pub data Standing : Type 0 where
  nothing : Standing
  file : List ℕ → Standing
  folder : Standing
  other : Standing

pub record Places : Type 0 where
  -- the place to which a path leads, after all links are followed
  pub leads : List ℕ → List ℕ
  pub stands : List ℕ → Standing

-- what is at the place to which this path leads
abbrev pub found_at : Places → List ℕ → Standing
found_at places path = places.stands (places.leads path)

-- the place of the companion of the disk at this path, a file of the library next to it
abbrev pub companion_of : Places → List ℕ → List ℕ
companion_of places path = places.leads path ++ codes "-wal"

-- the bytes of what is there; empty if it is not a file
abbrev pub bytes_of : Standing → List ℕ
bytes_of nothing = []
bytes_of (file bytes) = bytes
bytes_of folder = []
bytes_of other = []

-- what is there has not changed, or an empty file was made where there was nothing
abbrev pub IsSameOrMade : Standing → Standing → Type 0
IsSameOrMade old new = (new ≡ old) ⊎ ((old ≡ nothing) × (new ≡ file []))

-- there is nothing or an empty file
abbrev pub IsBare : Standing → Type 0
IsBare standing = (standing ≡ nothing) ⊎ (standing ≡ file [])

-- what is there has not changed, or there was nothing or an empty file and still is
abbrev pub IsSameOrBare : Standing → Standing → Type 0
IsSameOrBare old new = (new ≡ old) ⊎ (IsBare old × IsBare new)

-- What opening the disk at this path can change: an empty file can be made where there was nothing, and an empty companion can
-- be made or removed. Everything else is unchanged.
pub record TouchesOnly (path : List ℕ) (old new : Places) : Type 0 where
  pub leads : new.leads ≡ old.leads
  pub disk : IsSameOrMade (found_at old path) (found_at new path)
  pub companion : IsSameOrBare (old.stands (companion_of old path)) (new.stands (companion_of old path))
  pub others : (place : List ℕ) → place ≢ old.leads path → place ≢ companion_of old path
      → new.stands place ≡ old.stands place

-- afterwards something is known if and only if something was known before; and then `Does` holds of what was known and what is
abbrev pub IfKnown : {A : Type 0} → (A → A → Type 0) → Option A → Option A → Type 0
IfKnown Does None new = new ≡ None
IfKnown Does (Some old) None = ⊥
IfKnown Does (Some old) (Some new) = Does old new

-- what a task can have touched, as far as it is known what is at each path: only what an opening of its disk touches, if it has one
abbrev pub Touches : Option (List ℕ) → Option Places → Option Places → Type 0
Touches None old new = new ≡ old
Touches (Some path) old new = IfKnown (TouchesOnly path) old new
