-- The bytes with which the disk of a task began, if those of its file are known.
use Rattle.std.proofs.Common.{◌≡◌, ◌≢◌, ℕ, List, [], ◌∷◌, Option, Some, None, IsTrue, refl, sym, ◌∙◌, ap, subst}
use Rattle.std.specs.Prelude.{length, slice_index}
use Rattle.zh_disk.specs.Disk.{Trail, disk_length, fresh_trail}
use Rattle.zh_disk.specs.History.{History}
use Rattle.zh_returns.specs.Tally.{Tally}
use Rattle.zh_ledger.specs.Stands.{Holds}
use Rattle.zh_file.specs.Files.{Begins, BeginsOrIsMade, BeginsWith}

-- An existing disk began with the bytes of its file, if they are known.
pub known_fresh : (known : Option (List ℕ)) (first : History) (bytes : List ℕ) → Begins known first → known ≡ Some bytes
    → first.trail ≡ fresh_trail bytes
known_fresh None first bytes begins is = absurd cc
known_fresh (Some xs) first bytes begins is = let same : xs ≡ bytes = cc in begins.trail ∙ ap fresh_trail same

-- A disk that may have been created began with these bytes, or as a new disk.
pub known_made : (known : Option (List ℕ)) (first : History) (bytes : List ℕ) → BeginsOrIsMade known first
    → IsTrue first.honest
    → known ≡ Some bytes
    → BeginsWith bytes first.trail
known_made None first bytes begins honest is = absurd cc
known_made (Some xs) first bytes begins honest is =
    let same : xs ≡ bytes = cc in
    subst (λ (b : List ℕ). BeginsWith b first.trail) same (begins.trail honest)

-- It began with the bytes of its file, if there were any.
pub begun_there : (bytes : List ℕ) (t : Trail) → BeginsWith bytes t → bytes ≢ [] → t.now.bytes ≡ bytes
begun_there [] t new some = absurd (some refl)
begun_there (byte ∷ bytes) t is some = ap (λ (x : Trail). x.now.bytes) is

-- Otherwise it began with zeros.
pub begun_filled : (bytes : List ℕ) (t : Trail) → BeginsWith bytes t → bytes ≡ []
    → (length t.now.bytes ≡ disk_length) × ((k : ℕ) → slice_index t.now.bytes k ≡ 0)
begun_filled [] t new none = (new.size, new.zero)
begun_filled (byte ∷ bytes) t is none = absurd cc

-- Its trail has no earlier moment.
pub fresh_made : (bytes : List ℕ) (t : Trail) → BeginsWith bytes t → t ≡ fresh_trail t.now.bytes
fresh_made [] t new = new.begun
fresh_made (byte ∷ bytes) t is = is ∙ ap fresh_trail (sym (ap (λ (x : Trail). x.now.bytes) is))

-- An empty file holds no count.
none_held : (tally : Tally) (bytes : List ℕ) → bytes ≡ [] → Holds tally bytes → ⊥
none_held tally bytes is holds =
    let gate : ◌≡◌ {A = ℕ} 0 165 = (subst (Holds tally) is holds).clean.framed.gate in
    absurd cc

-- So if the bytes hold a count, the disk began with them.
pub held_made : (tally : Tally) (bytes : List ℕ) (t : Trail) → Holds tally bytes → BeginsWith bytes t → t ≡ fresh_trail bytes
held_made tally [] t holds new = absurd (none_held tally [] refl holds)
held_made tally (byte ∷ bytes) t holds is = is
