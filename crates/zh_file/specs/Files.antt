-- What is known of texts and disks by their paths, and of a disk that is opened.
use Rattle.std.specs.Prelude.{◌≡◌, ◌≤◌, ◌+◌, ◌⊎◌, ℕ, List, [], length, Option, IfSome, IsTrue}
use Rattle.zh_disk.specs.Disk.{Trail, disk_length, fresh_trail}
use Rattle.zh_disk.specs.History.{History}
use Rattle.zh_disk.specs.Memory.{IsNewDisk}
use Rattle.zh_file.specs.Places.{Places}

-- One call of the files was made. After it the same is known of their texts and disks.
pub record IsCallOfFiles {F : Type 0} (text_at disk_at : F → List ℕ → Option (List ℕ)) (calls : F → ℕ) (old new : F) : Type 0 where
  pub texts : text_at new ≡ text_at old
  pub disks : disk_at new ≡ disk_at old
  pub counted : calls new ≡ calls old + 1

-- The same for a call that only reads: nothing is touched at any path.
pub record IsReadOfFiles {F : Type 0} (text_at disk_at : F → List ℕ → Option (List ℕ)) (places : F → Option Places) (calls : F → ℕ)
    (old new : F) : Type 0 where
  pub texts : text_at new ≡ text_at old
  pub disks : disk_at new ≡ disk_at old
  pub stays : places new ≡ places old
  pub counted : calls new ≡ calls old + 1

-- A disk that was just opened: it begins with these bytes, if they are known, and no call of it has failed.
pub record Begins (known : Option (List ℕ)) (first : History) : Type 0 where
  pub trail : IfSome known (λ bytes. first.trail ≡ fresh_trail bytes)
  pub failures : first.failures ≡ 0

-- the disk begins with these bytes of its file; if the file was empty it was filled, and this is a new disk of zeros
abbrev pub BeginsWith : List ℕ → Trail → Type 0
BeginsWith [] begun = IsNewDisk begun
BeginsWith bytes begun = begun ≡ fresh_trail bytes

-- The same for a disk that is made if there is none. What it says of the trail holds while the disk is honest.
pub record BeginsOrIsMade (known : Option (List ℕ)) (first : History) : Type 0 where
  pub trail : IsTrue first.honest → IfSome known (λ bytes. BeginsWith bytes first.trail)
  pub failures : first.failures ≡ 0

-- What a stop can leave of a file that had these bytes, if an empty file is filled: these bytes or, if the file was empty, at
-- most as many bytes as a disk has.
abbrev pub IsFilling : List ℕ → List ℕ → Type 0
IsFilling found c = (c ≡ found) ⊎ ((found ≡ []) × (length c ≤ disk_length))

-- a stop can have left no more than before
abbrev pub LeavesNoMore : (List ℕ → Type 0) → (List ℕ → Type 0) → Type 0
LeavesNoMore old new = (c : List ℕ) → new c → old c

-- a stop can have left what it could before, or what `IsLeft` says of the bytes that were found, if these are known
abbrev pub LeavesOf : (List ℕ → List ℕ → Type 0) → Option (List ℕ) → (List ℕ → Type 0) → (List ℕ → Type 0) → Type 0
LeavesOf IsLeft found old new = (c : List ℕ) → new c → old c ⊎ IfSome found (λ bytes. IsLeft bytes c)

-- only the bytes that were found
abbrev pub IsAsFound : List ℕ → List ℕ → Type 0
IsAsFound found c = c ≡ found
