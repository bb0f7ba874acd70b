-- What is in a folder in memory, and what a call there does.
use Rattle.std.specs.Prelude.{◌≡◌, ◌≢◌, ◌-◌, ◌⊎◌, ℕ, List, [], ◌∷◌, Option, Some, Result, IsErr, IfErr, if◌then◌else◌, string_bytes}
use Rattle.std.specs.Str.{bytes_eq}
use Rattle.std.specs.IoError.{error_kind}
use Rattle.std.specs.declared.io.Error.{Error}
use Rattle.std.specs.declared.io.ErrorKind.TheVariants.{OutOfMemory}
use Rattle.sqlite_disk.specs.declared.fuse.Fuse.{Fuse}
use Rattle.sqlite_disk.specs.declared.memory.Memory.{Memory}
use Rattle.zh_film.specs.Past.{number}
use Rattle.zh_file.specs.Places.{Standing, bytes_of}
use Rattle.zh_file.specs.Places.Standing.{nothing, file, other}
use Rattle.zh_file.specs.Folder.{Folders}
use Rattle.zh_file.specs.declared.memory_file.MemoryFile.{MemoryFile}
use Rattle.zh_file.specs.declared.memory_folder.Stood.{Stood}
use Rattle.zh_file.specs.declared.memory_folder.Stood.TheVariants as stood
use Rattle.zh_file.specs.declared.memory_folder.Placed.{Placed}
use Rattle.zh_file.specs.declared.memory_folder.MemoryFolder.{MemoryFolder}

-- the part of a file in memory that clauses describe
abbrev pub file_of : MemoryFile → Fuse Memory
file_of f = f.file

abbrev pub stood_as : Stood → Standing
stood_as (stood.File bytes) = file bytes.items
stood_as stood.Other = other
stood_as stood.Nothing = nothing

-- what was put at this path: the first entry if there are several
abbrev pub placed_at : List Placed → List ℕ → Standing
placed_at [] path = nothing
placed_at (placed ∷ others) path = if bytes_eq (string_bytes placed.path) path then stood_as placed.stood else placed_at others path

module _ {R : Type 0} where
  -- what is at a path
  abbrev pub standing_at : MemoryFolder R → List ℕ → Standing
  standing_at folder = placed_at folder.placed.items

  -- what is at each path, and the counts; no path is a link
  abbrev pub folders_of : MemoryFolder R → Folders
  folders_of folder = record {
    places = record { leads = λ path. path; stands = standing_at folder };
    failed = number folder.failed;
    refused = number folder.refused;
  }

  abbrev pub disk_in : MemoryFolder R → List ℕ → Option (List ℕ)
  disk_in folder path = Some (bytes_of (standing_at folder path))

  -- afterwards this is at the path, and nothing has changed at any other path
  pub record PutsAt (path : List ℕ) (standing : Standing) (old new : MemoryFolder R) : Type 0 where
    pub here : standing_at new path ≡ standing
    pub others : (place : List ℕ) → place ≢ path → standing_at new place ≡ standing_at old place

  -- one call fewer still passes. The call fails if none was left; otherwise it fails only if memory is refused, or for this reason
  pub record Spends {T : Type 0} (reason : Type 0) (result : Result T Error) (old new : MemoryFolder R) : Type 0 where
    pub spent : new.calls ≡ old.calls - 1
    pub blown : old.calls ≡ 0 → IsErr result
    pub cause : IfErr result (λ error. (old.calls ≡ 0) ⊎ ((error_kind error ≡ OutOfMemory) ⊎ reason))
