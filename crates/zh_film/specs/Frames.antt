-- What is known of a conversation at successive times.
use Rattle.std.specs.Prelude.{◌≡◌, ◌≢◌, ◌⊎◌, ◌+◌, ℕ, List, [], ◌∷◌, map, Option}
use Rattle.std.specs.declared.io.traits.Read.{Ghosts as Readers}
use Rattle.std.specs.declared.io.traits.Write.{Ghosts as Writers}
use Rattle.zh_disk.specs.Disk.{Trail}
use Rattle.zh_disk.specs.declared.disk.Disk.{Ghosts as Disks}
use Rattle.zh_film.specs.Scenes.{scenes}
use Rattle.zh_film.specs.declared.kind.FrameKind.{FrameKind}
use Rattle.zh_film.specs.declared.kind.FrameKind.TheVariants.{Asks, Between, Ended, Failed}
use Rattle.zh_film.specs.declared.film.Film.{Film}
use Rattle.zh_film.specs.declared.film.Scene.{Scene}

-- at one time: what is noted about a read, the rest of the input and the output so far, if they are known, and the trail of the disk
pub record Frame : Type 0 where
  pub kind : FrameKind
  pub left : Option (List ℕ)
  pub written : Option (List ℕ)
  pub disk : Trail

-- a frame that notes neither the start of a read, nor a failed read, nor the end of the input
abbrev pub now_at : Option (List ℕ) → Option (List ℕ) → Trail → Frame
now_at left written disk = record { kind = Between; left = left; written = written; disk = disk }

module _ {R W D : Type 0} where
  -- the frame of a scene
  abbrev pub frame_of : Readers R → Writers W → Disks D → Scene R W D → Frame
  frame_of readers writers disks s = record {
    kind = s.kind;
    left = readers.remaining s.reader.value;
    written = writers.contents s.writer.value;
    disk = (disks.history s.disk.value).trail;
  }

  -- the frames of a film, the latest first
  abbrev pub frames : Readers R → Writers W → Disks D → Film R W D → List Frame
  frames readers writers disks film = map (frame_of readers writers disks) (scenes film)

-- P holds of each two successive frames: `first`, then these, which are listed latest first, and then `now`
abbrev pub InOrder : (Frame → Frame → Type 0) → Frame → List Frame → Frame → Type 0
InOrder P first [] now = P first now
InOrder P first (f ∷ fs) now = P f now × InOrder P first fs f

-- none of these frames notes a failed read
abbrev pub NoneFailed : List Frame → Type 0
NoneFailed [] = Unit {0}
NoneFailed (f ∷ fs) = (f.kind ≢ Failed) × NoneFailed fs

-- one of these frames notes a read that gave no byte: the input is at its end
abbrev pub HasEnded : List Frame → Type 0
HasEnded [] = ⊥
HasEnded (f ∷ fs) = (f.kind ≡ Ended) ⊎ HasEnded fs

-- in these frames, the latest first, no read begins after one that gave no byte
abbrev pub EndsOnce : List Frame → Type 0
EndsOnce [] = Unit {0}
EndsOnce (f ∷ fs) = (f.kind ≡ Asks → ¬ HasEnded fs) × EndsOnce fs

-- how many reads begin at a frame, and in a list of frames
abbrev pub reads_noted : FrameKind → ℕ
reads_noted Asks = 1
reads_noted kind = 0

abbrev pub reads_in : List Frame → ℕ
reads_in [] = 0
reads_in (f ∷ fs) = reads_noted f.kind + reads_in fs

-- of these frames, the latest first, at most the latest notes a failed read
abbrev pub FailsLast : List Frame → Type 0
FailsLast [] = Unit {0}
FailsLast (f ∷ fs) = NoneFailed fs
