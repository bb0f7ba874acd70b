-- What a film shows.
use Rattle.std.specs.Prelude.{ℕ, ◌==◌, if◌then◌else◌, List, Result, Ok, Err}
use Rattle.zh_film.specs.Past.{items}
use Rattle.zh_film.specs.declared.kind.FrameKind.{FrameKind}
use Rattle.zh_film.specs.declared.kind.FrameKind.TheVariants.{Between, Ended, Failed}
use Rattle.zh_film.specs.declared.film.Film.{Film}
use Rattle.zh_film.specs.declared.film.Scene.{Scene}

-- what is noted after a read: that it failed, that it gave no byte (the end of the input), or neither
abbrev pub kind_after : {E : Type 0} → Result ℕ E → FrameKind
kind_after (Ok count) = if count == 0 then Ended else Between
kind_after (Err fault) = Failed

module _ {R W D : Type 0} where
  -- a reader, a writer and a disk at one time
  abbrev pub scene : FrameKind → R → W → D → Scene R W D
  scene kind reader writer disk = record {
    kind = kind;
    reader = record { marker = record {}; value = reader };
    writer = record { marker = record {}; value = writer };
    disk = record { marker = record {}; value = disk };
  }

  -- the scenes of a film, the latest first
  abbrev pub scenes : Film R W D → List (Scene R W D)
  scenes film = items film.scenes

  -- what the reads of a film gave, the latest first
  abbrev pub answers_noted : Film R W D → List FrameKind
  answers_noted film = items film.answers
