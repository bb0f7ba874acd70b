-- What answering lines adds to a film that is in order.
use Rattle.std.specs.Prelude.{◌≡◌, ◌≢◌, ◌↔◌, ◌<◌, ℕ, List, ◌∷◌, ◌++◌, length, map, take, Option, Some, Result, OnOk, OnErr}
use Rattle.std.specs.Io.KnownBytes.{Appends}
use Rattle.zh_text.specs.declared.output.WriteFault.{WriteFault}
use Rattle.zh_film.specs.Frames.{EndsOnce, Frame, HasEnded, InOrder, NoneFailed, reads_in}
use Rattle.zh_film.specs.declared.kind.FrameKind.{FrameKind}
use Rattle.zh_film.specs.declared.kind.FrameKind.TheVariants.{Asks}
use Rattle.zh_office.specs.Exchanges.{Exchange, IsCutShort, disk_by, lines_given, texts}
use Rattle.zh_office.specs.Order.{ComesAfter, IsInOrder}
use Rattle.zh_office.specs.Runs.{Runs}
use Rattle.zh_office.specs.Served.{Session, frame_at}
use Rattle.zh_office.specs.Text.{ended_lines, truncated, unfinished}

-- the frame of a session with this kind
abbrev pub frame_as : FrameKind → Session → Frame
frame_as kind s = record (frame_at s) { kind = kind }

-- Up to now the session is in order, whatever follows: these exchanges are done and answered, and no read failed. The latest frame shows
-- the present.
pub record IsOn (first : Frame) (done : List Exchange) (s : Session) : Type 0 where
  pub kind : FrameKind
  pub silent : kind ≢ Asks
  pub before : List Frame
  pub noted : s.film ≡ frame_as kind s ∷ before
  pub calm : NoneFailed s.film
  pub once : EndsOnce s.film
  pub order : (rest : List Exchange) → InOrder (ComesAfter (done ++ rest) first) first before (frame_as kind s)
  pub written : Appends first.written s.written (texts done)
  pub disk : s.office.history.trail ≡ disk_by first.disk done

-- the new film notes as many reads as the old one, and the end of the input exactly if the old one does
pub record NotesNoRead (old new : List Frame) : Type 0 where
  pub reads : reads_in new ≡ reads_in old
  pub ended : HasEnded new ↔ HasEnded old

-- these lines are answered and their answers written
pub record FilmsAll (lines : List (List ℕ)) (old new : Session) : Type 0 where
  pub exchanges : List Exchange
  pub answered : map Some lines ≡ lines_given exchanges
  pub run : Runs old.office exchanges new.office
  pub written : Appends old.written new.written (texts exchanges)
  pub unread : NotesNoRead old.film new.film
  pub on : (first : Frame) (done : List Exchange) → IsOn first done old → IsOn first (done ++ exchanges) new

-- some of these lines are answered, and of the last answer a proper prefix is written
pub record FilmsFront (lines : List (List ℕ)) (old new : Session) : Type 0 where
  pub exchanges : List Exchange
  pub others : List (List ℕ)
  pub answered : map Some lines ≡ lines_given exchanges ++ map Some others
  pub run : Runs old.office exchanges new.office
  pub written : IsCutShort old.written new.written exchanges
  pub unread : NotesNoRead old.film new.film
  pub broken : (first : Frame) (done : List Exchange) → IsOn first done old
      → IsInOrder (done ++ exchanges) first new.film (frame_at new) × NoneFailed new.film

-- the whole text is written, or, on a fault, a proper prefix of it
pub record WritesText (old new : Option (List ℕ)) (text : List ℕ) (result : Result (Unit {0}) WriteFault) : Type 0 where
  pub all : OnOk result (Appends old new text)
  pub front : OnErr result ((n : ℕ) × (n < length text) × Appends old new (take n text))

-- the block, after the bytes of a line that were kept, ends `count` lines; these are answered, and `line'` is kept of the line after them
pub record TakesBlock (old : Session) (line block : List ℕ) (new : Session) (line' : List ℕ) (count : ℕ) : Type 0 where
  pub films : FilmsAll (ended_lines (line ++ block)) old new
  pub left : line' ≡ truncated (unfinished (line ++ block))
  pub counted : count ≡ length (ended_lines (line ++ block))
