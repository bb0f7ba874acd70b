-- What has been read, answered and written when serving ends, by how it ends.
use Rattle.std.specs.Prelude.{◌≡◌, ◌<◌, ◌≤◌, ◌⊎◌, ◌+◌, ◌-◌, ◌*◌, ◌^◌, ℕ, List, [], ◌∷◌, ◌++◌, codes, map, min, length, IsTrue}
use Rattle.std.specs.Prelude.{Option, Some, Result, Ok, Err}
use Rattle.std.specs.Io.KnownBytes.{Appends, Consumes, IsAtEnd}
use Rattle.zh_disk.specs.History.{History}
use Rattle.zh_film.specs.Frames.{Frame, HasEnded, now_at, reads_in}
use Rattle.zh_film.specs.declared.kind.FrameKind.TheVariants.{Failed}
use Rattle.zh_ledger.specs.Submissions.{OnDisk, on_disk, IsLogged}
use Rattle.zh_office.specs.Exchanges.{Exchange, IsCutShort, lines_given, log_of, texts}
use Rattle.zh_office.specs.Text.{lines_of, ended_lines}
use Rattle.zh_office.specs.Office.{Office, its_ledger}
use Rattle.zh_office.specs.Order.{IsInOrder}
use Rattle.zh_office.specs.Runs.{Runs}
use Rattle.zh_office.specs.declared.service.ServeFault.{ServeFault}
use Rattle.zh_office.specs.declared.service.ServeFault.TheVariants as faults

-- the fault that ended serving, as reports spell it
abbrev pub serving_name : ServeFault → List ℕ
serving_name faults.Read = codes "read"
serving_name faults.Write = codes "write"
serving_name faults.Turns = codes "turns"

-- an office on its disk, the output and the remaining input, if they are known, and the frames of the film, latest first; a frame shows
-- the same at one time, but of the office and its disk only what was done to the disk
pub record Session : Type 0 where
  pub written : Option (List ℕ)
  pub office : OnDisk Office
  pub left : Option (List ℕ)
  pub film : List Frame

abbrev pub session : Option (List ℕ) → Office → History → Option (List ℕ) → List Frame → Session
session written office history left film = record { written = written; office = on_disk office history; left = left; film = film }

-- the session as a frame without a read
abbrev pub frame_at : Session → Frame
frame_at s = now_at s.left s.written s.office.history.trail

-- the latest frame of the film is of a failed read
abbrev pub HasFailedRead : List Frame → Type 0
HasFailedRead [] = ⊥
HasFailedRead (f ∷ fs) = f.kind ≡ Failed

-- Which lines of what was read are due, by the result. Without a fault all of them are: a read met the end of the input, and `count` is
-- their number, capped at the greatest u64. After a fault those are due that ended in what was read. If the writer failed and nothing is
-- left of the input, these can be all lines, with the last one, which has not ended.
abbrev pub AreDue : Session → List ℕ → List (List ℕ) → Result ℕ ServeFault → Type 0
AreDue new input lines (Ok count) =
    IsAtEnd new.left × HasEnded new.film × (lines ≡ lines_of input) × (count ≡ min (length lines) (2 ^ 64 - 1))
AreDue new input lines (Err faults.Write) = (lines ≡ ended_lines input) ⊎ (IsAtEnd new.left × (lines ≡ lines_of input))
AreDue new input lines (Err fault) = lines ≡ ended_lines input

-- what is written, by the result: all answers, and no line is left over; or, if the writer failed, the answers up to a proper prefix of
-- the last
abbrev pub WritesAnswers : Session → Session → List Exchange → List (List ℕ) → Result ℕ ServeFault → Type 0
WritesAnswers old new exchanges others (Err faults.Write) = IsCutShort old.written new.written exchanges
WritesAnswers old new exchanges others result = (others ≡ []) × Appends old.written new.written (texts exchanges)

-- The due lines of what was read are answered in these exchanges, except for those that are left over.
pub record Serves (old new : Session) (result : Result ℕ ServeFault) : Type 0 where
  pub input : List ℕ
  pub read : Consumes old.left new.left input
  pub lines : List (List ℕ)
  pub due : AreDue new input lines result
  pub exchanges : List Exchange
  pub others : List (List ℕ)
  pub answered : map Some lines ≡ lines_given exchanges ++ map Some others
  pub run : Runs old.office exchanges new.office
  pub written : WritesAnswers old new exchanges others result
  -- on an honest disk, the log of these exchanges is what was done
  pub kept : IsTrue new.office.history.honest → IsLogged (its_ledger old.office) (log_of exchanges) (its_ledger new.office)
  pub order : IsInOrder exchanges (frame_at old) new.film (frame_at new)

-- the bytes that the reader lost can be the result of this many reads of 1 to 8,192 bytes each
pub record TakesReads (reader reader' : Option (List ℕ)) (reads : ℕ) : Type 0 where
  pub bytes : List ℕ
  pub taken : Consumes reader reader' bytes
  pub least : reads ≤ length bytes
  pub most : length bytes ≤ 8192 * reads

-- a statement on the reads of a run: the reads in its film, the input before and after, and a bound
abbrev pub ReadsOf : Type 1
ReadsOf = List Frame → Option (List ℕ) → Option (List ℕ) → ℕ → Type 0

-- exactly `bound` reads are made, none met the end of the input, and each took at least one byte
abbrev pub MakesAllReads : ReadsOf
MakesAllReads film reader reader' bound = (reads_in film ≡ bound) × (¬ HasEnded film) × TakesReads reader reader' bound

-- at most `bound` reads are made, and each but the last took at least one byte
abbrev pub EndsWithinReads : ReadsOf
EndsWithinReads film reader reader' bound =
    (reads : ℕ) × (reads_in film ≡ reads + 1) × (reads < bound) × TakesReads reader reader' reads

-- at most `bound` reads are made, and each but at most one took at least one byte
abbrev pub MakesReadsUpTo : ReadsOf
MakesReadsUpTo film reader reader' bound =
    (reads : ℕ) × (reads ≤ reads_in film) × (reads_in film ≤ reads + 1) × (reads_in film ≤ bound) × TakesReads reader reader' reads

-- which of these holds, by the result
abbrev pub IsReadWithin : Result ℕ ServeFault → ReadsOf
IsReadWithin (Err faults.Write) = MakesReadsUpTo
IsReadWithin (Err faults.Turns) = MakesAllReads
IsReadWithin result = EndsWithinReads
