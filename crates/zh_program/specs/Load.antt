-- Loading a CSV file.
use Rattle.std.specs.Prelude.{◌≡◌, ◌≢◌, ◌⊎◌, ◌<◌, ◌+◌, ℕ, Bool, true, false, IsTrue}
use Rattle.std.specs.Prelude.{List, [], ◌∷◌, ◌++◌, length, take, Option, Some, None, Result, Ok, Err, IsErrAnd}
use Rattle.std.specs.Io.KnownBytes.{Appends, Keeps}
use Rattle.zh_districts.specs.Canton.{Canton}
use Rattle.zh_commands.specs.Replies.{answer}
use Rattle.zh_csv.specs.Noted.{has_failed}
use Rattle.zh_csv.specs.declared.noted_reader.NotedReader.{NotedReader}
use Rattle.zh_film.specs.Frames.{frames}
use Rattle.zh_film.specs.Scenes.{scenes}
use Rattle.zh_commands.specs.declared.replies.Reply.{Reply}
use Rattle.zh_commands.specs.declared.replies.Reply.TheVariants as replies
use Rattle.zh_commands.specs.declared.replies.Refusal.{Refusal}
use Rattle.zh_ledger.specs.Submissions.{OnDisk, IsLogged}
use Rattle.zh_returns.specs.declared.row.Row.{Row}
use Rattle.zh_csv.specs.declared.batch_reader.LoadFault.{LoadFault}
use Rattle.zh_office.specs.declared.answer.Answer.TheVariants as answers
use Rattle.zh_office.specs.Exchanges.{Exchange, log_of}
use Rattle.zh_office.specs.Exchanges.Given.{text as text_given}
use Rattle.zh_office.specs.Office.{Office, its_ledger}
use Rattle.zh_office.specs.Order.{IsInOrder}
use Rattle.zh_office.specs.Runs.{LoadTurn, exchange}
use Rattle.zh_office.specs.Served.{Session, frame_at}
use Rattle.zh_file.specs.declared.fault.FileFault.{FileFault}
use Rattle.zh_file.specs.declared.fault.FileFault.TheVariants as of_files
use Rattle.zh_program.specs.World.{IsMetAt, Known, FilmedOf, WorldOf}
use Rattle.zh_program.specs.Opened.{IsOnlyOpened, LeavesDisk, WithOffice}
use Rattle.zh_program.specs.Run.{ByOffice, Streams, streams_of}
use Rattle.zh_program.specs.declared.place.TaskFile.TheVariants as files
use Rattle.zh_program.specs.declared.fault.TaskFault.{TaskFault}
use Rattle.zh_program.specs.declared.fault.TaskFault.TheVariants as faults

-- A reply as it is written: without a desk number, and ended by LF, which is 10.
abbrev pub printed : Reply → List ℕ
printed reply = answer reply ++ 10 ∷ []

-- What is known of a text that was read: its bytes, if known, and whether a read failed.
pub record GivenText : Type 0 where
  pub bytes : Option (List ℕ)
  pub failed : Bool

abbrev pub given_text : Option (List ℕ) → Bool → GivenText
given_text bytes failed = record { bytes = bytes; failed = failed }

-- The exchange in which this text, loaded like this, got this reply.
abbrev pub load_in : GivenText → Reply → Session → Session → Result (List Row) LoadFault → Exchange
load_in text reply old new loaded = exchange old.office (text_given text.bytes loaded) (answers.Reply reply) new.office

-- Whether a read of the text failed; false if no text was loaded.
abbrev pub failed_of : {R : Type 0} → Option (NotedReader R) → Bool
failed_of None = false
failed_of (Some reader) = has_failed reader

-- An office was given this text and gave this reply. On an honest disk, its batch is kept like a command of a run. The reply is
-- written, whole or in part, after that.
pub record Replied (text : GivenText) (reply : Reply) (old new : Session) : Type 0 where
  pub turn : LoadTurn old.office text.bytes text.failed reply new.office
  pub kept : IsTrue new.office.history.honest
      → IsLogged (its_ledger old.office) (log_of (load_in text reply old new turn.loaded ∷ [])) (its_ledger new.office)
  pub order : IsInOrder (load_in text reply old new turn.loaded ∷ []) (frame_at old) new.film (frame_at new)

-- The whole reply is written. `faulted` says whether the device failed during the load.
pub record Loaded (text : GivenText) (reply : Reply) (faulted : Bool) (old new : Session) : Type 0 where
  pub replied : Replied text reply old new
  pub written : Appends old.written new.written (printed reply)
  pub device : new.office.holder.ledger.store.broken ≡ faulted

-- A proper prefix of a text is written.
pub record WritesPart (writer writer' : Option (List ℕ)) (text : List ℕ) : Type 0 where
  pub front : ℕ
  pub part : front < length text
  pub written : Appends writer writer' (take front text)

-- What loading this text has done, by its result.
abbrev pub LoadsText : GivenText → Result (Unit {0}) TaskFault → Session → Session → Type 0
LoadsText text (Ok done) old new =
    (reply : Reply) × ((refusal : Refusal) → reply ≢ replies.Refused refusal) × Loaded text reply false old new
LoadsText text (Err faults.Refused) old new = (refusal : Refusal) × Loaded text (replies.Refused refusal) false old new
LoadsText text (Err faults.Faulted) old new = (reply : Reply) × Loaded text reply true old new
LoadsText text (Err faults.Write) old new =
    (reply : Reply) × Replied text reply old new × WritesPart old.written new.written (printed reply)
LoadsText text (Err fault) old new = ⊥

-- An office was given this text, and the task has this result.
abbrev pub LoadedBy : GivenText → Streams → Streams → (OnDisk Office → OnDisk Office → Type 0) → Result (Unit {0}) TaskFault → Type 0
LoadedBy text old new Spans result = ByOffice old new Spans (LoadsText text result)

-- Some of the bytes are read, if it is known that there are any.
abbrev pub HasBegun : Option (List ℕ) → List ℕ → Type 0
HasBegun None read = Unit {0}
HasBegun (Some bytes) read = (bytes ≡ []) ⊎ (0 < length read)

-- The file gives no text, or the call that opens it met a fault.
abbrev pub IsUnreadable : (FileFault → Type 0) → TaskFault → Type 0
IsUnreadable Met (faults.Unopened files.Csv cause) = Met (of_files.Device cause)
IsUnreadable Met (faults.Unreadable files.Csv) = Unit {0}
IsUnreadable Met faults.Memory = Unit {0}
IsUnreadable Met fault = ⊥

-- The file gave this text, which was loaded; or it gave none, and the office was only opened.
abbrev pub LoadsFile : (FileFault → Type 0) → Type 0 → ((OnDisk Office → OnDisk Office → Type 0) → Result (Unit {0}) TaskFault → Type 0)
    → (OnDisk Office → OnDisk Office → Type 0) → Result (Unit {0}) TaskFault → Type 0
LoadsFile Met unwritten Loads Spans result =
    Loads Spans result ⊎ (IsErrAnd result (IsUnreadable Met) × unwritten × IsOnlyOpened Spans)

-- The number of calls of the files: one, for the text, if an office was opened.
abbrev pub text_calls : Result (Unit {0}) TaskFault → ℕ
text_calls (Err (faults.Open fault)) = 0
text_calls result = 1

-- Loading the CSV file at this path into the office on a disk, its film, and the reader of the text. The file is opened only
-- after the office, and no other file is. What is loaded is the text at the path, if its bytes are known.
pub record HasLoaded (of : Known) (csv : List ℕ) (canton : Canton) (before : WorldOf of × of.Disk) (after : WorldOf of × FilmedOf of)
    (result : Result (Unit {0}) TaskFault) : Type 0 where
  pub rest : after.0 ≡ record before.0 { output = after.0.output; files = after.0.files }
  pub counted : of.files.calls after.0.files ≡ of.files.calls before.0.files + text_calls result
  pub stays : of.files.places after.0.files ≡ of.files.places before.0.files
  pub text : GivenText
  pub read : Keeps (of.files.text_at before.0.files csv) text.bytes
  pub noted : text.failed ≡ failed_of after.1.text
  pub loaded : WithOffice canton (of.disks.history before.1) (of.disks.history after.1.disk)
      ((after.0 ≡ before.0) × (scenes after.1.film ≡ []))
      (LoadsFile (IsMetAt of.files csv before.0.files after.0.files) ((after.0.output ≡ before.0.output) × (scenes after.1.film ≡ []))
      (LoadedBy text (streams_of of before.0 []) (streams_of of after.0 (frames of.readers of.writers of.disks after.1.film)))) result
  pub disk : LeavesDisk (of.disks.history before.1) (of.disks.history after.1.disk) result
