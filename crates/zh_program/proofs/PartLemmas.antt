-- What a task on a disk has done, by the task: the due exchanges, told in order, and what is kept of the disk. A task that
-- opens no office or answers nothing has no exchanges.
use Rattle.std.proofs.Common.{◌≡◌, ℕ, List, [], map, Option, Some, None, Result, Err, Ok, OnOk, IsTrue, ⊎_elim, refl, ap, subst}
use Rattle.std.specs.Borrow.{Bor}
use Rattle.std.specs.Io.KnownBytes.{Keeps as KeepsBytes}
use Rattle.zh_disk.specs.Disk.{Trail}
use Rattle.zh_disk.specs.History.{History}
use Rattle.zh_districts.specs.Canton.{Canton, IsCanton}
use Rattle.zh_returns.specs.Tally.{Tally}
use Rattle.zh_ledger.specs.Opening.{Opening}
use Rattle.zh_ledger.specs.Submissions.{OnDisk}
use Rattle.zh_ledger.specs.declared.opening.OpenFault.{OpenFault}
use Rattle.zh_office.specs.Office.{Office}
use Rattle.zh_arguments.specs.declared.arguments.Paths.{Paths}
use Rattle.zh_arguments.specs.declared.arguments.Task.{Task}
use Rattle.zh_arguments.specs.declared.arguments.Task.TheVariants.{Format, Run, Load}
use Rattle.zh_file.specs.Files.{BeginsOrIsMade}
use Rattle.zh_program.specs.Format.{Formatted, FormatsBlank}
use Rattle.zh_program.specs.Load.{HasLoaded, LoadedBy, LoadsFile}
use Rattle.zh_program.specs.OnDisk.{HasUsed, UsesDisk}
use Rattle.zh_program.specs.Opened.{IsFrom, IsOnlyOpened, WithOffice}
use Rattle.zh_film.specs.Frames.{frame_of, frames}
use Rattle.zh_film.specs.Scenes.{scenes}
use Rattle.zh_program.specs.Run.{Ran, ServedBy, Streams, streams_of}
use Rattle.zh_program.specs.Reading.{MakesReading}
use Rattle.zh_program.specs.World.{EndOf, FilmedOf, IsMetAt, IsSetupAt, Known, WorldOf}
use Rattle.zh_program.specs.declared.on_disk.Work.{Work}
use Rattle.zh_program.specs.declared.fault.TaskFault.{TaskFault}
use Rattle.zh_program.specs.declared.fault.TaskFault.TheVariants as faults
use Rattle.zh_file.specs.declared.fault.FileFault.{FileFault}
use Rattle.zh_program.specs.Due.{AnswerLines, AreOfTask, conversation, talk_of}
use Rattle.zh_office.specs.Exchanges.{Exchange}
use Rattle.zh_program.specs.Order.{Conversation}
use Rattle.zh_program.specs.Stopped.{MakesEmpty}
use Rattle.zh_program.proofs.BeginningLemmas.{begun_filled, begun_there, fresh_made, known_made}
use Rattle.zh_program.proofs.ConductLemmas.{Keeps, nothing_given, opened_keeps, refused_keeps, unchanged_keeps}
use Rattle.zh_program.proofs.EmptyLemmas.{formatted_left, not_formatted}
use Rattle.zh_program.proofs.EndingLemmas.{TellsOfFault}
use Rattle.zh_program.proofs.LoadedLemmas.{HasAnswered, load_done, refused_answered}
use Rattle.zh_program.proofs.OrderLemmas.{IsTold}
use Rattle.zh_program.proofs.ServedLemmas.{IsServed, none_due, serve_done}
use Rattle.zh_program.proofs.TalkLemmas.{IsSilent, talking, told_none}

pub setup_limits : (known : Option (List ℕ)) (canton : Canton) → IsSetupAt known canton → IsCanton canton
setup_limits None canton is = is
setup_limits (Some text) canton is = is.0

-- What holds if the task was done holds with status 0.
where_done : {X : Type 0} (status : ℕ) (result : Result (Unit {0}) TaskFault) → TellsOfFault status result → OnOk result X → status ≡ 0 → X
where_done status (Ok done) failed by zero = by
where_done status (Err fault) failed by zero = absurd (failed fault refl zero)

-- What was done with an office, or that none was opened.
by_office : {X : Type 0} (canton : Canton) (first last : History) (nothing : Type 0)
    (Does : (OnDisk Office → OnDisk Office → Type 0) → Result (Unit {0}) TaskFault → Type 0) (result : Result (Unit {0}) TaskFault)
    → WithOffice canton first last nothing Does result
    → ((fault : OpenFault) → result ≡ Err (faults.Open fault) → nothing → Opening canton first last (Err fault) → X)
    → (Does (IsFrom canton first last) result → X)
    → X
by_office canton first last nothing Does (Err (faults.Open fault)) by refused opened = refused fault refl by.0 by.1
by_office canton first last nothing Does (Ok done) by refused opened = opened by
by_office canton first last nothing Does (Err fault) by refused opened = opened by

module _ (of : Known) where
  -- No disk was opened and none is handed over; or the work was done on the one handed over.
  pub by_disk : {X : Type 0} (work : Work) (paths : Paths) (old new : WorldOf of) (ended : EndOf of) → UsesDisk of work paths old new ended
      → (ended.used ≡ None → X)
      → (HasUsed of work paths old new ended → X)
      → X
  by_disk work paths old new ended by none uses = ⊎_elim (λ early. none early.none) (λ used. uses used) by

  -- A task that answers no lines and loads no text: no exchange is due, and its output is not part of a conversation.
  pub record AnswersNone (task : Task) : Type 0 where
    pub due : (text_at : List ℕ → Option (List ℕ)) (talk : Conversation) (status : ℕ) → AreOfTask text_at task talk status []
    pub apart : (old after : WorldOf of) (opened : Trail) (used : FilmedOf of)
        → conversation of after after opened (of.disks.history used.disk).trail [] ≡ talk_of of task old after opened used

  -- The due exchanges of a task in its conversation, and what is kept of a disk that began with this history.
  pub record HasDone (task : Task) (old after : WorldOf of) (status : ℕ) (canton : Canton) (first : History) (used : FilmedOf of) : Type 0 where
    pub exchanges : List Exchange
    pub opened : Trail
    pub due : AreOfTask (of.files.text_at old.files) task (talk_of of task old after opened used) status exchanges
    pub told : IsTold exchanges (talk_of of task old after opened used)
    pub kept : Keeps canton first (of.disks.history used.disk) (talk_of of task old after opened used) exchanges

  module _ (old after : WorldOf of) (files : of.Folder) (first : of.Disk) (used : FilmedOf of) (canton : Canton) (limits : IsCanton canton)
      (status : ℕ) (result : Result (Unit {0}) TaskFault) (failed : TellsOfFault status result) where
    abbrev pub begun : History
    begun = of.disks.history first

    abbrev pub ended : History
    ended = of.disks.history used.disk

    -- The streams before, and the streams after with the film.
    abbrev before : Streams
    before = streams_of of old []

    abbrev now : Streams
    now = streams_of of after (frames of.readers of.writers of.disks used.film)

    -- The world after the calls of its files.
    abbrev asked : WorldOf of
    asked = record old { files = files }

    none_shown : scenes used.film ≡ [] → frames of.readers of.writers of.disks used.film ≡ []
    none_shown none = ap (map (frame_of of.readers of.writers of.disks)) none

    served : (paths : Paths) → IsServed before now status (IsFrom canton begun ended) → HasDone (Run paths) old after status canton begun used
    served paths by =
        let opened = by.start.history.trail in
        let told : IsTold by.exchanges (talking before now opened ended.trail)
        = subst (λ (h : History). IsTold by.exchanges (talking before now opened h.trail)) by.spans.ended by.told in
        record {
          exchanges = by.exchanges;
          opened = opened;
          due = subst (λ (h : History). AnswerLines (talking before now opened h.trail) status by.exchanges) by.spans.ended by.due;
          told = told;
          kept = opened_keeps canton begun ended by.start by.end by.exchanges before now limits by.spans by.goes told;
        }

    pub run_part : (paths : Paths) → Ran of canton (asked, first) (after, used) result
        → HasDone (Run paths) old after status canton begun used
    run_part paths ran =
        let untouched : Type 0 = (after.input ≡ old.input) × (after.output ≡ old.output) × (scenes used.film ≡ []) in
        by_office canton begun ended untouched (ServedBy before now) result ran.served
        (λ fault is same opening.
        let silent : IsSilent before now
        = record { left = ap of.readers.remaining same.0; written = ap of.writers.contents same.1; film = none_shown same.2 } in
        let told = told_none before now ended.trail silent in
        record {
          exchanges = [];
          opened = ended.trail;
          due = none_due before now status ended.trail (failed (faults.Open fault) is) silent;
          told = told;
          kept = refused_keeps canton begun ended fault before now limits opening told;
        })
        (λ serves. served paths (serve_done before now status (IsFrom canton begun ended) result failed serves))

    pub load_part : (paths : Paths) (csv : Bor (List ℕ)) → of.files.text_at files ≡ of.files.text_at old.files
        → HasLoaded of csv.now canton (asked, first) (after, used) result
        → HasDone (Load paths csv) old after status canton begun used
    load_part paths csv texts by =
        let known = of.files.text_at old.files csv.now in
        let Met : FileFault → Type 0 = IsMetAt of.files csv.now files after.files in
        let untouched : Type 0 = (after ≡ asked) × (scenes used.film ≡ []) in
        let unwritten : Type 0 = (after.output ≡ old.output) × (scenes used.film ≡ []) in
        let read : KeepsBytes known by.text.bytes
        = subst (λ (at : List ℕ → Option (List ℕ)). KeepsBytes (at csv.now) by.text.bytes) texts by.read in
        let left : now.left ≡ before.left = ap (λ (world : WorldOf of). of.readers.remaining world.input) by.rest in
        let silent : unwritten → IsSilent before now
        = λ same. record { left = left; written = ap of.writers.contents same.0; film = none_shown same.1 } in
        let answered : HasAnswered known by.text before now read status canton limits begun ended → HasDone (Load paths csv) old after status canton begun used
        = λ a. record { exchanges = a.exchanges; opened = a.opened; due = a.due; told = a.told; kept = a.kept } in
        by_office canton begun ended untouched (LoadsFile Met unwritten (LoadedBy by.text before now)) result by.loaded
        (λ fault is same opening.
        let unchanged = silent (ap (λ (world : WorldOf of). world.output) same.0, same.1) in
        answered (refused_answered known by.text before now read status canton limits begun ended fault (failed (faults.Open fault) is) unchanged opening))
        (λ loads. answered (load_done known by.text before now read status canton limits begun ended Met unwritten silent result failed loads))

    -- The output of a task that answers nothing is not part of a conversation.
    abbrev apart : Streams
    apart = streams_of of after []

    abbrev none_told : (opened : Trail) → Conversation
    none_told opened = talking apart apart opened ended.trail

    apart_silent : IsSilent apart apart
    apart_silent = record { left = refl; written = refl; film = refl }

    -- The task had no exchange.
    none_done : (task : Task) → AnswersNone task → (opened : Trail) → IsTold [] (none_told opened) → Keeps canton begun ended (none_told opened) []
        → HasDone task old after status canton begun used
    none_done task none opened told kept =
        let same : none_told opened ≡ talk_of of task old after opened used = none.apart old after opened used in
        record {
          exchanges = [];
          opened = opened;
          due = none.due (of.files.text_at old.files) (talk_of of task old after opened used) status;
          told = subst (IsTold []) same told;
          kept = subst (λ (talk : Conversation). Keeps canton begun ended talk []) same kept;
        }

    -- An office was opened and nothing was given to it, or none was opened.
    only_part : (task : Task) → AnswersNone task → (nothing : Type 0)
        (Does : (OnDisk Office → OnDisk Office → Type 0) → Result (Unit {0}) TaskFault → Type 0)
        → (Does (IsFrom canton begun ended) result → IsOnlyOpened (IsFrom canton begun ended))
        → WithOffice canton begun ended nothing Does result
        → HasDone task old after status canton begun used
    only_part task none nothing Does only by =
        by_office canton begun ended nothing Does result by
        (λ fault is same opening.
        let told = told_none apart apart ended.trail apart_silent in
        none_done task none ended.trail told (refused_keeps canton begun ended fault apart apart limits opening told))
        (λ does.
        let opens = only does in
        let start = opens.0 in
        let opened = start.history.trail in
        let told : IsTold [] (none_told opened)
        = subst (λ (h : History). IsTold [] (talking apart apart opened h.trail)) opens.1.ended (told_none apart apart opened apart_silent) in
        none_done task none opened told (opened_keeps canton begun ended start start [] apart apart limits opens.1 (nothing_given start) told))

    -- The same for a task that only reads the count.
    pub read_part : (task : Task) → AnswersNone task → (Reads : Tally → WorldOf of → WorldOf of → Result (Unit {0}) TaskFault → Type 0)
        → MakesReading of Reads canton (asked, first) (after, used.disk) result
        → HasDone task old after status canton begun used
    read_part task none Reads by =
        only_part task none (after ≡ asked) (λ Spans end. (start : OnDisk Office) × Spans start start × Reads start.holder.ledger.tally asked after end)
        (λ reads. (reads.0, reads.1)) by.read

    pub format_part : (paths : Paths) → Formatted of canton (asked, first) (after, used.disk) result → HasDone (Format paths) old after status canton begun used
    format_part paths by =
        let told = told_none apart apart ended.trail apart_silent in
        record {
          exchanges = [];
          opened = ended.trail;
          due = refl;
          told = told;
          kept = unchanged_keeps canton begun ended apart apart told (λ honest bytes fresh tally own holds.
              not_formatted canton tally bytes result ended.trail holds (subst (λ (t : Trail). FormatsBlank canton result t ended.trail) fresh (by.call.did honest)));
        }

    pub made_empty : Formatted of canton (asked, first) (after, used.disk) result → (known : Option (List ℕ)) → BeginsOrIsMade known begun
        → IsTrue ended.honest
        → (bytes : List ℕ) → known ≡ Some bytes
        → MakesEmpty bytes status ended.trail
    made_empty by known begins honest bytes is =
        let began = known_made known begun bytes begins (by.call.kept honest) is in
        let fresh = fresh_made bytes begun.trail began in
        record {
          first = begun.trail.now.bytes;
          began = begun_there bytes begun.trail began;
          filled = begun_filled bytes begun.trail began;
          canton = canton;
          limits = limits;
          moments = formatted_left canton limits begun.trail.now.bytes result ended.trail
              (subst (λ (t : Trail). FormatsBlank canton result t ended.trail) fresh (by.call.did honest));
          made = λ zero. where_done status result failed (by.call.did honest).formatted zero;
        }
