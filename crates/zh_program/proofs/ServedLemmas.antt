-- What a run has answered and kept.
use Rattle.std.proofs.Common.{◌≡◌, ◌≢◌, ◌⊎◌, ℕ, List, [], map, Option, Some, Result, Err, Ok, inl, inr, ⊎_elim, refl, sym, subst}
use Rattle.std.specs.Io.KnownBytes.{Appends, Consumes, IsAtEnd}
use Rattle.std.proofs.KnownBytes.{Appends-nil, Consumes-nil}
use Rattle.zh_disk.specs.Disk.{Trail}
use Rattle.zh_ledger.specs.Submissions.{OnDisk}
use Rattle.zh_office.specs.Exchanges.{Exchange, IsCutShort, texts}
use Rattle.zh_office.specs.Office.{Office}
use Rattle.zh_office.specs.Served.{AreDue, Serves, Session, WritesAnswers}
use Rattle.zh_office.specs.Text.{ended_lines, lines_of}
use Rattle.zh_office.specs.declared.service.ServeFault.{ServeFault}
use Rattle.zh_office.specs.declared.service.ServeFault.TheVariants as serving
use Rattle.zh_program.specs.Run.{ServedBy, Streams, beside}
use Rattle.zh_program.specs.declared.fault.TaskFault.{TaskFault}
use Rattle.zh_program.specs.declared.fault.TaskFault.TheVariants as faults
use Rattle.zh_program.specs.Due.{AnswerLines}
use Rattle.zh_program.proofs.ConductLemmas.{GoesOnTo}
use Rattle.zh_program.proofs.EndingLemmas.{TellsOfFault}
use Rattle.zh_program.proofs.OrderLemmas.{IsTold}
use Rattle.zh_program.proofs.RunLemmas.{run_turns}
use Rattle.zh_program.proofs.TalkLemmas.{IsSilent, talking}

-- If serving met a fault, the status is not 0.
abbrev TellsOfServing : ℕ → Result ℕ ServeFault → Type 0
TellsOfServing status result = (fault : ServeFault) → result ≡ Err fault → status ≢ 0

-- The due lines, and what is written of the answers.
due_by : (new : Session) (status : ℕ) (input : List ℕ) (lines : List (List ℕ)) (result : Result ℕ ServeFault) → TellsOfServing status result
    → AreDue new input lines result → (IsAtEnd new.left × (lines ≡ lines_of input)) ⊎ ((status ≢ 0) × (lines ≡ ended_lines input))
due_by new status input lines (Ok count) failed due = inl (due.0, due.2)
due_by new status input lines (Err serving.Write) failed due = ⊎_elim (λ ended. inr (failed serving.Write refl, ended)) (λ all. inl all) due
due_by new status input lines (Err fault) failed due = inr (failed fault refl, due)

written_by : (old new : Session) (status : ℕ) (xs : List Exchange) (others : List (List ℕ)) (result : Result ℕ ServeFault) → TellsOfServing status result
    → WritesAnswers old new xs others result
    → ((others ≡ []) × Appends old.written new.written (texts xs)) ⊎ ((status ≢ 0) × IsCutShort old.written new.written xs)
written_by old new status xs others (Err serving.Write) failed cut = inr (failed serving.Write refl, cut)
written_by old new status xs others result failed written = inl written

module _ (old new : Streams) (status : ℕ) (Spans : OnDisk Office → OnDisk Office → Type 0) where
  -- What an office has answered, from its start to its end.
  pub record IsServed : Type 0 where
    pub start : OnDisk Office
    pub end : OnDisk Office
    pub spans : Spans start end
    pub exchanges : List Exchange
    pub due : AnswerLines (talking old new start.history.trail end.history.trail) status exchanges
    pub told : IsTold exchanges (talking old new start.history.trail end.history.trail)
    pub goes : GoesOnTo start exchanges end

  served_by : (start end : OnDisk Office) → Spans start end → (result : Result ℕ ServeFault) → TellsOfServing status result
      → Serves (beside old start) (beside new end) result
      → IsServed
  served_by start end spans result failed s = record {
    start = start;
    end = end;
    spans = spans;
    exchanges = s.exchanges;
    due = record {
      input = s.input;
      read = s.read;
      lines = s.lines;
      due = due_by (beside new end) status s.input s.lines result failed s.due;
      others = s.others;
      answered = s.answered;
      written = written_by (beside old start) (beside new end) status s.exchanges s.others result failed s.written;
    };
    told = s.order.follow;
    goes = λ tally honest at. run_turns tally start.history.trail [] start s.exchanges end s.lines (map Some s.others) s.answered s.run honest at;
  }

  pub serve_done : (result : Result (Unit {0}) TaskFault) → TellsOfFault status result → ServedBy old new Spans result → IsServed
  serve_done (Ok done) failed by = served_by by.start by.end by.spans (Ok by.did.0) (λ fault is. absurd cc) by.did.1
  serve_done (Err faults.Faulted) failed by = served_by by.start by.end by.spans (Ok by.did.0) (λ fault is. absurd cc) by.did.1
  serve_done (Err (faults.Serve fault)) failed by =
      served_by by.start by.end by.spans (Err fault) (λ other is. failed (faults.Serve fault) refl) by.did
  serve_done (Err fault) failed by = absurd by.did

-- If nothing was read or written and the status is not 0, no line is due.
pub none_due : (old new : Streams) (status : ℕ) (t : Trail) → status ≢ 0 → IsSilent old new → AnswerLines (talking old new t t) status []
none_due old new status t failed silent = record {
  input = [];
  read = subst (λ (l : Option (List ℕ)). Consumes old.left l []) (sym silent.left) (Consumes-nil old.left);
  lines = [];
  due = inr (failed, refl);
  others = [];
  answered = refl;
  written = inl (refl, subst (λ (w : Option (List ℕ)). Appends old.written w []) (sym silent.written) (Appends-nil old.written));
}
