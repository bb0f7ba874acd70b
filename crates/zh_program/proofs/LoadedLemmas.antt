-- What a load has answered and kept. Its text is the only exchange, with the reply as its answer. If the file gave no text, or
-- no office was opened, there is none.
use Rattle.std.proofs.Common.{◌≡◌, ◌≢◌, ◌⊎◌, inl, inr, ℕ, false, List, [], ◌∷◌, Option, Result, Err, Ok, refl, sym, ap, subst, ⊎_elim}
use Rattle.std.proofs.lemmas.List.{append-nil}
use Rattle.std.specs.Prelude.{IsErrAnd, flat_map}
use Rattle.std.specs.Io.KnownBytes.{Appends, Keeps as KeepsBytes}
use Rattle.std.proofs.KnownBytes.{Appends-nil}
use Rattle.zh_disk.specs.Disk.{Trail}
use Rattle.zh_disk.specs.History.{History}
use Rattle.zh_districts.specs.Canton.{Canton, IsCanton}
use Rattle.zh_returns.specs.Tally.{Tally}
use Rattle.zh_commands.specs.declared.replies.Reply.{Reply}
use Rattle.zh_commands.specs.declared.replies.Reply.TheVariants.{Refused}
use Rattle.zh_ledger.specs.Opening.{Opening}
use Rattle.zh_ledger.specs.Submissions.{OnDisk}
use Rattle.zh_ledger.specs.declared.opening.OpenFault.{OpenFault}
use Rattle.zh_office.specs.Exchanges.{Exchange, IsCutShort, text_of}
use Rattle.zh_office.specs.Office.{Office}
use Rattle.zh_office.specs.Runs.{Turn}
use Rattle.zh_program.specs.Load.{GivenText, IsUnreadable, LoadedBy, LoadsFile, Replied, WritesPart, load_in, printed}
use Rattle.zh_program.specs.Opened.{IsFrom, IsOnlyOpened}
use Rattle.zh_program.specs.Run.{Streams, beside}
use Rattle.zh_program.specs.declared.fault.TaskFault.{TaskFault}
use Rattle.zh_program.specs.declared.fault.TaskFault.TheVariants as faults
use Rattle.zh_file.specs.declared.fault.FileFault.{FileFault}
use Rattle.zh_program.specs.Due.{AnswerText}
use Rattle.zh_program.specs.Order.{Conversation}
use Rattle.zh_program.proofs.ConductLemmas.{GoesOnTo, Keeps, nothing_given, opened_keeps, refused_keeps}
use Rattle.zh_program.proofs.EndingLemmas.{TellsOfFault}
use Rattle.zh_program.proofs.OrderLemmas.{IsTold}
use Rattle.zh_program.proofs.TalkLemmas.{IsSilent, talking, told_none}
use Rattle.zh_program.proofs.TurnLemmas.{at_rest, can_read, one_more}

-- An office that met no fault takes its turn.
turn_goes : (start end : OnDisk Office) (x : Exchange) → Turn start x end → start.holder.ledger.store.broken ≡ false → GoesOnTo start (x ∷ []) end
turn_goes start end x turn whole tally honest at =
    let opened = start.history.trail in
    let can = can_read tally.canton start.holder x.given whole (ap (λ (t : Tally). t.canton) at.sound.count) in
    let one = one_more tally opened [] start end x at honest turn can in
    ((at_rest tally opened [] start at, one.0, at_rest tally opened (x ∷ []) end one.1), one.1)

module _ (known : Option (List ℕ)) (source : GivenText) (old new : Streams) (read : KeepsBytes known source.bytes) (status : ℕ)
    (canton : Canton) (limits : IsCanton canton) (first last : History) where
  -- The exchange of a load, if any, in its conversation, and what is kept.
  pub record HasAnswered : Type 0 where
    pub exchanges : List Exchange
    pub opened : Trail
    pub due : AnswerText known (talking old new opened last.trail) status exchanges
    pub told : IsTold exchanges (talking old new opened last.trail)
    pub kept : Keeps canton first last (talking old new opened last.trail) exchanges

  none_due : (opened : Trail) → status ≢ 0 → IsSilent old new → AnswerText known (talking old new opened last.trail) status []
  none_due opened failed silent = record {
    bytes = source.bytes;
    read = read;
    loaded = inl (refl, failed);
    written = inl (subst (λ (w : Option (List ℕ)). Appends old.written w []) (sym silent.written) (Appends-nil old.written));
  }

  -- The file gave no text.
  none_given : status ≢ 0 → IsSilent old new → IsOnlyOpened (IsFrom canton first last) → HasAnswered
  none_given failed silent (start, from) =
      let opened = start.history.trail in
      let told : IsTold [] (talking old new opened last.trail)
      = subst (λ (h : History). IsTold [] (talking old new opened h.trail)) from.ended (told_none old new opened silent) in
      record {
        exchanges = [];
        opened = opened;
        due = none_due opened failed silent;
        told = told;
        kept = opened_keeps canton first last start start [] old new limits from (nothing_given start) told;
      }

  pub refused_answered : (fault : OpenFault) → status ≢ 0 → IsSilent old new → Opening canton first last (Err fault) → HasAnswered
  refused_answered fault failed silent opening =
      let told = told_none old new last.trail silent in
      record {
        exchanges = [];
        opened = last.trail;
        due = none_due last.trail failed silent;
        told = told;
        kept = refused_keeps canton first last fault old new limits opening told;
      }

  -- The text was loaded.
  module _ (start end : OnDisk Office) (from : IsFrom canton first last start end) (reply : Reply)
      (by : Replied source reply (beside old start) (beside new end)) where
    abbrev x : Exchange
    x = load_in source reply (beside old start) (beside new end) by.turn.loaded

    abbrev talk : Conversation
    talk = talking old new start.history.trail last.trail

    told : IsTold (x ∷ []) talk
    told = subst (λ (h : History). IsTold (x ∷ []) (talking old new start.history.trail h.trail)) from.ended by.order.follow

    kept : Keeps canton first last talk (x ∷ [])
    kept = opened_keeps canton first last start end (x ∷ []) old new limits from (turn_goes start end x by.turn.turn from.begun.opening.ready.whole) told

    has_answered : Appends old.written new.written (flat_map text_of (x ∷ [])) ⊎ ((status ≢ 0) × IsCutShort old.written new.written (x ∷ [])) → HasAnswered
    has_answered written = record {
      exchanges = x ∷ [];
      opened = start.history.trail;
      due = record { bytes = source.bytes; read = read; loaded = inr (x, by.turn.loaded, refl, refl); written = written };
      told = told;
      kept = kept;
    }

    reply_written : Appends old.written new.written (printed reply) → HasAnswered
    reply_written written = has_answered (inl (subst (Appends old.written new.written) (sym (append-nil (printed reply))) written))

    reply_part : status ≢ 0 → WritesPart old.written new.written (printed reply) → HasAnswered
    reply_part failed part =
        has_answered (inr (failed, record { whole = []; last = x; all = refl; front = part.front; part = part.part; written = part.written }))

  text_done : (result : Result (Unit {0}) TaskFault) → TellsOfFault status result → LoadedBy source old new (IsFrom canton first last) result → HasAnswered
  text_done (Ok done) failed by = reply_written by.start by.end by.spans by.did.0 by.did.2.replied by.did.2.written
  text_done (Err faults.Refused) failed by = reply_written by.start by.end by.spans (Refused by.did.0) by.did.1.replied by.did.1.written
  text_done (Err faults.Faulted) failed by = reply_written by.start by.end by.spans by.did.0 by.did.1.replied by.did.1.written
  text_done (Err faults.Write) failed by = reply_part by.start by.end by.spans by.did.0 by.did.1 (failed faults.Write refl) by.did.2
  text_done (Err fault) failed by = absurd by.did

  pub load_done : (Met : FileFault → Type 0) (unwritten : Type 0) → (unwritten → IsSilent old new)
      → (result : Result (Unit {0}) TaskFault)
      → TellsOfFault status result
      → LoadsFile Met unwritten (LoadedBy source old new) (IsFrom canton first last) result
      → HasAnswered
  load_done Met unwritten silent result failed by = ⊎_elim
      (λ loads. text_done result failed loads)
      (λ none. not_given result failed none.0 (silent none.1) none.2)
      by
    where
      not_given : (r : Result (Unit {0}) TaskFault) → TellsOfFault status r → IsErrAnd r (IsUnreadable Met) → IsSilent old new
          → IsOnlyOpened (IsFrom canton first last) → HasAnswered
      not_given (Ok done) tells is unchanged only = absurd is
      not_given (Err fault) tells is unchanged only = none_given (tells fault refl) unchanged only
