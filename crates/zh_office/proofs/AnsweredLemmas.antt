-- A loading is answered as its forecast says.
use Rattle.std.proofs.Common.{◌≡◌, ◌≢◌, ◌<◌, ◌||◌, ◌⊎◌, inl, inr, ℕ, ◌+◌, List, [], ◌∷◌, ◌++◌, map, Bool, true, false}
use Rattle.std.proofs.Common.{Some, Result, Ok, Err, refl, sym, ap, ◌∙◌, subst, if◌then◌else◌}
use Rattle.std.specs.List.{list_any}
use Rattle.std.proofs.Math.Bool.{or-true}
use Rattle.std.proofs.lemmas.List.Folds.{list_any-append}
use Rattle.zh_districts.specs.Canton.{Canton}
use Rattle.zh_returns.specs.declared.command.Command.{Command}
use Rattle.zh_returns.specs.declared.command.Command.TheVariants as commands
use Rattle.zh_returns.specs.declared.row.Row.{Row}
use Rattle.zh_returns.specs.Judgement.{is_accept, is_refusal, judge_row, of_all}
use Rattle.zh_returns.specs.Tally.{Tally}
use Rattle.zh_returns.specs.declared.judgement.Verdict.{Verdict}
use Rattle.zh_returns.specs.declared.judgement.Verdict.TheVariants as verdicts
use Rattle.zh_commands.specs.declared.replies.Reply.{Reply}
use Rattle.zh_commands.specs.declared.replies.Reply.TheVariants as replies
use Rattle.zh_commands.specs.declared.replies.Refusal.TheVariants as refusals
use Rattle.zh_csv.specs.Front.{front_of, most_bytes}
use Rattle.zh_csv.specs.Load.{loading, LoadsFrom}
use Rattle.zh_csv.specs.Records.{Record, AreAll, names, may_be_row, record_size}
use Rattle.zh_csv.specs.declared.batch_reader.LoadFault.{LoadFault}
use Rattle.zh_csv.specs.declared.batch_reader.LoadFault.TheVariants as faults
use Rattle.zh_csv.proofs.CallerLemmas.{EndsInPart, all_of_front, is_loading, never_cut, too_long}
use Rattle.zh_ledger.specs.Ledger.{Ledger, MayFollow, MayResultWhere, MayStoreWhere, is_spent}
use Rattle.zh_ledger.specs.Submissions.{OnDisk}
use Rattle.zh_ledger.specs.declared.outcome.Outcome.{Outcome}
use Rattle.zh_ledger.specs.declared.outcome.Outcome.TheVariants as outcomes
use Rattle.zh_office.specs.Requests.{Acts, reply_to}
use Rattle.zh_office.specs.declared.answer.Answer.TheVariants as answers
use Rattle.zh_office.specs.Load.{command_loaded, load_refusal, load_reply}
use Rattle.zh_office.specs.Office.{Office, its_ledger}
use Rattle.zh_office.specs.Runs.{LoadTurn}
use Rattle.zh_office.specs.Undisturbed.{is_disturbed, is_memory}
use Rattle.zh_office.specs.Answered.{IsAnswered, IsByJudgement}
use Rattle.zh_office.specs.Findings.{Finding, begun, findings, forecast_of, refuses}
use Rattle.zh_office.proofs.AnyLemmas.{all_refused, all_taken, answered_refused, answered_same, answered_stored, any_refused, any_stored}
use Rattle.zh_office.proofs.FindingLemmas.{begun_push, next_finding}
use Rattle.zh_office.proofs.RowLemmas.{names_missed, read_other}
use Rattle.zh_office.proofs.LoadedLemmas.{FindsRefused, fault_refused, refused_are, stored_are}

disturbed : (reply other : Reply) → IsByJudgement reply → answers.Reply reply ≡ answers.Reply other → is_disturbed (answers.Reply other) ≡ true → ⊥
disturbed reply other by_judgement is wrong =
    let both : true ≡ false = sym wrong ∙ ap is_disturbed (sym is) ∙ by_judgement.calm in
    cc both

out_of_memory : (reply other : Reply) → IsByJudgement reply → answers.Reply reply ≡ answers.Reply other → is_memory (answers.Reply other) ≡ true → ⊥
out_of_memory reply other by_judgement is wrong =
    let both : true ≡ false = sym wrong ∙ ap is_memory (sym is) ∙ by_judgement.memory in
    cc both

same_reply : (reply other : Reply) → answers.Reply reply ≡ answers.Reply other → other ≡ reply
same_reply reply other is = cc is

-- the reply is as forecast
abbrev KeepsForecast : List Finding → Reply → Type 0
KeepsForecast found reply = IsAnswered (forecast_of found) reply

-- the replies to a batch, by the verdict on it
module _ (found : List Finding) (ledger : Ledger) (command : Command) (reply : Reply) (outcome : Outcome)
    (by_judgement : IsByJudgement reply) (reports : answers.Reply reply ≡ answers.Reply (reply_to outcome)) where
  reports_this : (other : Outcome) → outcome ≡ other → answers.Reply reply ≡ answers.Reply (reply_to other)
  reports_this other is = reports ∙ ap (λ (o : Outcome). answers.Reply (reply_to o)) is

  answered_by : (other : Outcome) → outcome ≡ other → KeepsForecast found (reply_to other) → KeepsForecast found reply
  answered_by other is answered = subst (KeepsForecast found) (same_reply reply (reply_to other) (reports_this other is)) answered

  not_disturbed : (other : Outcome) → outcome ≡ other → is_disturbed (answers.Reply (reply_to other)) ≡ true → ⊥
  not_disturbed other is wrong = disturbed reply (reply_to other) by_judgement (reports_this other is) wrong

  refusal_answered : (v : Verdict) → is_refusal v ≡ true → MayFollow v ledger command outcome → any_refused found ≡ true → KeepsForecast found reply
  refusal_answered verdicts.Accept is follows refused = cc is
  refusal_answered verdicts.Same is follows refused = cc is
  refusal_answered (verdicts.Refused reason) is follows refused =
      answered_by (outcomes.Refused reason) follows (answered_refused found (refusals.Judged reason) refused)

  stored_answered : (spent : Bool) → MayStoreWhere spent ledger.tally.accepted outcome → any_refused found ≡ false → any_stored found ≡ true
      → KeepsForecast found reply
  stored_answered true is none stored = absurd (not_disturbed outcomes.Spent is refl)
  stored_answered false (inl is) none stored =
      let accepted : ℕ = ledger.tally.accepted + 1 in
      answered_by (outcomes.Stored accepted) is (answered_stored found accepted none stored)
  stored_answered false (inr is) none stored = absurd (not_disturbed outcomes.Device is refl)

  taken_answered : (accepts : Bool) → any_stored found ≡ accepts
      → MayFollow (if accepts then verdicts.Accept else verdicts.Same) ledger command outcome → any_refused found ≡ false
      → KeepsForecast found reply
  taken_answered true stored follows none = stored_answered (is_spent ledger command) follows none stored
  taken_answered false stored follows none = answered_by outcomes.Same follows (answered_same found none stored)

  batch_answered : (all : List Verdict) (refused : Bool) → list_any is_refusal all ≡ refused
      → any_refused found ≡ list_any is_refusal all → any_stored found ≡ list_any is_accept all
      → MayFollow (of_all all) ledger command outcome → KeepsForecast found reply
  batch_answered all true is refused stored follows = refusal_answered (of_all all) (all_refused all is) follows (refused ∙ is)
  batch_answered all false is refused stored follows =
      let follows' = subst (λ (v : Verdict). MayFollow v ledger command outcome) (all_taken all is) follows in
      taken_answered (list_any is_accept all) stored follows' (refused ∙ is)

-- the effect of what was loaded, by whether the device had failed before
abbrev ActsWhere : OnDisk Office → OnDisk Office → Reply → Result (List Row) LoadFault → Bool → Type 0
ActsWhere old new reply loaded broken =
    Acts (its_ledger old) (command_loaded broken loaded) (λ a. a ≡ answers.Reply (load_reply broken loaded)) (answers.Reply reply) (its_ledger new)

-- the findings on these records
abbrev found_in : OnDisk Office → List Record → List Finding
found_in old records = findings old.holder.ledger.tally records

module _ (old new : OnDisk Office) (text : List ℕ) (records : List Record) (reply : Reply) (all : AreAll text records)
    (by_judgement : IsByJudgement reply) where
  -- an office that is not broken
  answered : (loaded : Result (List Row) LoadFault) → old.holder.ledger.store.broken ≡ false
      → LoadsFrom old.holder.ledger.tally.canton (Some text) false loaded → ActsWhere old new reply loaded false
      → KeepsForecast (found_in old records) reply
  answered (Err fault) whole loads acts =
      let tally : Tally = old.holder.ledger.tally in
      let reply_is = same_reply reply (replies.Refused (load_refusal fault)) acts.0 in
      let memory : fault ≢ faults.Memory = λ is.
      out_of_memory reply (replies.Refused (load_refusal fault)) by_judgement acts.0
      (ap (λ (f : LoadFault). is_memory (answers.Reply (replies.Refused (load_refusal f)))) is) in
      let read : fault ≢ faults.Read = λ is.
      let failed : false ≡ true = loads.read (ap (λ (f : LoadFault). Err f) is) in cc failed in
      let refused = fault_refused tally text records fault memory read all (loads.known text refl) in
      subst (KeepsForecast (findings tally records)) reply_is (answered_refused (findings tally records) (load_refusal fault) refused)
  answered (Ok []) whole loads acts =
      let tally : Tally = old.holder.ledger.tally in
      let none = refused_are tally text records [] all (loads.known text refl) in
      let not = stored_are tally text records [] all (loads.known text refl) in
      subst (KeepsForecast (findings tally records)) (same_reply reply replies.Same acts.0) (answered_same (findings tally records) none not)
  answered (Ok (row ∷ rows)) whole loads acts =
      let tally : Tally = old.holder.ledger.tally in
      let command : Command = commands.Batch 0 (row ∷ rows) in
      let outcome : Outcome = acts.outcome in
      let follows = subst (λ (b : Bool). MayResultWhere b old.holder.ledger command outcome) whole acts.submission.results in
      let verdicts_on : List Verdict = map (judge_row tally) (row ∷ rows) in
      let refused = refused_are tally text records (row ∷ rows) all (loads.known text refl) in
      let stored = stored_are tally text records (row ∷ rows) all (loads.known text refl) in
      batch_answered (findings tally records) old.holder.ledger command reply outcome by_judgement acts.reply verdicts_on
      (list_any is_refusal verdicts_on) refl refused stored follows

-- a record that is too long is refused
long_refused : (tally : Tally) (few : List Record) (part : Record) → most_bytes < record_size part → FindsRefused tally (few ++ part ∷ [])
long_refused tally [] part long =
    let other : part ≡ names → ⊥ = λ same. let wrong : true ≡ false = ap may_be_row (sym same) ∙ too_long part long in cc wrong in
    let bad = names_missed part other in
    rw bad refl
long_refused tally (first ∷ others) part long =
    let last : List Finding = next_finding tally 2 [] others part ∷ [] in
    let refused : any_refused last ≡ true = rw (read_other part (too_long part long)) refl in
    ap any_refused (begun_push tally first others part)
    ∙ list_any-append (λ (f : Finding). refuses f.judgement) (begun tally (first ∷ others)) last
    ∙ ap (λ (b : Bool). any_refused (begun tally (first ∷ others)) || b) refused ∙ or-true (any_refused (begun tally (first ∷ others)))

-- a text that is not read to its end
module _ (old new : OnDisk Office) (text : List ℕ) (records : List Record) (reply : Reply) (cut : EndsInPart text records) where
  cut_answered : (loaded : Result (List Row) LoadFault) → LoadsFrom old.holder.ledger.tally.canton (Some text) false loaded
      → ActsWhere old new reply loaded false → KeepsForecast (found_in old records) reply
  cut_answered (Err fault) loads acts =
      let tally : Tally = old.holder.ledger.tally in
      let reply_is = same_reply reply (replies.Refused (load_refusal fault)) acts.0 in
      let refused : FindsRefused tally records =
      ap (λ (l : List Record). any_refused (findings tally l)) cut.is ∙ long_refused tally cut.few cut.part cut.long in
      subst (KeepsForecast (findings tally records)) reply_is (answered_refused (findings tally records) (load_refusal fault) refused)
  cut_answered (Ok rows) loads acts =
      let canton : Canton = old.holder.ledger.tally.canton in
      let (all, are) = loads.known text refl in
      absurd (never_cut (loading canton) (is_loading canton) text rows cut.few cut.last are all cut.first cut.longer)

-- a loading of a text
module _ (old new : OnDisk Office) (text : List ℕ) (records : List Record) (reply : Reply) (turn : LoadTurn old (Some text) false reply new)
    (by_judgement : IsByJudgement reply) where
  acts_so : (broken : Bool) → old.holder.ledger.store.broken ≡ broken → ActsWhere old new reply turn.loaded broken
  acts_so broken is = subst (ActsWhere old new reply turn.loaded) is turn.turn.acts

  -- the device had failed before, or it had not
  broken_or : (old.holder.ledger.store.broken ≡ false → KeepsForecast (found_in old records) reply) → (broken : Bool)
      → old.holder.ledger.store.broken ≡ broken → KeepsForecast (found_in old records) reply
  broken_or whole true is = absurd (disturbed reply (replies.Refused refusals.ReopenDisk) by_judgement (acts_so true is).0 refl)
  broken_or whole false is = whole is

  -- the whole text is read
  forecast_kept : AreAll text records → KeepsForecast (found_in old records) reply
  forecast_kept all =
      let whole : old.holder.ledger.store.broken ≡ false → KeepsForecast (found_in old records) reply = λ is.
      answered old new text records reply all by_judgement turn.loaded is (turn.loads is) (acts_so false is) in
      broken_or whole old.holder.ledger.store.broken refl

  -- the text is not read to its end
  forecast_cut : EndsInPart text records → KeepsForecast (found_in old records) reply
  forecast_cut cut =
      let whole : old.holder.ledger.store.broken ≡ false → KeepsForecast (found_in old records) reply = λ is.
      cut_answered old new text records reply cut turn.loaded (turn.loads is) (acts_so false is) in
      broken_or whole old.holder.ledger.store.broken refl

  forecast_read : AreAll text records ⊎ EndsInPart text records → KeepsForecast (found_in old records) reply
  forecast_read (inl all) = forecast_kept all
  forecast_read (inr cut) = forecast_cut cut

pub forecast_of_text : (old new : OnDisk Office) (text : List ℕ) (records : List Record) (reply : Reply)
    → LoadTurn old (Some text) false reply new → (AreAll text records ⊎ AreAll (front_of text) records) → IsByJudgement reply
    → KeepsForecast (found_in old records) reply
forecast_of_text old new text records reply turn (inl whole) by_judgement = forecast_kept old new text records reply turn by_judgement whole
forecast_of_text old new text records reply turn (inr read) by_judgement =
    forecast_read old new text records reply turn by_judgement (all_of_front text records read)
