-- A night, event by event.
use Rattle.std.proofs.Common.{◌+◌, ◌≤◌, List, [], ◌∷◌, ◌++◌, length, take, refl, sym, subst, arith, Option}
use Rattle.std.specs.Prelude.{IfSome, IsTrue}
use Rattle.zh_disk.specs.Disk.{Moment}
use Rattle.zh_districts.specs.Canton.{Canton}
use Rattle.zh_returns.specs.Tally.{empty}
use Rattle.zh_returns.specs.declared.command.Command.{Command}
use Rattle.zh_ledger.specs.Ledger.{Ledger}
use Rattle.zh_ledger.specs.Images.{HasSome}
use Rattle.zh_ledger.specs.Opening.{IsCause}
use Rattle.zh_ledger.specs.Submissions.{OnDisk, of_ledger, Log, Submits}
use Rattle.zh_ledger.specs.Night.{Keeper, Event, Stretch, Allows, IsNight, IsCurrent, Says, IsKeptAllNight, IsFresh, Law, by_commands}
use Rattle.zh_ledger.specs.Night.Event.{answered, stopped_within, stopped, opened, refused, stopped_opening}
use Rattle.zh_ledger.specs.declared.outcome.Outcome.{Outcome}
use Rattle.zh_ledger.proofs.SubmissionLemmas.{has_none, one_submitted}
use Rattle.zh_ledger.proofs.JudgedLemmas.{AreJudged}
use Rattle.zh_ledger.proofs.StretchLemmas.{IsSure}
use Rattle.zh_ledger.proofs.CommandLemmas.{answered_sure, left_sure}
use Rattle.zh_ledger.proofs.ReopeningLemmas.{finds, opened_sure, only_faults, refused_sure, stopped_sure, stopped_opening_sure}

-- what is done submits one command to the ledger, or none
abbrev pub SubmitsOneOrNone : OnDisk Ledger → Log → OnDisk Ledger → Type 0
SubmitsOneOrNone old log new = (xs : List (Command × Outcome)) × (length xs ≤ 1) × Submits old xs log new

-- this is so whatever the keeper is given and answers
abbrev pub Serves : Keeper → Type 0
Serves K = (old : OnDisk K.Holder) (given : K.Given) (answer : K.Answer) (log : Log) (new : OnDisk K.Holder)
    → IsTrue new.history.honest → K.does old given answer log new → SubmitsOneOrNone (of_ledger K.ledger old) log (of_ledger K.ledger new)

module _ (K : Keeper) (serves : Serves K) (canton : Canton) where
  -- one event, and what holds after it
  one_event : (kept : List Command) (s t : Stretch K) (e : Event K) (Then : List Command → Type 0) → Allows canton s e t
      → IsSure canton kept s → ((more : List Command) → IsSure canton more t → Then more) → Says canton kept s.log e Then
  one_event kept s t (answered given answer) Then (log, new, by, is) sure go =
      let (xs, few, run) = serves by.old given answer log new by.honest by.done in
      go kept (subst (IsSure canton kept) (sym is) (answered_sure K canton kept s by.old by.holder by.now xs log new by.honest run sure))
  one_event kept s t (stopped_within given) Then (answer, log, new, c, by, left, is) sure go =
      let (xs, few, run) = serves by.old given answer log new by.honest by.done in
      go kept (subst (IsSure canton kept) (sym is) (left_sure K canton kept s by.old by.holder by.now xs log new by.honest run sure few c left))
  one_event kept s t stopped Then (c, image, is) sure go = go kept (subst (IsSure canton kept) (sym is) (stopped_sure K canton kept s sure c image))
  one_event kept s t (opened holder) Then (old, new, now, opens, begins, is) sure go =
      let finding = finds K canton kept s sure old new now holder opens in (
        finding,
        go (kept ++ take finding.number s.log.accepted) (subst (IsSure canton (kept ++ take finding.number s.log.accepted)) (sym is)
            (opened_sure K canton kept s sure old new now holder opens)),
      )
  one_event kept s t (refused fault) Then (old, new, now, opens, is) sure go =
      let cause : IsCause canton s.now.bytes fault = subst (λ (m : Moment). IsCause canton m.bytes fault) (sym now) opens.refused in
      (only_faults K canton kept s sure fault cause, go kept (subst (IsSure canton kept) (sym is) (refused_sure K canton kept s sure old new now opens.moments)))
  one_event kept s t stopped_opening Then (old, new, result, c, now, opens, left, is) sure go =
      go kept (subst (IsSure canton kept) (sym is) (stopped_opening_sure K canton kept s sure old new c now opens.moments left))

  holds : (kept : List Command) (s : Stretch K) (night : List (Event K × Stretch K)) → IsSure canton kept s → IsNight canton s night → IsKeptAllNight canton kept s night
  holds kept s [] sure is = sure.sound
  holds kept s (e ∷ es) sure is = (
    sure.sound,
    one_event kept s e.1 e.0 (λ more. IsKeptAllNight canton more e.1 es) is.0 sure (λ more then. holds more e.1 es then is.1),
  )

  -- a formatted disk has no commands yet
  fresh_sure : (s : Stretch K) → IsFresh canton s → IsSure canton [] s
  fresh_sure s fresh = record {
    sound = record {
      each = λ c image.
          subst (λ (l : Log). HasSome (empty canton) l.accepted l.acknowledged c) (sym fresh.log) (has_none (empty canton) [] c (fresh.images c image));
      last = subst (λ (l : Log). length l.accepted ≤ l.acknowledged + 1) (sym fresh.log) (omega arith);
      ledger = subst (λ (o : Option K.Holder). IfSome o (λ holder. IsCurrent canton [] s.now s.log (K.ledger holder))) (sym fresh.holder) tt;
    };
    number = refl;
    judged = subst (λ (l : Log). AreJudged (empty canton) l.accepted) (sym fresh.log) tt;
  }

-- The law of a night, for every keeper that serves in this way.
pub night_law : (K : Keeper) → Serves K → Law K
night_law K serves canton s night fresh is = holds K serves canton [] s night (fresh_sure K serves canton s fresh) is

-- the law for a ledger that is given commands
pub law_of_commands : Law by_commands
law_of_commands = night_law by_commands
    (λ old command outcome log new honest does. (
      (command, outcome) ∷ [],
      omega arith,
      subst (λ (l : Log). Submits (of_ledger by_commands.ledger old) ((command, outcome) ∷ []) l (of_ledger by_commands.ledger new)) (sym does.1) (one_submitted old command outcome new does.0),
    ))
