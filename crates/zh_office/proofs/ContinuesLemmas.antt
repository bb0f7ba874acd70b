-- The effect of a run on the history of a disk.
use Rattle.std.proofs.Common.{◌≡◌, ◌<◌, ◌≤◌, ◌-◌, ◌^◌, ◌∙◌, ⊎_elim, inl, inr, ℕ, Bool, true, false, List, [], ◌∷◌, IsTrue, Result, refl, sym, ap, subst, arith}
use Rattle.zh_disk.specs.History.{HasRisen}
use Rattle.zh_returns.specs.declared.command.Command.{Command}
use Rattle.zh_ledger.specs.Ledger.{Ledger, has_room, stored}
use Rattle.zh_ledger.specs.Submissions.{Log, OnDisk, Submission, Submits}
use Rattle.zh_ledger.specs.declared.outcome.Outcome.{Outcome}
use Rattle.zh_ledger.specs.declared.outcome.Outcome.TheVariants as outcomes
use Rattle.zh_ledger.proofs.CallerLemmas.{ready_already, ready_switched}
use Rattle.zh_office.specs.Exchanges.{Exchange, log_of}
use Rattle.zh_office.specs.Office.{Office, its_ledger}
use Rattle.zh_office.specs.Runs.{Continues, Runs}
use Rattle.zh_office.specs.Served.{Serves, Session}
use Rattle.zh_office.specs.declared.service.ServeFault.{ServeFault}
use Rattle.zh_office.proofs.LoggedLemmas.{run_submitted}

-- a count that rose earlier has risen
risen_before : (a b c : ℕ) → HasRisen a b → b ≤ c → HasRisen a c
risen_before a b c risen le = ⊎_elim (λ (more : a < b). inl (omega arith)) (λ (end : 2 ^ 64 - 1 ≤ b). inr (omega arith)) risen

-- a count that rose later has risen, too
pub risen_since : (a b c : ℕ) → a ≤ b → HasRisen b c → HasRisen a c
risen_since a b c le risen = ⊎_elim (λ (more : b < c). inl (omega arith)) (λ (end : 2 ^ 64 - 1 ≤ c). inr end) risen

no_break : {P : Type 0} (a b : Bool) → b ≡ a → a ≡ false → b ≡ true → P
no_break a b same whole broken = let wrong : true ≡ false = sym broken ∙ same ∙ whole in absurd (cc)

-- storing a command breaks nothing
stored_broken : (s : Ledger) (c : Command) → (stored s c).store.broken ≡ s.store.broken
stored_broken s c = by_room (has_room s c) refl
  where
    by_room : (b : Bool) → has_room s c ≡ b → (stored s c).store.broken ≡ s.store.broken
    by_room true room = ap (λ (l : Ledger). l.store.broken) (ready_already s c room)
    by_room false none = ap (λ (l : Ledger). l.store.broken) (ready_switched s c none)

broke_by : (old new : OnDisk Ledger) (c : Command) (outcome : Outcome) → Submission old c outcome new
    → old.holder.store.broken ≡ false → new.holder.store.broken ≡ true → HasRisen old.history.failures new.history.failures
broke_by old new c outcomes.Device by whole broken = by.call.counts.rose refl
broke_by old new c (outcomes.Stored accepted) by whole broken =
    no_break old.holder.store.broken new.holder.store.broken (ap (λ (l : Ledger). l.store.broken) by.after ∙ stored_broken old.holder c) whole broken
broke_by old new c outcome by whole broken = no_break old.holder.store.broken new.holder.store.broken (ap (λ (l : Ledger). l.store.broken) by.after) whole broken

pub none_continues : (old new : OnDisk Ledger) → new ≡ old → Continues old new
none_continues old new is =
    let none : new.history.failures ≡ old.history.failures = ap (λ (o : OnDisk Ledger). o.history.failures) is in
    record {
      kept = subst (λ (o : OnDisk Ledger). IsTrue o.history.honest) is;
      later = omega arith;
      cause = no_break old.holder.store.broken new.holder.store.broken (ap (λ (o : OnDisk Ledger). o.holder.store.broken) is);
    }

-- one stretch after another
both_continue : (old mid new : OnDisk Ledger) → Continues old mid → Continues mid new → Continues old new
both_continue old mid new first second = record {
  kept = λ honest. first.kept (second.kept honest);
  later = omega (arith, first.later, second.later);
  cause = λ whole broken. at mid.holder.store.broken refl whole broken;
}
  where
    at : (b : Bool) → mid.holder.store.broken ≡ b → old.holder.store.broken ≡ false → new.holder.store.broken ≡ true → HasRisen old.history.failures new.history.failures
    at true is whole broken = risen_before old.history.failures mid.history.failures new.history.failures (first.cause whole is) second.later
    at false is whole broken = risen_since old.history.failures mid.history.failures new.history.failures first.later (second.cause is broken)

-- a command, whatever its outcome
pub submission_continues : (old : OnDisk Ledger) (c : Command) (outcome : Outcome) (new : OnDisk Ledger) → Submission old c outcome new → Continues old new
submission_continues old c outcome new by = record { kept = by.call.kept; later = by.call.counts.later; cause = broke_by old new c outcome by }

submits_continue : (old : OnDisk Ledger) (xs : List (Command × Outcome)) (log : Log) (new : OnDisk Ledger) → Submits old xs log new → Continues old new
submits_continue old [] log new (none, same) = none_continues old new same
submits_continue old (x ∷ xs) log new (mid, others, by, log_is, run) =
    both_continue old mid new (submission_continues old x.0 x.1 mid by) (submits_continue mid xs others new run)

pub run_continues : (old : OnDisk Office) (xs : List Exchange) (new : OnDisk Office) → Runs old xs new → Continues (its_ledger old) (its_ledger new)
run_continues old xs new run =
    let all = run_submitted old xs new run in submits_continue (its_ledger old) all.0 (log_of xs) (its_ledger new) all.1

pub serves_continues : (old new : Session) (result : Result ℕ ServeFault) → Serves old new result → Continues (its_ledger old.office) (its_ledger new.office)
serves_continues old new result served = run_continues old.office served.exchanges new.office served.run
