-- A ledger whose disk does not fail does not break, and its numbers do not fall.
use Rattle.std.proofs.Common.{◌≡◌, ◌≤◌, ◌<◌, ◌+◌, ◌-◌, ◌^◌, ◌==◌, ◌&&◌, ◌||◌, ℕ, Bool, true, false, refl, sym, ap, ◌∙◌, subst, ⊎_elim, arith, Option, Some, None}
use Rattle.std.specs.Prelude.{not}
use Rattle.std.proofs.lemmas.Bool.{ne_eqb}
use Rattle.zh_returns.specs.declared.command.Command.{Command}
use Rattle.zh_returns.specs.declared.command.Format.{Format}
use Rattle.zh_returns.specs.declared.command.Format.TheVariants.{Two}
use Rattle.zh_returns.specs.Tally.{Tally}
use Rattle.zh_returns.specs.Judgement.{judge}
use Rattle.zh_returns.specs.Step.{step, changed, on_verdict}
use Rattle.zh_returns.specs.declared.judgement.Verdict.{Verdict}
use Rattle.zh_returns.specs.declared.judgement.Verdict.TheVariants as verdicts
use Rattle.zh_disk.specs.History.{HasRisen}
use Rattle.zh_ledger.specs.Ledger.{Ledger, Becomes, MayFollow, MayResultWhere, MayStoreWhere, has_room, is_one, is_spent, lacks_room, stored}
use Rattle.zh_ledger.specs.Faults.{fails}
use Rattle.zh_ledger.specs.Submissions.{OnDisk, Submission}
use Rattle.zh_ledger.specs.declared.outcome.Outcome.{Outcome}
use Rattle.zh_ledger.specs.declared.outcome.Outcome.TheVariants as outcomes
use Rattle.zh_ledger.proofs.CallerLemmas.{ready_already, ready_switched}
use Rattle.zh_office.specs.declared.answer.Answer.{Answer}
use Rattle.zh_office.specs.Requests.{Acts}

-- a count of failures that is below its maximum and unchanged has not risen
pub not_risen : (a b : ℕ) → b ≡ a → b < 2 ^ 64 - 1 → HasRisen a b → ⊥
not_risen a b same below risen = ⊎_elim (λ (more : a < b). omega arith) (λ (end : 2 ^ 64 - 1 ≤ b). omega arith) risen

-- three counts that do not fall, the last of which equals the first
pub all_same : (a b c : ℕ) → a ≤ b → b ≤ c → c ≡ a → (b ≡ a) × (c ≡ b)
all_same a b c low high same = (omega arith, omega arith)

pub below : (a b n : ℕ) → a ≤ b → b < n → a < n
below a b n low less = omega arith

pub no_less : (a b c : ℕ) → a ≤ b → b ≤ c → a ≤ c
no_less a b c low high = omega arith

-- the ledger is not broken, its format is unchanged, and neither its count of commands nor its generation has fallen
pub record Steady (old new : Ledger) : Type 0 where
  pub whole : new.store.broken ≡ false
  pub format : new.format ≡ old.format
  pub accepted : old.tally.accepted ≤ new.tally.accepted
  pub generation : old.store.generation ≤ new.store.generation

pub stays : (old new : Ledger) → old.store.broken ≡ false → new ≡ old → Steady old new
stays old new whole same =
    let accepted : new.tally.accepted ≡ old.tally.accepted = ap (λ (l : Ledger). l.tally.accepted) same in
    let generation : new.store.generation ≡ old.store.generation = ap (λ (l : Ledger). l.store.generation) same in
    record { whole = ap (λ (l : Ledger). l.store.broken) same ∙ whole; format = ap (λ (l : Ledger). l.format) same; accepted = omega arith; generation = omega arith }

pub both_steady : (a b c : Ledger) → Steady a b → Steady b c → Steady a c
both_steady a b c first then =
    record { whole = then.whole; format = then.format ∙ first.format; accepted = no_less _ _ _ first.accepted then.accepted; generation = no_less _ _ _ first.generation then.generation }

step_counts : (t : Tally) (c : Command) → t.accepted ≤ (step t c).accepted
step_counts t c = by (judge t c)
  where
    by : (v : Verdict) → t.accepted ≤ (on_verdict v (changed t c) t).accepted
    by verdicts.Accept = omega arith
    by verdicts.Same = omega arith
    by (verdicts.Refused reason) = omega arith

stored_steady : (s : Ledger) (c : Command) → s.store.broken ≡ false → Steady s (stored s c)
stored_steady s c whole = by (has_room s c) refl
  where
    by : (b : Bool) → has_room s c ≡ b → Steady s (stored s c)
    by true room =
        let broken : (stored s c).store.broken ≡ s.store.broken = ap (λ (l : Ledger). l.store.broken) (ready_already s c room) in
        let generation : (stored s c).store.generation ≡ s.store.generation = ap (λ (l : Ledger). l.store.generation) (ready_already s c room) in
        record { whole = broken ∙ whole; format = refl; accepted = step_counts s.tally c; generation = omega (arith, generation) }
    by false none =
        let broken : (stored s c).store.broken ≡ s.store.broken = ap (λ (l : Ledger). l.store.broken) (ready_switched s c none) in
        let generation : (stored s c).store.generation ≡ s.store.generation + 1 = ap (λ (l : Ledger). l.store.generation) (ready_switched s c none) in
        record { whole = broken ∙ whole; format = refl; accepted = step_counts s.tally c; generation = omega (arith, generation) }

-- whether the device had failed before
abbrev pub finds_broken : Outcome → Bool
finds_broken outcomes.Broken = true
finds_broken outcome = false

-- whether the numbers are used up
abbrev pub spends : Outcome → Bool
spends outcomes.Spent = true
spends outcome = false

-- a ledger that is not broken
module _ (l : Ledger) (c : Command) where
  stored_whole : (spent : Bool) (outcome : Outcome) → MayStoreWhere spent l.tally.accepted outcome → finds_broken outcome ≡ false
  stored_whole true outcome is = ap finds_broken is
  stored_whole false outcome is = ⊎_elim (λ is. ap finds_broken is) (λ is. ap finds_broken is) is

  follows_whole : (verdict : Verdict) (outcome : Outcome) → MayFollow verdict l c outcome → finds_broken outcome ≡ false
  follows_whole verdicts.Accept outcome is = stored_whole (is_spent l c) outcome is
  follows_whole verdicts.Same outcome is = ap finds_broken is
  follows_whole (verdicts.Refused reason) outcome is = ap finds_broken is

  pub never_broken : (broken : Bool) (outcome : Outcome) → broken ≡ false → MayResultWhere broken l c outcome → finds_broken outcome ≡ false
  never_broken true outcome whole is = absurd (cc whole)
  never_broken false outcome whole is = follows_whole (judge l.tally c) outcome is

  stored_spends : (spent : Bool) (outcome : Outcome) → spent ≡ false → MayStoreWhere spent l.tally.accepted outcome → spends outcome ≡ false
  stored_spends true outcome left is = absurd (cc left)
  stored_spends false outcome left is = ⊎_elim (λ is. ap spends is) (λ is. ap spends is) is

  follows_spends : (verdict : Verdict) (outcome : Outcome) → is_spent l c ≡ false → MayFollow verdict l c outcome → spends outcome ≡ false
  follows_spends verdicts.Accept outcome left is = stored_spends (is_spent l c) outcome left is
  follows_spends verdicts.Same outcome left is = ap spends is
  follows_spends (verdicts.Refused reason) outcome left is = ap spends is

  pub never_spends : (broken : Bool) (outcome : Outcome) → is_spent l c ≡ false → MayResultWhere broken l c outcome → spends outcome ≡ false
  never_spends true outcome left is = ap spends is
  never_spends false outcome left is = follows_spends (judge l.tally c) outcome left is

-- the disk does not fail
pub never_fails : (old : OnDisk Ledger) (c : Command) (outcome : Outcome) (new : OnDisk Ledger) → Submission old c outcome new
    → (HasRisen old.history.failures new.history.failures → ⊥) → fails outcome ≡ false
never_fails old c outcome new by calm = at (fails outcome) (λ is. calm (by.call.counts.rose is))
  where
    at : (b : Bool) → (b ≡ true → ⊥) → b ≡ false
    at true never = absurd (never refl)
    at false never = refl

-- the numbers are below their maximum
unspent : (a g n : ℕ) (room : Bool) → a < n → g < n → ((a == n) || (not room && (g == n))) ≡ false
unspent a g n true few low = rw (ne_eqb a n (λ same. omega arith)) refl
unspent a g n false few low = rw (ne_eqb a n (λ same. omega arith), ne_eqb g n (λ same. omega arith)) refl

pub has_numbers : (l : Ledger) (c : Command) → l.format ≡ Two → l.tally.accepted < 2 ^ 64 - 1 → l.store.generation < 2 ^ 64 - 1 → is_spent l c ≡ false
has_numbers l c two few low =
    ap (λ (format : Format). is_one format || ((l.tally.accepted == 2 ^ 64 - 1) || lacks_room l c)) two ∙ unspent l.tally.accepted l.store.generation (2 ^ 64 - 1) (has_room l c) few low

-- the ledger after the command
becomes_steady : (old new : Ledger) (c : Command) (outcome : Outcome) → fails outcome ≡ false → Becomes old c outcome new → old.store.broken ≡ false → Steady old new
becomes_steady old new c (outcomes.Stored accepted) calm after whole = subst (Steady old) (sym after) (stored_steady old c whole)
becomes_steady old new c outcomes.Device calm after whole = absurd (cc calm)
becomes_steady old new c outcome calm after whole = stays old new whole after

pub acts_steady : (old : OnDisk Ledger) (command : Option Command) (May : Answer → Type 0) (answer : Answer) (new : OnDisk Ledger)
    → Acts old command May answer new → old.holder.store.broken ≡ false → (HasRisen old.history.failures new.history.failures → ⊥) → Steady old.holder new.holder
acts_steady old None May answer new acts whole calm = stays old.holder new.holder whole (ap (λ (o : OnDisk Ledger). o.holder) acts.1)
acts_steady old (Some command) May answer new by whole calm =
    becomes_steady old.holder new.holder command by.outcome (never_fails old command by.outcome new by.submission calm) by.submission.after whole
