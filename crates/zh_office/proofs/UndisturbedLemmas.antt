-- The exchanges of an office whose device does not fail and which has numbers left.
use Rattle.std.proofs.Common.{◌≡◌, ◌≤◌, ◌<◌, ◌-◌, ◌^◌, true, false, sym, ap, ◌∙◌, List, [], ◌∷◌, Option, Some, None}
use Rattle.zh_returns.specs.declared.command.Command.{Command}
use Rattle.zh_returns.specs.declared.command.Format.TheVariants.{Two}
use Rattle.zh_disk.specs.History.{HasRisen}
use Rattle.zh_ledger.specs.Ledger.{Ledger}
use Rattle.zh_ledger.specs.Submissions.{OnDisk}
use Rattle.zh_office.specs.declared.answer.Answer.{Answer}
use Rattle.zh_office.specs.Exchanges.{Exchange}
use Rattle.zh_office.specs.Requests.{Acts}
use Rattle.zh_office.specs.Office.{Office, MayAnswer, its_ledger}
use Rattle.zh_office.specs.Runs.{Runs, Turn}
use Rattle.zh_office.specs.Undisturbed.{is_disturbed, is_memory, TakesMemory, IsUndisturbed, MeetsNoFault, AreUndisturbed}
use Rattle.zh_office.proofs.SteadyLemmas.{Steady, all_same, below, not_risen, stays, both_steady, never_broken, never_fails, never_spends, has_numbers, acts_steady}
use Rattle.zh_office.proofs.CalmAnswerLemmas.{outcome_calm, outcome_without_memory, taken_calm}
use Rattle.zh_office.proofs.ContinuesLemmas.{run_continues}
use Rattle.zh_office.proofs.ExchangeLemmas.{Runs-one}

-- a ledger that is not broken and has numbers left, and whose disk does not fail
pub record Calm (old new : OnDisk Ledger) : Type 0 where
  pub whole : old.holder.store.broken ≡ false
  pub format : old.holder.format ≡ Two
  pub calm : HasRisen old.history.failures new.history.failures → ⊥
  pub accepted : old.holder.tally.accepted < 2 ^ 64 - 1
  pub generation : old.holder.store.generation < 2 ^ 64 - 1

module _ (old : OnDisk Ledger) (May : Answer → Type 0) (answer : Answer) (new : OnDisk Ledger) where
  acts_calm : (command : Option Command) → Acts old command May answer new → Calm old new → (May answer → is_disturbed answer ≡ false) → is_disturbed answer ≡ false
  acts_calm None acts meets otherwise = otherwise acts.0
  acts_calm (Some command) by meets otherwise =
      let results = by.submission.results in
      let left = has_numbers old.holder command meets.format meets.accepted meets.generation in
      ap is_disturbed by.reply
      ∙ outcome_calm by.outcome (never_fails old command by.outcome new by.submission meets.calm)
      (never_broken old.holder command old.holder.store.broken by.outcome meets.whole results)
      (never_spends old.holder command old.holder.store.broken by.outcome left results)

  acts_memory : (command : Option Command) (P : Type 0) → Acts old command May answer new → (May answer → P) → is_memory answer ≡ true → P
  acts_memory None P acts otherwise memory = otherwise acts.0
  acts_memory (Some command) P by otherwise memory =
      let never : true ≡ false = sym memory ∙ ap is_memory by.reply ∙ outcome_without_memory by.outcome in absurd (cc never)

-- a ledger that met no fault had numbers left before, as they do not fall
calm_before : (old new : OnDisk Office) → MeetsNoFault old new → Steady old.holder.ledger new.holder.ledger → Calm (its_ledger old) (its_ledger new)
calm_before old new meets steady = record {
  whole = meets.whole;
  format = meets.format;
  calm = not_risen old.history.failures new.history.failures meets.failures meets.counted;
  accepted = below _ _ _ steady.accepted meets.accepted;
  generation = below _ _ _ steady.generation meets.generation;
}

-- one exchange
module _ (old : OnDisk Office) (x : Exchange) (new : OnDisk Office) (turn : Turn old x new) where
  turn_calm : Calm (its_ledger old) (its_ledger new) → IsUndisturbed x.given x.answer
  turn_calm meets = record {
    calm = acts_calm (its_ledger old) (MayAnswer old.holder x.given) x.answer (its_ledger new) x.command turn.acts meets
        (λ may. (taken_calm old.holder x.given x.answer meets.whole may).calm);
    memory = λ memory. acts_memory (its_ledger old) (MayAnswer old.holder x.given) x.answer (its_ledger new) x.command (TakesMemory x.given) turn.acts
        (λ may. (taken_calm old.holder x.given x.answer meets.whole may).memory memory) memory;
  }

  turn_steady : old.holder.ledger.store.broken ≡ false → (HasRisen old.history.failures new.history.failures → ⊥) → Steady old.holder.ledger new.holder.ledger
  turn_steady whole calm = acts_steady (its_ledger old) x.command (MayAnswer old.holder x.given) x.answer (its_ledger new) turn.acts whole calm

  turn_later : old.history.failures ≤ new.history.failures
  turn_later = (run_continues old (x ∷ []) new (Runs-one old new x turn)).later

  pub one_turn : MeetsNoFault old new → IsUndisturbed x.given x.answer × (new.holder.ledger.store.broken ≡ false)
  one_turn meets =
      let steady = turn_steady meets.whole (not_risen old.history.failures new.history.failures meets.failures meets.counted) in
      (turn_calm (calm_before old new meets steady), steady.whole)

runs_steady : (old : OnDisk Office) (xs : List Exchange) (new : OnDisk Office) → Runs old xs new → old.holder.ledger.store.broken ≡ false
    → new.history.failures ≡ old.history.failures → new.history.failures < 2 ^ 64 - 1 → Steady old.holder.ledger new.holder.ledger
runs_steady old [] new run whole same less = stays old.holder.ledger new.holder.ledger whole (ap (λ (o : OnDisk Office). o.holder.ledger) run)
runs_steady old (x ∷ xs) new (mid, turn, run) whole same less =
    let rest : mid.history.failures ≤ new.history.failures = (run_continues mid xs new run).later in
    let (here, there) = all_same old.history.failures mid.history.failures new.history.failures (turn_later old x mid turn) rest same in
    let steady = turn_steady old x mid turn whole (not_risen old.history.failures mid.history.failures here (below _ _ _ rest less)) in
    both_steady old.holder.ledger mid.holder.ledger new.holder.ledger steady (runs_steady mid xs new run steady.whole there less)

runs_calm : (old : OnDisk Office) (xs : List Exchange) (new : OnDisk Office) → Runs old xs new → MeetsNoFault old new → AreUndisturbed xs
runs_calm old [] new run meets = tt
runs_calm old (x ∷ xs) new (mid, turn, run) meets =
    let rest : mid.history.failures ≤ new.history.failures = (run_continues mid xs new run).later in
    let (here, there) = all_same old.history.failures mid.history.failures new.history.failures (turn_later old x mid turn) rest meets.failures in
    let small : mid.history.failures < 2 ^ 64 - 1 = below _ _ _ rest meets.counted in
    let steady = turn_steady old x mid turn meets.whole (not_risen old.history.failures mid.history.failures here small) in
    let others = runs_steady mid xs new run steady.whole there meets.counted in
    let at_first : MeetsNoFault old mid = record {
      whole = meets.whole;
      format = meets.format;
      failures = here;
      counted = small;
      accepted = below _ _ _ others.accepted meets.accepted;
      generation = below _ _ _ others.generation meets.generation;
    } in
    let at_last : MeetsNoFault mid new = record {
      whole = steady.whole;
      format = steady.format ∙ meets.format;
      failures = there;
      counted = meets.counted;
      accepted = meets.accepted;
      generation = meets.generation;
    } in
    ((one_turn old x mid turn at_first).0, runs_calm mid xs new run at_last)

pub each_turn : (old : OnDisk Office) (xs : List Exchange) (new : OnDisk Office) → Runs old xs new → MeetsNoFault old new
    → AreUndisturbed xs × (new.holder.ledger.store.broken ≡ false)
each_turn old xs new run meets = (runs_calm old xs new run meets, (runs_steady old xs new run meets.whole meets.failures meets.counted).whole)
