-- Commands that were judged acceptable in turn.
use Rattle.std.proofs.Common.{◌≡◌, ℕ, zero, suc, ◌+◌, ◌≤◌, List, [], ◌∷◌, ◌++◌, length, take, refl, sym, ap, subst, arith, length-append, Bool, true, false, IsTrue}
use Rattle.zh_returns.specs.Judgement.{judge}
use Rattle.zh_returns.specs.Step.{step, after, changed, on_verdict}
use Rattle.zh_returns.specs.Tally.{Tally}
use Rattle.zh_returns.specs.declared.command.Command.{Command}
use Rattle.zh_returns.specs.declared.judgement.Verdict.{Verdict}
use Rattle.zh_returns.specs.declared.judgement.Verdict.TheVariants as verdicts
use Rattle.zh_ledger.specs.Ledger.{Ledger, Becomes, MayResultWhere, MayFollow}
use Rattle.zh_ledger.specs.Submissions.{OnDisk, Log, nothing, followed_by, logged, Submits}
use Rattle.zh_ledger.specs.declared.outcome.Outcome.{Outcome}
use Rattle.zh_ledger.specs.declared.outcome.Outcome.TheVariants.{Stored, Device}
use Rattle.zh_ledger.proofs.SubmissionLemmas.{broken_run, log_first}

-- each of these commands is judged acceptable in turn
abbrev pub AreJudged : Tally → List Command → Type 0
AreJudged t [] = Unit {0}
AreJudged t (c ∷ cs) = (judge t c ≡ verdicts.Accept) × AreJudged (step t c) cs

-- so each is counted once
pub judged_number : (t : Tally) (cs : List Command) → AreJudged t cs → (after t cs).accepted ≡ t.accepted + length cs
judged_number t [] judged = omega arith
judged_number t (c ∷ cs) judged =
    let one : (step t c).accepted ≡ t.accepted + 1 = ap (λ (v : Verdict). (on_verdict v (changed t c) t).accepted) judged.0 in
    let more = judged_number (step t c) cs judged.1 in
    omega arith

pub judged_take : (t : Tally) (n : ℕ) (cs : List Command) → AreJudged t cs → AreJudged t (take n cs)
judged_take t zero cs judged = tt
judged_take t (suc n) [] judged = tt
judged_take t (suc n) (c ∷ cs) judged = (judged.0, judged_take (step t c) n cs judged.1)

pub judged-append : (t : Tally) (cs ds : List Command) → AreJudged t cs → AreJudged (after t cs) ds → AreJudged t (cs ++ ds)
judged-append t [] ds judged more = more
judged-append t (c ∷ cs) ds judged more = (judged.0, judged-append (step t c) cs ds judged.1 more)

-- what is accepted was judged acceptable
judged_any : (t : Tally) (c : Command) (outcome : Outcome) → judge t c ≡ verdicts.Accept → AreJudged t (logged c outcome).accepted
judged_any t c (Stored accepted) is = (is, tt)
judged_any t c Device is = (is, tt)
judged_any t c outcome is = tt

judged_verdict : (v : Verdict) (s : Ledger) (c : Command) (outcome : Outcome) → judge s.tally c ≡ v → MayFollow v s c outcome → AreJudged s.tally (logged c outcome).accepted
judged_verdict verdicts.Accept s c outcome is may = judged_any s.tally c outcome is
judged_verdict verdicts.Same s c outcome is may = subst (λ (o : Outcome). AreJudged s.tally (logged c o).accepted) (sym may) tt
judged_verdict (verdicts.Refused w) s c outcome is may = subst (λ (o : Outcome). AreJudged s.tally (logged c o).accepted) (sym may) tt

judged_where : (broken : Bool) (s : Ledger) (c : Command) (outcome : Outcome) → MayResultWhere broken s c outcome → AreJudged s.tally (logged c outcome).accepted
judged_where true s c outcome may = subst (λ (o : Outcome). AreJudged s.tally (logged c o).accepted) (sym may) tt
judged_where false s c outcome may = judged_verdict (judge s.tally c) s c outcome refl may

-- the commands after it are judged from there on
judged_then : (old mid : Ledger) (c : Command) (outcome : Outcome) (others : Log) → Becomes old c outcome mid
    → AreJudged old.tally (logged c outcome).accepted → (mid.store.broken ≡ true → others ≡ nothing) → AreJudged mid.tally others.accepted
    → AreJudged old.tally (followed_by (logged c outcome) others).accepted
judged_then old mid c (Stored accepted) others becomes first none rest = (first.0, subst (λ (s : Ledger). AreJudged s.tally others.accepted) becomes rest)
judged_then old mid c Device others becomes first none rest = subst (λ (l : Log). AreJudged old.tally (c ∷ l.accepted)) (sym (none becomes.broken)) (first.0, tt)
judged_then old mid c outcome others becomes first none rest = subst (λ (s : Ledger). AreJudged s.tally others.accepted) becomes rest

pub judged_run : (old : OnDisk Ledger) (xs : List (Command × Outcome)) (log : Log) (new : OnDisk Ledger) → IsTrue new.history.honest → Submits old xs log new → AreJudged old.holder.tally log.accepted
judged_run old [] log new honest (none, same) = subst (λ (l : Log). AreJudged old.holder.tally l.accepted) (sym none) tt
judged_run old (x ∷ xs) log new honest (mid, others, by, log_is, run) =
    subst (λ (l : Log). AreJudged old.holder.tally l.accepted) (sym (log_first old x.0 x.1 mid by log others log_is))
    (judged_then old.holder mid.holder x.0 x.1 others by.after (judged_where old.holder.store.broken old.holder x.0 x.1 by.results)
    (λ broken. (broken_run mid xs others new broken honest run).none)
    (judged_run mid xs others new honest run))

-- a submission adds at most one command to the log
one_logged : (c : Command) (outcome : Outcome) → length (logged c outcome).accepted ≤ 1
one_logged c (Stored accepted) = omega arith
one_logged c Device = omega arith
one_logged c outcome = omega arith

pub few_logged : (old : OnDisk Ledger) (xs : List (Command × Outcome)) (log : Log) (new : OnDisk Ledger) → Submits old xs log new → length log.accepted ≤ length xs
few_logged old [] log new (none, same) = subst (λ (l : Log). length l.accepted ≤ 0) (sym none) (omega arith)
few_logged old (x ∷ xs) log new (mid, others, by, log_is, run) =
    subst (λ (l : Log). length l.accepted ≤ length (x ∷ xs)) (sym (log_first old x.0 x.1 mid by log others log_is))
    (omega (arith, one_logged x.0 x.1, few_logged mid xs others new run, length-append (logged x.0 x.1).accepted others.accepted))
