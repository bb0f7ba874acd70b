-- How the failures of a disk over a file are counted: the failed calls of the file, and the calls that were refused.
use Rattle.std.proofs.Common.{◌≡◌, ℕ, ◌+◌, ◌-◌, ◌<◌, ◌≤◌, ◌^◌, ap, arith, Bool, Result, Ok, Err, ⊎_elim, inl, inr, IsErr}
use Rattle.std.proofs.lemmas.Bool.{cases_lt}
use Rattle.std.specs.Prelude.{is_ok, is_err}
use Rattle.sqlite_disk.specs.Disk.{MoreFaults, CountsFault, CountsFaultIf}
use Rattle.zh_disk.specs.declared.disk.DiskFault.{DiskFault}
use Rattle.zh_disk.specs.Disk.{Trail}
use Rattle.zh_disk.specs.History.{HasRisen, Counts, Call}

-- a call that was refused, added to the failed calls of the file
refusal_counts : (failed : Bool) (faults refusals refusals' : ℕ) → Counts failed refusals refusals' → Counts failed (faults + refusals) (faults + refusals')
refusal_counts failed faults refusals refusals' counts = record {
  later = let later = counts.later in omega arith;
  rose = λ is. ⊎_elim (λ (more : refusals < refusals'). inl (omega arith)) (λ (end : 2 ^ 64 - 1 ≤ refusals'). inr (omega arith)) (counts.rose is);
  same = λ is. ap (λ (n : ℕ). faults + n) (counts.same is);
}

-- a call that did not use the file
pub refused_call : {does : Result (Unit {0}) DiskFault → Trail → Trail → Type 0} {result : Result (Unit {0}) DiskFault} (honest : Bool) (trail : Trail) (faults refusals refusals' : ℕ)
    → IsErr result → Counts (is_err result) refusals refusals' → ((fault : DiskFault) → does (Err fault) trail trail)
    → Call is_err does (record { honest = honest; failures = faults + refusals; trail = trail }) (record { honest = honest; failures = faults + refusals'; trail = trail }) result
refused_call {does} {result} honest trail faults refusals refusals' fails counts did = at result fails counts
  where
    at : (r : Result (Unit {0}) DiskFault) → IsErr r → Counts (is_err r) refusals refusals'
        → Call is_err does (record { honest = honest; failures = faults + refusals; trail = trail }) (record { honest = honest; failures = faults + refusals'; trail = trail }) r
    at (Ok done) fails counts = absurd cc
    at (Err fault) fails counts = record { kept = λ h. h; did = λ h. did fault; counts = refusal_counts _ faults refusals refusals' counts }

more_rose : (faults faults' refusals : ℕ) → MoreFaults faults faults' → HasRisen (faults + refusals) (faults' + refusals)
more_rose faults faults' refusals more = ⊎_elim (λ (low : faults < faults'). inl (omega arith)) (λ (high : faults' ≤ faults). inr (omega (arith, more))) (cases_lt faults faults')

module _ {E : Type 0} (faults faults' refusals : ℕ) where
  -- a call of the file, added to the calls that were refused
  pub file_counts : (done : Result (Unit {0}) E) (result : Result (Unit {0}) DiskFault) → is_ok result ≡ is_ok done
      → CountsFault done faults faults' → Counts (is_err result) (faults + refusals) (faults' + refusals)
  file_counts (Ok x) (Ok y) is counts = record { later = omega (arith, counts); rose = λ failed. absurd cc; same = λ failed. ap (λ (n : ℕ). n + refusals) counts }
  file_counts (Err x) (Err y) is counts = record {
    later = let later = counts.1 in omega arith;
    rose = λ failed. more_rose faults faults' refusals counts.0;
    same = λ failed. absurd cc;
  }
  file_counts (Ok x) (Err y) is counts = absurd cc
  file_counts (Err x) (Ok y) is counts = absurd cc

  -- a call that counts as a failure if P holds
  pub counts_if : {P : Type 0} (done : Result (Unit {0}) E) → P → CountsFaultIf P done faults faults' → CountsFault done faults faults'
  counts_if (Ok x) holds counts = counts
  counts_if (Err x) holds counts = (counts.0 holds, counts.1)
