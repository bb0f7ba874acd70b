-- What the program reports about a task, by its result.
use Rattle.std.proofs.Common.{◌≡◌, ◌≢◌, ◌∙◌, ℕ, Option, Result, Ok, Err, IfErr, MatchResult, sym, ap, subst}
use Rattle.zh_arguments.specs.declared.arguments.Task.{Task}
use Rattle.zh_program.specs.Remarks.{BecameOf}
use Rattle.zh_program.specs.Tasks.{Does}
use Rattle.zh_program.specs.World.{Known, UsedOf, WorldOf}
use Rattle.zh_program.specs.declared.fault.TaskFault.{TaskFault}
use Rattle.zh_program.specs.declared.fault.TaskFault.TheVariants as faults
use Rattle.zh_program.specs.Program.{MetFault, ends}
use Rattle.zh_program.specs.Paths.{fault_path}
use Rattle.zh_program.specs.Reports.{report_text}

-- If the task met a fault, the status is not 0.
abbrev pub TellsOfFault : ℕ → Result (Unit {0}) TaskFault → Type 0
TellsOfFault status result = (fault : TaskFault) → result ≡ Err fault → status ≢ 0

module _ (of : Known) where
  -- A task that ended with status 0 was done, and nothing more is reported about it.
  pub was_done : (task : Task) (old after new : WorldOf of) (result : Result (Unit {0}) TaskFault) (used : Option (UsedOf of)) (status : ℕ)
      → Does of task old after (ends result used) → MatchResult result (λ _. (status ≡ 0) × (new ≡ after)) (λ _. status ≡ 1) → status ≡ 0
      → Does of task old new (ends (Ok tt) used)
  was_done task old after new (Ok done) used status does by zero = subst (λ (w : WorldOf of). Does of task old w (ends (Ok tt) used)) (sym by.1) does
  was_done task old after new (Err fault) used status does by zero = absurd cc

  -- A task that ended with status 1 met a fault, which is reported; `Refused` is not.
  pub met_fault : (task : Task) (old after new : WorldOf of) (result : Result (Unit {0}) TaskFault) (used : Option (UsedOf of)) (status : ℕ)
      → Does of task old after (ends result used) → MatchResult result (λ _. (status ≡ 0) × (new ≡ after)) (λ _. status ≡ 1)
      → new ≡ record after { faults = new.faults; remark = new.remark } → (result ≡ Err faults.Refused → new ≡ after)
      → IfErr result (λ fault. fault ≢ faults.Refused
      → BecameOf new.remark (of.errors.contents after.faults) (of.errors.contents new.faults) (report_text (fault_path task fault) fault))
      → status ≡ 1
      → MetFault of task old new used
  met_fault task old after new (Ok done) used status does by rest refused reported one = absurd cc
  met_fault task old after new (Err fault) used status does by rest refused reported one = record {
    fault = fault;
    after = after;
    does = does;
    rest = rest;
    reported = reported;
    refused = λ is. refused (ap Err is);
  }

-- The same for the status by which the program ends.
pub fails : (result : Result (Unit {0}) TaskFault) (status : ℕ) (same : Type 0)
    → MatchResult result (λ _. (status ≡ 0) × same) (λ _. status ≡ 1)
    → TellsOfFault status result
fails (Ok done) status same by fault is = absurd cc
fails (Err other) status same by fault is = λ zero. let wrong : ◌≡◌ {A = ℕ} 0 1 = sym zero ∙ by in absurd cc

-- Refused memory is not a refused task.
pub memory_reported : faults.Memory ≢ faults.Refused
memory_reported is = absurd cc
