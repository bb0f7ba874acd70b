-- What is known of places and of failed calls over several calls.
use Rattle.std.proofs.Common.{◌≡◌, ◌∙◌, ◌∷◌, ◌++◌, List, [], ℕ, Option, Some, None, Result, Ok, Err, ap, append_assoc, refl, inl, subst, sym}
use Rattle.zh_file.specs.Failures.{FailedCall, ForgetsNone, FailsBetween, IsMet, IsOfCall, Meets, setback_fault}
use Rattle.zh_file.specs.declared.fault.FileCause.TheVariants as causes
use Rattle.zh_file.specs.declared.fault.FileFault.{FileFault}
use Rattle.zh_file.specs.declared.fault.FileFault.TheVariants as faults
use Rattle.zh_file.specs.declared.notes.Setback.{Setback}
use Rattle.zh_file.specs.Places.{IfKnown, Places, TouchesOnly}

-- places that have not changed are untouched
pub untouched : (path : List ℕ) (known : Option Places) → IfKnown (TouchesOnly path) known known
untouched path None = refl
untouched path (Some places) = record { leads = refl; disk = inl refl; companion = inl refl; others = λ place disk companion. refl }

-- a call that changes nothing, followed by another call
pub after_stay : {A : Type 0} (R : A → A → Type 0) (old mid new : Option A) → mid ≡ old → IfKnown R mid new → IfKnown R old new
after_stay R old mid new same by = subst (λ k. IfKnown R k new) same by

-- a call followed by one that changes nothing
pub before_stay : {A : Type 0} (R : A → A → Type 0) (old mid new : Option A) → new ≡ mid → IfKnown R old mid → IfKnown R old new
before_stay R old mid new same by = subst (λ k. IfKnown R old k) (sym same) by

-- a call that changes nothing touches nothing
pub stays_untouched : (path : List ℕ) (old new : Option Places) → new ≡ old → IfKnown (TouchesOnly path) old new
stays_untouched path old new same = before_stay (TouchesOnly path) old old new same (untouched path old)

-- the failed calls over several calls
pub goes_itself : (calls : List FailedCall) → ForgetsNone calls calls
goes_itself calls = record { later = []; is = refl }

pub goes_more : (call : FailedCall) (calls : List FailedCall) → ForgetsNone calls (call ∷ calls)
goes_more call calls = record { later = call ∷ []; is = refl }

pub goes_same : (old new : List FailedCall) → new ≡ old → ForgetsNone old new
goes_same old new same = record { later = []; is = same }

pub goes_both : (a b c : List FailedCall) → ForgetsNone a b → ForgetsNone b c → ForgetsNone a c
goes_both a b c one two = record {
  later = two.later ++ one.later;
  is = two.is ∙ ap (λ (x : List FailedCall). two.later ++ x) one.is ∙ sym (append_assoc two.later one.later a);
}

-- a call that just failed
pub just_failed : (call : FailedCall) (calls : List FailedCall) → FailsBetween call calls (call ∷ calls)
just_failed call calls = record { before = calls; begun = goes_itself calls; goes = goes_itself (call ∷ calls) }

pub failed_within : (call : FailedCall) (a b c d : List FailedCall) → ForgetsNone a b → ForgetsNone c d → FailsBetween call b c → FailsBetween call a d
failed_within call a b c d one two failed = record {
  before = failed.before;
  begun = goes_both a b failed.before one failed.begun;
  goes = goes_both (call ∷ failed.before) c d failed.goes two;
}

pub of_call_within : (path : List ℕ) (fault : FileFault) (a b c d : List FailedCall) → ForgetsNone a b → ForgetsNone c d → IsOfCall path fault b c → IsOfCall path fault a d
of_call_within path fault a b c d one two by = record {
  setback = by.setback;
  failed = failed_within (record { path = path; setback = by.setback }) a b c d one two by.failed;
  is = by.is;
}

pub met_by : (path : List ℕ) (fault : FileFault) (old new : List FailedCall) → IsOfCall path fault old new → IsMet path fault old new
met_by path faults.Memory old new by = by
met_by path faults.Busy old new by = by
met_by path (faults.Size n) old new by = tt
met_by path (faults.Device causes.Folder) old new by = tt
met_by path (faults.Device causes.Special) old new by = tt
met_by path (faults.Device cause) old new by = by

-- the fault of a call that just failed
pub met_just : (path : List ℕ) (setback : Setback) (fault : FileFault) (old new : List FailedCall) → new ≡ record { path = path; setback = setback } ∷ old
    → fault ≡ setback_fault setback → IsMet path fault old new
met_just path setback fault old new is of = subst (λ (calls : List FailedCall). IsMet path fault old calls) (sym is) (met_by path fault old (record { path = path; setback = setback } ∷ old)
    (record { setback = setback; failed = just_failed (record { path = path; setback = setback }) old; is = of }))

pub met_within : (path : List ℕ) (fault : FileFault) (a b c d : List FailedCall) → ForgetsNone a b → ForgetsNone c d → IsMet path fault b c → IsMet path fault a d
met_within path faults.Memory a b c d one two by = of_call_within path faults.Memory a b c d one two by
met_within path faults.Busy a b c d one two by = of_call_within path faults.Busy a b c d one two by
met_within path (faults.Size n) a b c d one two by = tt
met_within path (faults.Device causes.Folder) a b c d one two by = tt
met_within path (faults.Device causes.Special) a b c d one two by = tt
met_within path (faults.Device cause) a b c d one two by = of_call_within path (faults.Device cause) a b c d one two by

module _ {T : Type 0} (path : List ℕ) where
  -- the same after further failed calls
  pub meets_after : (result : Result T FileFault) (a b c : List FailedCall) → ForgetsNone a b → Meets path result b c → Meets path result a c
  meets_after (Ok it) a b c one meets = record { goes = goes_both a b c one meets.goes; fault = tt }
  meets_after (Err fault) a b c one meets = record {
    goes = goes_both a b c one meets.goes;
    fault = met_within path fault a b c c one (goes_itself c) meets.fault;
  }

  -- the same before further failed calls
  pub meets_before : (result : Result T FileFault) (a b c : List FailedCall) → ForgetsNone b c → Meets path result a b → Meets path result a c
  meets_before (Ok it) a b c two meets = record { goes = goes_both a b c meets.goes two; fault = tt }
  meets_before (Err fault) a b c two meets = record {
    goes = goes_both a b c meets.goes two;
    fault = met_within path fault a a b c (goes_itself a) two meets.fault;
  }

  -- the same for a result of another type
  pub meets_as : {S : Type 0} (fault : FileFault) (a b : List FailedCall) → Meets {T = T} path (Err fault) a b → Meets {T = S} path (Err fault) a b
  meets_as fault a b meets = record { goes = meets.goes; fault = meets.fault }

  -- the fault of a call that just failed
  pub meets_just : (setback : Setback) (fault : FileFault) (old new : List FailedCall) → new ≡ record { path = path; setback = setback } ∷ old
      → IsMet path fault old (record { path = path; setback = setback } ∷ old) → Meets {T = T} path (Err fault) old new
  meets_just setback fault old new is met = subst (λ (calls : List FailedCall). Meets {T = T} path (Err fault) old calls) (sym is)
      (record { goes = goes_more (record { path = path; setback = setback }) old; fault = met })
