-- What a formatting that opens the disk first leaves, by what it finds there.
use Rattle.std.proofs.Common.{◌≡◌, ℕ, List, nat_lt, inl, inr, refl, sym, ap, subst, Result, Ok, Err, IsErrOf}
use Rattle.zh_districts.specs.Canton.{Canton}
use Rattle.zh_disk.specs.History.{History, Call}
use Rattle.zh_disk.proofs.CallerLemmas.{followed, handed, leaves_none, no_call}
use Rattle.zh_journal.specs.Place.{Rest}
use Rattle.zh_snapshot.specs.Calls.{OpensStore}
use Rattle.zh_snapshot.specs.Faults.{store_format_fails, store_open_fails}
use Rattle.zh_snapshot.specs.Image.{IsBlank}
use Rattle.zh_snapshot.specs.Store.{State}
use Rattle.zh_snapshot.specs.declared.fault.OpenFault.{OpenFault}
use Rattle.zh_snapshot.specs.declared.fault.OpenFault.TheVariants as opening
use Rattle.zh_snapshot.specs.declared.fault.FormatFault.{FormatFault}
use Rattle.zh_snapshot.specs.declared.fault.FormatFault.TheVariants as of_store
use Rattle.zh_ledger.specs.Opening.{MakesNew}
use Rattle.zh_tables.specs.Problems.{AreProblems, problem_count, problems_line}
use Rattle.zh_tables.specs.declared.problems.SetupProblems.{SetupProblems}
use Rattle.zh_program.specs.Format.{FormatsBlank, FormattedAs, SaysIf, SaysProblems, format_fails}
use Rattle.zh_program.specs.declared.fault.TaskFault.{TaskFault}
use Rattle.zh_program.specs.declared.fault.TaskFault.TheVariants as formatting

-- The disk was only opened.
only_opened : (canton : Canton) (a b : History) {found : Result (State × Rest) OpenFault} (fault : TaskFault) → OpensStore found a.trail b.trail
    → (IsErrOf {T = Unit {0}} (Err fault) formatting.InUse → IsBlank a.trail.now.bytes → ⊥) → FormatsBlank canton (Err fault) a.trail b.trail
only_opened canton a b fault opens in_use = record {
  opened = b.trail;
  opening = opens.moments;
  after = inl refl;
  blank = tt;
  formatted = tt;
  settled = tt;
  in_use = in_use;
  unformatted = λ is. refl;
}

module _ (canton : Canton) {a b : History} where
  pub device_reported : Call store_open_fails OpensStore a b (Err opening.Device) → Call format_fails (FormatsBlank canton) a b (Err formatting.Device)
  device_reported = handed refl (λ h opens. only_opened canton a b formatting.Device opens (λ is. absurd cc))

  pub memory_reported : Call store_open_fails OpensStore a b (Err opening.Memory) → Call format_fails (FormatsBlank canton) a b (Err formatting.Memory)
  memory_reported = handed refl (λ h opens. only_opened canton a b formatting.Memory opens (λ is. absurd cc))

  pub damaged_in_use : Call store_open_fails OpensStore a b (Err opening.Damaged) → Call format_fails (FormatsBlank canton) a b (Err formatting.InUse)
  damaged_in_use = handed refl (λ h opens. only_opened canton a b formatting.InUse opens (λ is. (opens.found.read.damaged refl).0))

  pub store_in_use : {found : State × Rest} → Call store_open_fails OpensStore a b (Ok found) → Call format_fails (FormatsBlank canton) a b (Err formatting.InUse)
  store_in_use = handed refl (λ h opens. only_opened canton a b formatting.InUse opens (λ is blank. blank opens.found.read.framed.2.gate))

module _ (canton : Canton) {a b c : History} (opened : Call store_open_fails OpensStore a b (Err opening.Blank)) where
  pub blank_formatted : Call store_format_fails (MakesNew canton) b c (Ok tt) → Call format_fails (FormatsBlank canton) a c (Ok tt)
  blank_formatted made = handed refl (λ h by. record {
    opened = b.trail;
    opening = by.1.moments;
    after = inr (by.1.found.read.blank refl, by.2.moments);
    blank = by.1.found.read.blank refl;
    formatted = by.2.formatted;
    settled = by.2.settled;
    in_use = λ is. absurd cc;
    unformatted = λ is. absurd cc;
  }) (followed refl opened made)

  -- It was not formatted: either memory was refused and the disk was only opened, or the device failed.
  pub not_formatted : (met : FormatFault) (fault : TaskFault) → FormattedAs met fault → Call store_format_fails (MakesNew canton) b c (Err met)
      → (IsErrOf {T = Unit {0}} (Err met) of_store.Memory → c ≡ b) → Call format_fails (FormatsBlank canton) a c (Err fault)
  not_formatted of_store.Memory fault is made same = subst (λ (f : TaskFault). Call format_fails (FormatsBlank canton) a c (Err f)) (sym is)
      (handed refl (λ h by. record {
        opened = b.trail;
        opening = by.1.moments;
        after = inl (ap (λ (x : History). x.trail) (same refl));
        blank = tt;
        formatted = tt;
        settled = tt;
        in_use = λ wrong. absurd cc;
        unformatted = λ memory. ap (λ (x : History). x.trail) (same refl);
      }) (followed refl opened made))
  not_formatted of_store.Device fault is made same = subst (λ (f : TaskFault). Call format_fails (FormatsBlank canton) a c (Err f)) (sym is)
      (handed refl (λ h by. record {
        opened = b.trail;
        opening = by.1.moments;
        after = inr (by.1.found.read.blank refl, by.2.moments);
        blank = tt;
        formatted = tt;
        settled = tt;
        in_use = λ wrong. absurd cc;
        unformatted = λ memory. absurd cc;
      }) (followed refl opened made))

-- Memory was refused before any call of the disk.
pub memory_first : (canton : Canton) {h : History} → Call format_fails (FormatsBlank canton) h h (Err formatting.Memory)
memory_first canton {h} = no_call refl (λ honest. record {
  opened = h.trail;
  opening = leaves_none _ h.trail h.trail refl;
  after = inl refl;
  blank = tt;
  formatted = tt;
  settled = tt;
  in_use = λ is. absurd cc;
  unformatted = λ is. refl;
})

-- The line that reports this many problems.
pub said_of : (canton : Canton) (problems : SetupProblems) (n : ℕ) (text : List ℕ) (Said : List ℕ → Type 0) (unsaid : Type 0) → n ≡ problem_count problems
    → text ≡ problems_line (problem_count problems) → AreProblems canton problems → SaysIf (nat_lt 0 n) (Said text) unsaid → SaysProblems canton Said unsaid (Ok tt)
said_of canton problems n text Said unsaid count line are says = (
  problems,
  are,
  subst (λ (t : List ℕ). SaysIf (nat_lt 0 (problem_count problems)) (Said t) unsaid) line (subst (λ (k : ℕ). SaysIf (nat_lt 0 k) (Said text) unsaid) count says),
)
