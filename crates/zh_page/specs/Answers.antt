-- The answer to a page, given its texts.
use Rattle.std.specs.Prelude.{◌≡◌, ◌≢◌, ◌≤◌, ◌<◌, ℕ, List, [], length, take, true, false, Option, Some, None, Result, Ok, Err}
use Rattle.zh_verdicts.specs.Checks.{Inputs, IsVerdict}
use Rattle.zh_verdicts.specs.Reports.{rows_report, setup_report}
use Rattle.zh_csv.specs.declared.batch_reader.LoadFault.{LoadFault}
use Rattle.zh_districts.specs.Canton.{Canton}
use Rattle.zh_csv.specs.Faults.{named}
use Rattle.zh_csv.specs.Held.{AddsUp}
use Rattle.zh_csv.specs.declared.held_sums.HeldFault.{HeldFault}
use Rattle.zh_csv.specs.declared.held_sums.HeldSums.{HeldSums}
use Rattle.zh_page.specs.declared.answer.PageStatus.{PageStatus}
use Rattle.zh_page.specs.declared.answer.PageStatus.TheVariants.{Right, Wrong, NoSetup, NoRows, Memory}
use Rattle.zh_page.specs.declared.answer.HandedStatus.{HandedStatus}
use Rattle.zh_page.specs.declared.answer.HandedStatus.TheVariants.{Whole, NoRoom}
use Rattle.zh_setups.specs.Refusals.{IsPlaced}
use Rattle.zh_setups.specs.SetupText.{reading_of}
use Rattle.zh_setups.specs.declared.text.SetupFault.TheVariants as of_setup
use Rattle.zh_setups.specs.declared.text.SetupRefusal.{SetupRefusal}

-- the texts of a page: a set-up, a sheet, and an export if there is one
pub record Texts : Type 0 where
  pub setup : List ℕ
  pub sheet : List ℕ
  pub held : Option (List ℕ)

-- the sums of an export, or none if there is no export
abbrev pub AddsUpIfGiven : Canton → Option (List ℕ) → Result (Option HeldSums) LoadFault → Type 0
AddsUpIfGiven canton None held = held ≡ Ok None
AddsUpIfGiven canton (Some text) (Ok (Some sums)) = AddsUp canton text (Ok sums)
AddsUpIfGiven canton (Some text) (Ok None) = ⊥
AddsUpIfGiven canton (Some text) (Err why) = AddsUp canton text (Err why)

-- these texts are read as these inputs of a check; like the program, it reads at most 280,065 bytes of the sheet
pub record AreTextsOf (texts : Texts) (inputs : Inputs) : Type 0 where
  pub setup : reading_of texts.setup ≡ Ok inputs.canton
  pub sheet : inputs.sheet ≡ take 280065 texts.sheet
  pub held : AddsUpIfGiven inputs.canton texts.held (Ok inputs.held)

-- the text is the verdict on the sheet, and the status says whether the sheet is right; or memory was refused, and the text is empty
abbrev pub IsVerdictOn : Inputs → PageStatus → List ℕ → Type 0
IsVerdictOn inputs Right text = IsVerdict inputs true text
IsVerdictOn inputs Wrong text = IsVerdict inputs false text
IsVerdictOn inputs Memory text = text ≡ []
IsVerdictOn inputs status text = ⊥

-- the text is the report for the fault of a set-up; or memory was refused, and the text is empty
abbrev pub IsNoSetup : SetupRefusal → PageStatus → List ℕ → Type 0
IsNoSetup refusal NoSetup text = (refusal.fault ≢ of_setup.Memory) × (text ≡ setup_report refusal)
IsNoSetup refusal Memory text = text ≡ []
IsNoSetup refusal status text = ⊥

-- the text is the report for the fault of an export; or memory was refused, and the text is empty
abbrev pub AreNoRows : LoadFault → PageStatus → List ℕ → Type 0
AreNoRows why NoRows text = (fault : HeldFault) × (named why ≡ Some fault) × (text ≡ rows_report fault)
AreNoRows why Memory text = text ≡ []
AreNoRows why status text = ⊥

-- the text of the set-up is not a set-up, and the text of the answer reports its fault, with the place
pub record ReportsNoSetup (texts : Texts) (text : List ℕ) : Type 0 where
  pub refusal : SetupRefusal
  pub fault : reading_of texts.setup ≡ Err refusal.fault
  pub not_memory : refusal.fault ≢ of_setup.Memory
  pub place : IsPlaced texts.setup refusal
  pub report : text ≡ setup_report refusal

-- the set-up was read, and the text of the answer reports a wrong record of the export
pub record ReportsNoRows (texts : Texts) (text : List ℕ) : Type 0 where
  pub canton : Canton
  pub setup : reading_of texts.setup ≡ Ok canton
  pub why : LoadFault
  pub refused : AddsUpIfGiven canton texts.held (Err why)
  pub fault : HeldFault
  pub named_so : named why ≡ Some fault
  pub report : text ≡ rows_report fault

-- The answer to these texts, by its status: the verdict, or why there is none. Memory can be refused on any texts; then the text of the
-- answer is empty.
abbrev pub AnswersPage : Texts → PageStatus → List ℕ → Type 0
AnswersPage texts Right text = (inputs : Inputs) × AreTextsOf texts inputs × IsVerdictOn inputs Right text
AnswersPage texts Wrong text = (inputs : Inputs) × AreTextsOf texts inputs × IsVerdictOn inputs Wrong text
AnswersPage texts NoSetup text = ReportsNoSetup texts text
AnswersPage texts NoRows text = ReportsNoRows texts text
AnswersPage texts Memory text = text ≡ []

-- The first `count` bytes of the room are the text of this answer. Or the room is shorter than the text of some answer to these texts,
-- which has `count` bytes.
abbrev pub IsHanded : Texts → HandedStatus → ℕ → List ℕ → Type 0
IsHanded texts (Whole status) count room = (count ≤ length room) × AnswersPage texts status (take count room)
IsHanded texts NoRoom count room =
    (length room < count) × ((status : PageStatus) × (text : List ℕ) × AnswersPage texts status text × (length text ≡ count))
