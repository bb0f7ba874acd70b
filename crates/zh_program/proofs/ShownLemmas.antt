-- What writing a shown result has done, by its result.
use Rattle.std.proofs.Common.{◌≡◌, Result, Ok, Err, IfErr, ap}
use Rattle.zh_program.proofs.ReadingFaults.{IsOfReading}
use Rattle.zh_program.specs.Shown.{GivesShown, OnlyWrites, Shows, WritesShown}
use Rattle.zh_program.specs.World.{Known, WorldOf}
use Rattle.zh_program.specs.declared.fault.TaskFault.{TaskFault}
use Rattle.zh_program.specs.declared.fault.TaskFault.TheVariants as faults
use Rattle.zh_program.specs.declared.shown.Shown.{Shown}
use Rattle.zh_program.specs.declared.shown.Shown.TheVariants.{Text, Advised, Nothing}

-- What is given may also be shown of something else.
pub gives_as : (May May' : Shown → Type 0) (result : Result Shown TaskFault) → ((shown : Shown) → May shown → May' shown) → GivesShown May result → GivesShown May' result
gives_as May May' (Ok shown) turn may = turn shown may
gives_as May May' (Err fault) turn is = is

module _ (of : Known) (old new : WorldOf of) where
  -- Writing what is shown never ends in refused memory.
  needs_none : (shown : Shown) → WritesShown of old new shown (Err faults.Memory) → ⊥
  needs_none (Text text) by = by
  needs_none (Advised text advice) by = by
  needs_none (Nothing why) by = by

  -- None of its faults is a fault of a disk.
  writes_calm : (shown : Shown) (result : Result (Unit {0}) TaskFault) → WritesShown of old new shown result → IfErr result IsOfReading
  writes_calm shown (Ok done) by = tt
  writes_calm (Text text) (Err faults.Write) by = tt
  writes_calm (Text text) (Err fault) by = absurd by
  writes_calm (Advised text advice) (Err faults.Write) by = tt
  writes_calm (Advised text advice) (Err fault) by = absurd by
  writes_calm (Nothing why) (Err faults.Refused) by = tt
  writes_calm (Nothing why) (Err fault) by = absurd by

  pub shows : (May : Shown → Type 0) (shown : Shown) (result : Result (Unit {0}) TaskFault)
      → May shown → OnlyWrites old new → WritesShown of old new shown result → Shows of May old new result
  shows May shown (Ok done) may rest by = (shown, may, rest, by)
  shows May shown (Err faults.Memory) may rest by = absurd (needs_none shown by)
  shows May shown (Err fault) may rest by = (shown, may, rest, by)

  -- And neither is a fault of showing.
  pub shows_calm : (May : Shown → Type 0) (result : Result (Unit {0}) TaskFault) → Shows of May old new result → IfErr result IsOfReading
  shows_calm May (Ok done) by = tt
  shows_calm May (Err faults.Memory) by = tt
  shows_calm May (Err fault) (shown, may, rest, by) = writes_calm shown (Err fault) by

  -- The files stay the same.
  pub files_stay : OnlyWrites old new → new.files ≡ old.files
  files_stay rest = ap (λ (w : WorldOf of). w.files) rest

  pub shows_beside : OnlyWrites old new → of.files.places new.files ≡ of.files.places old.files
  shows_beside rest = ap of.files.places (files_stay rest)
