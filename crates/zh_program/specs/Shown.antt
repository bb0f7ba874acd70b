-- What a task shows, and how a world changes when it is written.
use Rattle.std.specs.Prelude.{◌≡◌, Result, Ok, Err, MatchResult}
use Rattle.std.specs.Io.KnownBytes.{Appends}
use Rattle.zh_file.specs.declared.world.World.{World}
use Rattle.zh_program.specs.Load.{WritesPart}
use Rattle.zh_program.specs.Remarks.{BecameOf}
use Rattle.zh_program.specs.World.{Known, WorldOf}
use Rattle.zh_program.specs.declared.fault.TaskFault.{TaskFault}
use Rattle.zh_program.specs.declared.fault.TaskFault.TheVariants as faults
use Rattle.zh_program.specs.declared.shown.Shown.{Shown}
use Rattle.zh_program.specs.declared.shown.Shown.TheVariants.{Text, Advised, Nothing}

-- What may be shown is given, or memory was refused.
abbrev pub GivesShown : (Shown → Type 0) → Result Shown TaskFault → Type 0
GivesShown May result = MatchResult result May (λ fault. fault ≡ faults.Memory)

module _ {I O E F : Type 0} where
  -- Only the output, standard error and the remark of the world changed.
  abbrev pub OnlyWrites : World I O E F → World I O E F → Type 0
  OnlyWrites old new = new ≡ record old { output = new.output; faults = new.faults; remark = new.remark }

-- What the writing of what is shown has done, by its result: the text is written, and an advice becomes the remark; or only a part
-- of the text is written and nothing else; or there is no text, and the remark says why.
abbrev pub WritesShown : (of : Known) → WorldOf of → WorldOf of → Shown → Result (Unit {0}) TaskFault → Type 0
WritesShown of old new (Text text) (Ok done) =
    Appends (of.writers.contents old.output) (of.writers.contents new.output) text.items × (new ≡ record old { output = new.output })
WritesShown of old new (Text text) (Err faults.Write) =
    WritesPart (of.writers.contents old.output) (of.writers.contents new.output) text.items × (new ≡ record old { output = new.output })
WritesShown of old new (Advised text advice) (Ok done) =
    Appends (of.writers.contents old.output) (of.writers.contents new.output) text.items
    × BecameOf new.remark (of.errors.contents old.faults) (of.errors.contents new.faults) advice.items
WritesShown of old new (Advised text advice) (Err faults.Write) =
    WritesPart (of.writers.contents old.output) (of.writers.contents new.output) text.items × (new ≡ record old { output = new.output })
WritesShown of old new (Nothing why) (Err faults.Refused) =
    (new.output ≡ old.output) × BecameOf new.remark (of.errors.contents old.faults) (of.errors.contents new.faults) why.items
WritesShown of old new shown result = ⊥

-- Something that may be shown is written and nothing else; or memory was refused and nothing is written.
abbrev pub Shows : (of : Known) → (Shown → Type 0) → WorldOf of → WorldOf of → Result (Unit {0}) TaskFault → Type 0
Shows of May old new (Err faults.Memory) = new ≡ old
Shows of May old new result = (shown : Shown) × May shown × OnlyWrites old new × WritesShown of old new shown result
