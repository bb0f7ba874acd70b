-- What a call that reads part of a set-up text returns.
use Rattle.std.specs.Prelude.{◌≡◌, Option, Some, None, Result, Ok, Err}
use Rattle.zh_setups.specs.declared.text.SetupFault.{SetupFault}
use Rattle.zh_setups.specs.declared.text.SetupFault.TheVariants.{Memory, Range}

-- the wanted result is this fault; `Memory` is allowed whatever the wanted result
abbrev pub Fails : {Y : Type 0} → SetupFault → Result Y SetupFault → Type 0
Fails Memory wanted = Unit {0}
Fails fault wanted = wanted ≡ Err fault

-- the call gives the wanted value, as `view` sees it, or the wanted fault
abbrev pub Gives : {X Y : Type 0} → (X → Y) → Result X SetupFault → Result Y SetupFault → Type 0
Gives view (Ok x) wanted = wanted ≡ Ok (view x)
Gives view (Err fault) wanted = Fails fault wanted

-- no value means the fault `Range`
abbrev pub within_range : {Y : Type 0} → Option Y → Result Y SetupFault
within_range None = Err Range
within_range (Some y) = Ok y

-- the call gives the wanted value, or `Range` if there is none
abbrev pub GivesInRange : {X Y : Type 0} → (X → Y) → Result X SetupFault → Option Y → Type 0
GivesInRange view result wanted = Gives view result (within_range wanted)
