-- Which place a refused set-up text gets.
use Rattle.std.specs.Prelude.{◌≡◌, ◌<◌, ◌≤◌, ◌⊎◌, ℕ, List, length, take, Some, None}
use Rattle.toml.specs.Errors.{IsMemory, span_start}
use Rattle.toml.specs.declared.de.error.Error.{Error}
use Rattle.toml.specs.Data.{Members}
use Rattle.toml.specs.Parse.{parse_document}
use Rattle.zh_setups.specs.Places.{fault_place}
use Rattle.zh_setups.specs.Positions.{position_after}
use Rattle.zh_setups.specs.declared.text.SetupFault.TheVariants as faults
use Rattle.zh_setups.specs.declared.text.SetupRefusal.{SetupRefusal}
use Rattle.zh_setups.specs.declared.place.FaultPlace.TheVariants as places

-- the refusal of a text that is not TOML, at the position after its first n bytes
abbrev pub refused_at : ℕ → List ℕ → SetupRefusal
refused_at n text = record { fault = faults.Text; place = Some (places.At (position_after (take n text))) }

abbrev pub refused_memory : SetupRefusal
refused_memory = record { fault = faults.Memory; place = None }

-- the refusal of a text for an error of the crate `toml`: at the start of the error's span, unless the error is that memory was refused
abbrev pub IsRefusedBy : Error → List ℕ → SetupRefusal → Type 0
IsRefusedBy error text refusal =
    (IsMemory error × (refusal ≡ refused_memory)) ⊎ ((¬ IsMemory error) × (refusal ≡ refused_at (span_start error) text))

-- the text is refused as not TOML, at a position in it that the crate `toml` chooses
abbrev pub IsPositioned : List ℕ → SetupRefusal → Type 0
IsPositioned text refusal = (n : ℕ) × (n ≤ length text) × (refusal ≡ refused_at n text)

-- the text parses to a document, and the refusal has the place that its fault has in that document
abbrev pub IsPlacedIn : List ℕ → SetupRefusal → Type 0
IsPlacedIn text refusal =
    (document : Members) × (parse_document text ≡ Some document) × (refusal.place ≡ fault_place refusal.fault document)

-- the place of a refusal: none if memory was refused or the text is too long
abbrev pub IsPlaced : List ℕ → SetupRefusal → Type 0
IsPlaced text refusal =
    (refusal ≡ refused_memory)
    ⊎ ((1048576 < length text) × (refusal ≡ record { fault = faults.Text; place = None }))
    ⊎ ((length text ≤ 1048576) × (IsPositioned text refusal ⊎ IsPlacedIn text refusal))
