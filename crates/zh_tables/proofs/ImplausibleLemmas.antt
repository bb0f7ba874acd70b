-- The record of a municipality that outweighs others, or none, and the municipality's name.
use Rattle.std.proofs.Common.{◌≡◌, ◌*◌, ℕ, true, false, List, [], Option, Some, None, option_map, refl, sym, ◌∙◌}
use Rattle.std.specs.Option.{option_map_or}
use Rattle.zh_returns.specs.Tally.{Tally}
use Rattle.zh_record_text.specs.Names.{name_of_municipality}
use Rattle.zh_tables.specs.Implausible.{implausible_row, neighbours, outweighing_row, outweighs}
use Rattle.zh_tables.specs.Progress.{progress_of}
use Rattle.zh_tables.specs.declared.progress.Progress.{Progress}

pub outweighing_none : (tally : Tally) (m : ℕ) (own others : Progress) → own ≡ progress_of tally m → others ≡ neighbours tally m → outweighs own.votes others ≡ false
    → [] ≡ outweighing_row tally m
outweighing_none tally m own others is are lighter =
    let none : outweighs (progress_of tally m).votes (neighbours tally m) ≡ false = (λ i. outweighs (sym is i).votes (sym are i)) ∙ lighter in
    rw none refl

pub outweighing_one : (tally : Tally) (m : ℕ) (own others : Progress) → own ≡ progress_of tally m → others ≡ neighbours tally m → outweighs own.votes others ≡ true
    → implausible_row m [] own.votes (10 * others.votes) (name_of_municipality tally.canton m) [] ≡ outweighing_row tally m
outweighing_one tally m own others is are heavier =
    let some : outweighs (progress_of tally m).votes (neighbours tally m) ≡ true = (λ i. outweighs (sym is i).votes (sym are i)) ∙ heavier in
    (λ i. implausible_row m [] (is i).votes (10 * (are i).votes) (name_of_municipality tally.canton m) []) ∙ rw some refl

-- a name that was found
pub name_found : {X : Type 0} (f : X → List ℕ) (o : Option X) (name : List ℕ) → option_map f o ≡ Some name → name ≡ option_map_or f o []
name_found f None name is = absurd cc
name_found f (Some x) name is = cc
