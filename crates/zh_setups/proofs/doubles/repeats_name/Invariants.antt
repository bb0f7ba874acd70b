use Rattle.std.proofs.Common.{◌≡◌, ◌||◌, map, drop}
use Rattle.std.specs.BTreeSet.{contains_by}
use Rattle.std.specs.Cmp.Lexicographic.{slice_cmp}
use Rattle.std.specs.List.{list_any}
use Rattle.std.specs.Ordering.{nat_cmp}
use Rattle.toml.specs.View.{view}
use Rattle.zh_setups.specs.Document.{name_in, same_name, repeats}
use Rattle.zh_setups.proofs.doubles.repeats_name.Given as goal

-- one of the remaining names was seen before or is repeated later, just if some name of all is repeated
abbrev pub invariant-loop-value : goal.invariant-loop-value
invariant-loop-value l =
    (list_any (λ d. contains_by (λ k. slice_cmp nat_cmp (name_in d) k.now) l.names) (map view (drop l.value-index l.values)) || repeats same_name (map view (drop l.value-index l.values)))
    ≡ repeats same_name (map view l.values)
