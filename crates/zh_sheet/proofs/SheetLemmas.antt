-- What follows from a distribution for its parts.
use Rattle.std.proofs.Common.{◌≡◌, ℕ, ◌<◌, ◌≤◌, Option, Some, None, IfSome, IsTrue, List, [], length, map, slice_get, sym, ◌∙◌, subst, arith}
use Rattle.std.specs.Option.{option_map}
use Rattle.std.specs.Prelude.{◌==◌}
use Rattle.std.proofs.lemmas.List.Quantifiers.{position-Some}
use Rattle.std.proofs.lemmas.Option.{get_or_from_slice_get, slice_get-map, slice_get_within}
use Rattle.zh_districts.specs.Canton.{AreNames, is_name}
use Rattle.zh_districts.proofs.CallerLemmas.{is_name-short}
use Rattle.zh_sheet.specs.Distribution.{Distribution, IsDistribution, Targets, seated_groups}
use Rattle.zh_sheet.specs.Readings.{column_of}
use Rattle.zh_sheet.proofs.AskedLemmas.{few_seated}

abbrev pub targets : (x : Distribution) → IsDistribution x → Targets x.totals
targets x is = record {
  seats = x.seats.seats;
  taking = x.taking;
  voters = x.voters;
  upper = x.upper.seats;
  constituencies = is.seats;
  participation = is.participation;
  sums = is.voters;
  groups = is.upper;
}

seated_at : (x : Distribution) (g : ℕ) (found : Option ℕ) → found ≡ column_of x g → IfSome found (λ column. column < length (seated_groups x.upper.seats))
seated_at x g None is = tt
seated_at x g (Some column) is = (position-Some (λ seated. seated == g) (seated_groups x.upper.seats) column 0 (sym is)).0

within : (a b : ℕ) (found : Option ℕ) → a ≤ b → IfSome found (λ column. column < a) → IfSome found (λ column. column < b)
within a b None le some = tt
within a b (Some column) le some = omega (arith, le, some)

-- a seated group has a divisor
pub column_there : (x : Distribution) (g : ℕ) (found : Option ℕ) → IsDistribution x → found ≡ column_of x g → IfSome found (λ column. column < length x.lower.divisors.of_columns)
column_there x g found is same =
    within (length (seated_groups x.upper.seats)) (length x.lower.divisors.of_columns) found
    (omega (arith, is.limits.columns.one_each)) (seated_at x g found same)

-- its place is below 32
pub column_few : (x : Distribution) (g : ℕ) (found : Option ℕ) → IsDistribution x → found ≡ column_of x g → IfSome found (λ column. column < 32)
column_few x g found is same =
    within (length (seated_groups x.upper.seats)) 32 found (few_seated x.totals (targets x is) is.totals.canton.groups.1) (seated_at x g found same)

-- a name of the set-up has at most 40 bytes
pub name_short : {X : Type 0} (name : X → List ℕ) (xs : List X) (i : ℕ) (found : List ℕ) → AreNames (map name xs) → option_map name (slice_get xs i) ≡ Some found → length found ≤ 40
name_short name xs i found names is =
    let there = slice_get-map name xs i ∙ is in
    let within = slice_get_within (map name xs) i found there in
    is_name-short found (subst (λ (n : List ℕ). IsTrue (is_name n)) (get_or_from_slice_get (map name xs) i found [] there) (names.rule i [] within))
