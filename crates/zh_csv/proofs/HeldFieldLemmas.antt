-- The fields of a row.
use Rattle.std.proofs.Common.{◌≡◌, ◌<◌, ◌^◌, ℕ, List, [], get_or, Option, Some, None, IfSome, refl, sym, ap, subst, arith, decimal, codes}
use Rattle.std.specs.Int.{IsInRange}
use Rattle.std.proofs.lemmas.Fmt.{decimal_is_IsNumeral, decimal_injective}
use Rattle.std.proofs.lemmas.Str.Parse.{digit_at}
use Rattle.zh_csv.specs.Export.{votes_field}
use Rattle.zh_csv.specs.Records.{Record}
use Rattle.zh_csv.proofs.FieldLemmas.{one_numeral}
use Rattle.zh_csv.specs.declared.held_sums.HeldRow.{HeldRow}
use Rattle.zh_csv.specs.Rows.{held_fields, IsHeldRow}

-- a numeral is not the word `withdrawn`
numeral_or_word : (n : ℕ) → n < 2 ^ 64 → decimal n ≡ codes "withdrawn" → ⊥
numeral_or_word n small is =
    let numeral = (decimal_is_IsNumeral n small).0 in
    let digit : IsInRange 48 57 (get_or (decimal n) 0 0) = digit_at (decimal n) 0 numeral.1 (rw is (omega arith)) in
    let first : get_or (decimal n) 0 0 ≡ 119 = ap (λ (l : List ℕ). get_or l 0 0) is in
    let wrong : IsInRange 48 57 119 = subst (IsInRange 48 57) first digit in
    absurd (omega (arith, wrong.1))

-- a field of votes determines the votes
pub votes_once : (a b : Option ℕ) → IfSome a (λ n. n < 2 ^ 32) → IfSome b (λ n. n < 2 ^ 32) → votes_field a ≡ votes_field b → a ≡ b
votes_once None None x y same = refl
votes_once None (Some n) x y same = absurd (numeral_or_word n (omega (arith, y)) (sym same))
votes_once (Some m) None x y same = absurd (numeral_or_word m (omega (arith, x)) same)
votes_once (Some m) (Some n) x y same = ap (λ (k : ℕ). Some k) (decimal_injective m n (omega (arith, x)) (omega (arith, y)) same)

-- a record determines its row
pub same_row : (row other : HeldRow) → IsHeldRow row → IsHeldRow other → held_fields row ≡ held_fields other → row ≡ other
same_row row other r o same =
    let m = one_numeral (held_fields row) (held_fields other) 0 row.municipality other.municipality r.municipality o.municipality refl refl same in
    let l = one_numeral (held_fields row) (held_fields other) 1 row.list other.list r.list o.list refl refl same in
    let n = one_numeral (held_fields row) (held_fields other) 2 row.number other.number r.number.1 o.number.1 refl refl same in
    let v : row.votes ≡ other.votes = votes_once row.votes other.votes r.votes o.votes (ap (λ (l : Record). get_or l 3 []) same) in
    λ i. record { municipality = m i; list = l i; number = n i; votes = v i }
