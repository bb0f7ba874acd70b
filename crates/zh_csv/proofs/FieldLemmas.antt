-- The fields of a record.
use Rattle.std.proofs.Common.{◌≡◌, ◌<◌, ◌^◌, ℕ, zero, suc, [], ◌∷◌, length, get_or, Option, Some, None, refl, sym, ap, ◌∙◌, arith, decimal, rules}
use Rattle.std.specs.Prelude.{option_map, ◌≤◌}
use Rattle.std.proofs.lemmas.Fmt.{decimal_injective, length-decimal-le}
use Rattle.std.specs.Option.{IsSome}
use Rattle.csv.specs.Records.{field_at}
use Rattle.zh_csv.specs.Records.{Record}

-- a record has a field at each index below its length
pub field_at-get_or : (all : Record) (place : ℕ) → place < length all → field_at all place ≡ Some (get_or all place [])
unfolding field_at
field_at-get_or [] place within = absurd (omega arith)
field_at-get_or (first ∷ all) zero within = refl
field_at-get_or (first ∷ all) (suc place) within = field_at-get_or all place (omega arith)

-- if mapping an option gives a value, the option has one
pub value_some : {A B : Type 0} (o : Option A) (f : A → B) (y : B) → option_map f o ≡ Some y → IsSome o
value_some None f y e = cc e
value_some (Some x) f y e = search rules

pub value_is : {A B : Type 0} (o : Option A) (f : A → B) (x : A) (y : B) → o ≡ Some x → option_map f o ≡ Some y → f x ≡ y
value_is None f x y is e = cc is
value_is (Some z) f x y is e = let same : z ≡ x = cc is in let value : f z ≡ y = cc e in ap f (sym same) ∙ value

-- a number below 2 ^ 32 has at most ten digits
pub numeral_short : (n : ℕ) → n < 2 ^ 32 → length (decimal n) ≤ 10
numeral_short n small = length-decimal-le 10 n (omega arith) (omega arith) (omega arith)

-- numerals at the same place in equal records are of the same number
pub one_numeral : (all other : Record) (place n m : ℕ) → n < 2 ^ 32 → m < 2 ^ 32 → get_or all place [] ≡ decimal n → get_or other place [] ≡ decimal m → all ≡ other → n ≡ m
one_numeral all other place n m small few is that same =
    decimal_injective n m (omega (arith, small)) (omega (arith, few)) (sym is ∙ ap (λ (r : Record). get_or r place []) same ∙ that)
