-- The text of a count.
use Rattle.std.proofs.Common.{◌≡◌, ◌≤◌, ◌<◌, ◌^◌, ℕ, zero, suc, List, [], ◌∷◌, ◌++◌, length, get_or, false, Option, Some, None, refl, ap, ◌∙◌, arith, append_assoc, decimal, All, IfSome}
use Rattle.std.specs.Int.{IsInRange}
use Rattle.std.specs.List.{list_any}
use Rattle.std.proofs.lemmas.Bool.Decides.{nat_tests}
use Rattle.std.proofs.lemmas.Fmt.{decimal_is_IsNumeral}
use Rattle.std.proofs.lemmas.Str.Parse.{digit_at}
use Rattle.csv.specs.Writing.{default_writer, needs_byte, needs_quotes, fields_text, row_text, is_blank}
use Rattle.zh_record_text.specs.Records.{record_text}
use Rattle.zh_returns.specs.declared.entry.Entry.{Entry}
use Rattle.zh_csv.specs.Records.{Record, names}
use Rattle.zh_csv.specs.Export.{following, line, votes_field, record_of}

-- at least two fields, and none of them needs quotes
abbrev pub ArePlain : Record → Type 0
ArePlain fields = (2 ≤ length fields) × All (λ field. needs_quotes default_writer field ≡ false) fields

-- a digit needs no quotes
digit_plain : (byte : ℕ) → IsInRange 48 57 byte → needs_byte default_writer byte ≡ false
digit_plain byte digit = grind (arith, nat_tests)

digits_plain : (field : List ℕ) → ((i : ℕ) → i < length field → IsInRange 48 57 (get_or field i 0)) → list_any (needs_byte default_writer) field ≡ false
digits_plain [] digits = refl
digits_plain (byte ∷ field) digits = rw (digit_plain byte (digits 0 (omega arith))) (digits_plain field (λ i within. digits (suc i) (omega arith)))

pub decimal_plain : (n : ℕ) → n < 2 ^ 64 → needs_quotes default_writer (decimal n) ≡ false
decimal_plain n small = let is = (decimal_is_IsNumeral n small).0 in digits_plain (decimal n) (λ i within. digit_at (decimal n) i is.1 within)

votes_plain : (votes : Option ℕ) → IfSome votes (λ n. n < 2 ^ 32) → needs_quotes default_writer (votes_field votes) ≡ false
votes_plain None small = refl
votes_plain (Some n) small = decimal_plain n (omega (arith, small))

-- four fields that need no quotes
pub four_plain : (a b c d : List ℕ) → needs_quotes default_writer a ≡ false → needs_quotes default_writer b ≡ false → needs_quotes default_writer c ≡ false → needs_quotes default_writer d ≡ false → ArePlain (a ∷ b ∷ c ∷ d ∷ [])
four_plain a b c d p q r s = (omega arith, each)
  where
    each : All (λ (field : List ℕ). needs_quotes default_writer field ≡ false) (a ∷ b ∷ c ∷ d ∷ [])
    each zero x within = p
    each (suc zero) x within = q
    each (suc (suc zero)) x within = r
    each (suc (suc (suc zero))) x within = s
    each (suc (suc (suc (suc n)))) x within = absurd (omega arith)

pub record_plain : (municipality list : ℕ) (entry : Entry) → municipality < 2 ^ 32 → list < 2 ^ 32 → entry.number < 2 ^ 32 → IfSome entry.votes (λ n. n < 2 ^ 32) → ArePlain (record_of municipality list entry)
record_plain municipality list entry m l n v =
    four_plain _ _ _ _ (decimal_plain municipality (omega arith)) (decimal_plain list (omega arith)) (decimal_plain entry.number (omega arith)) (votes_plain entry.votes v)

pub names_plain : ArePlain names
names_plain = four_plain _ _ _ _ refl refl refl refl

-- the fields after the first
following_text : (fields : Record) → All (λ field. needs_quotes default_writer field ≡ false) fields → fields_text default_writer fields ++ 10 ∷ [] ≡ following fields
unfolding fields_text
following_text [] plain = refl
following_text (field ∷ fields) plain =
    rw (plain 0 field (omega arith)) (ap (λ (l : List ℕ). 44 ∷ l) (append_assoc field (fields_text default_writer fields) (10 ∷ []) ∙ ap (λ (l : List ℕ). field ++ l) (following_text fields (λ i x within. plain (suc i) x (omega arith)))))

-- what `csv` writes for a record that needs no quotes is its line
pub row_text-plain : (fields : Record) → ArePlain fields → row_text default_writer fields ≡ line fields
unfolding is_blank
row_text-plain [] (two, plain) = absurd (omega arith)
row_text-plain (a ∷ []) (two, plain) = absurd (omega arith)
row_text-plain (a ∷ b ∷ fields) (two, plain) =
    rw (plain 0 a (omega arith)) (append_assoc a (fields_text default_writer (b ∷ fields)) (10 ∷ []) ∙ ap (λ (l : List ℕ). a ++ l) (following_text (b ∷ fields) (λ i x within. plain (suc i) x (omega arith))))

-- the same for a record that is given as four fields
pub plain_record : (a b c d x y z w : List ℕ) → a ≡ x → b ≡ y → c ≡ z → d ≡ w → ArePlain (x ∷ y ∷ z ∷ w ∷ []) → record_text (a ∷ b ∷ c ∷ d ∷ []) ≡ line (x ∷ y ∷ z ∷ w ∷ [])
plain_record a b c d x y z w e f g h plain = ap record_text (λ i. e i ∷ f i ∷ g i ∷ h i ∷ []) ∙ row_text-plain (x ∷ y ∷ z ∷ w ∷ []) plain
