-- A refusal is read back from its name.
use Rattle.std.proofs.Common.{◌≡◌, ◌==◌, ℕ, ◌+◌, ◌<◌, ◌^◌, true, not, cond, Option, None, Some, List, [], ◌∷◌, ◌++◌, length, take, drop, decimal, codes, refl, ap, sym, ◌∙◌, arith, rules, tests, append_assoc, length-append}
use Rattle.std.specs.List.{after_first, before_first, find, position_or_len}
use Rattle.std.specs.Str.{bytes_eq}
use Rattle.std.specs.Str.Parse.{AllDigits, digits_value}
use Rattle.std.proofs.lemmas.Fmt.{decimal_is_IsNumeral}
use Rattle.std.proofs.lemmas.List.{drop_at, take_at}
use Rattle.std.proofs.lemmas.Str.Parse.{digit_from_value}
use Rattle.zh_upper.specs.Refusals.{upper_refusal_name}
use Rattle.zh_upper.specs.declared.fault.UpperRefusal.{UpperRefusal}
use Rattle.zh_upper.proofs.CallerLemmas.{upper_named, upper_read_back}
use Rattle.zh_sheet.specs.Refusals.{IsSheetRefusal, refusal_name}
use Rattle.zh_sheet.specs.declared.fault.SheetRefusal.{SheetRefusal}
use Rattle.zh_sheet.specs.declared.fault.SheetRefusal.TheVariants as refusals

-- the number of a numeral, and of each of two numerals with a space between them
abbrev pub number_of : List ℕ → ℕ
number_of numeral = digits_value 10 numeral

abbrev pub first_number : List ℕ → ℕ
first_number numerals = number_of (before_first (λ byte. byte == 32) numerals)

abbrev pub second_number : List ℕ → ℕ
second_number numerals = number_of (after_first (λ byte. byte == 32) numerals)

-- the refusals without numbers, except those of the groups
abbrev pub plain : List SheetRefusal
plain = refusals.TiedSeats ∷ refusals.Exhausted ∷ []

-- the refusal with this name: that of the groups, if there is one, and otherwise one with or without numbers
abbrev pub named_or : Option UpperRefusal → List ℕ → Option SheetRefusal
named_or (Some refusal) bytes = Some (refusals.NoUpperSeats refusal)
named_or None bytes =
    cond (bytes_eq (take 7 bytes) (codes "noseat ")) (Some (refusals.NoSeat (number_of (drop 7 bytes))))
    (cond (bytes_eq (take 8 bytes) (codes "novotes ")) (Some (refusals.NoVotes (number_of (drop 8 bytes))))
    (cond (bytes_eq (take 11 bytes) (codes "tied lower ")) (Some (refusals.TiedLower (first_number (drop 11 bytes)) (second_number (drop 11 bytes))))
    (find (λ refusal. bytes_eq (refusal_name refusal) bytes) plain)))

-- the refusal that has this name
abbrev pub refusal_named : List ℕ → Option SheetRefusal
refusal_named bytes = named_or (upper_named bytes) bytes

number_of-decimal : (n : ℕ) → n < 2 ^ 32 → number_of (decimal n) ≡ n
number_of-decimal n small = (decimal_is_IsNumeral n (omega (arith, small))).1

-- digits end at the first space
digits_end : (digits rest : List ℕ) → AllDigits 10 digits → position_or_len (λ byte. byte == 32) (digits ++ 32 ∷ rest) ≡ length digits
digits_end [] rest all = refl
digits_end (digit ∷ digits) rest all =
    let range = digit_from_value digit all.0 in
    let other : not (digit == 32) ≡ true = search (tests, rules) in
    let more = digits_end digits rest all.1 in
    rw other (omega (arith, more))

numeral_ends : (m n : ℕ) → m < 2 ^ 32 → position_or_len (λ byte. byte == 32) (decimal m ++ 32 ∷ decimal n) ≡ length (decimal m)
numeral_ends m n small = digits_end (decimal m) (decimal n) (decimal_is_IsNumeral m (omega (arith, small))).0.1

first_is : (m n : ℕ) → m < 2 ^ 32 → first_number (decimal m ++ 32 ∷ decimal n) ≡ m
first_is m n small =
    ap (λ (k : ℕ). number_of (take k (decimal m ++ 32 ∷ decimal n))) (numeral_ends m n small)
    ∙ ap number_of (take_at (decimal m) (32 ∷ decimal n) (length (decimal m)) refl) ∙ number_of-decimal m small

second_is : (m n : ℕ) → m < 2 ^ 32 → n < 2 ^ 32 → second_number (decimal m ++ 32 ∷ decimal n) ≡ n
second_is m n small fits =
    let rest : drop (length (decimal m) + 1) (decimal m ++ 32 ∷ decimal n) ≡ decimal n
    = ap (drop (length (decimal m) + 1)) (sym (append_assoc (decimal m) (32 ∷ []) (decimal n)))
    ∙ drop_at (decimal m ++ 32 ∷ []) (decimal n) (length (decimal m) + 1) (length-append (decimal m) (32 ∷ [])) in
    ap (λ (k : ℕ). number_of (drop (k + 1) (decimal m ++ 32 ∷ decimal n))) (numeral_ends m n small)
    ∙ ap number_of rest ∙ number_of-decimal n fits

pub read_back : (refusal : SheetRefusal) → IsSheetRefusal refusal → refusal_named (refusal_name refusal) ≡ Some refusal
read_back (refusals.NoSeat d) is = ap (λ (n : ℕ). Some (refusals.NoSeat n)) (number_of-decimal d is)
read_back (refusals.NoVotes d) is = ap (λ (n : ℕ). Some (refusals.NoVotes n)) (number_of-decimal d is)
read_back (refusals.TiedLower d g) is =
    ap (λ (n : ℕ). Some (refusals.TiedLower n (second_number (decimal d ++ 32 ∷ decimal g)))) (first_is d g is.0)
    ∙ ap (λ (n : ℕ). Some (refusals.TiedLower d n)) (second_is d g is.0 is.1)
read_back (refusals.NoUpperSeats refusal) is = ap (λ found. named_or found (upper_refusal_name refusal)) (upper_read_back refusal)
read_back refusals.TiedSeats is = refl
read_back _ is = refl
