-- Numerals and other words, and the number that their digits give.
use Rattle.std.proofs.Common.{◌≡◌, ℕ, zero, suc, ◌+◌, ◌-◌, ◌*◌, ◌/◌, ◌%◌, ◌^◌, ◌<◌, ◌≤◌, All, Bool, true, false, cond}
use Rattle.std.proofs.Common.{List, [], ◌∷◌, ◌++◌, length, map, slice_get, Some, None, Option, refl, ap, ◌∙◌, arith, decimal}
use Rattle.std.specs.Prelude.{IsTrue, nat_le, codes, replicate, ◌==◌}
use Rattle.std.specs.Fmt.{digits, digits_onto, digit_glyph}
use Rattle.std.specs.List.{list_all}
use Rattle.std.specs.Option.{option_map_or}
use Rattle.std.specs.Str.{bytes_eq}
use Rattle.std.specs.Str.Parse.{AllDigits, digits_value_after}
use Rattle.std.specs.Char.{digit_value}
use Rattle.std.proofs.lemmas.Bool.{and_parts, le-leb, leb-true}
use Rattle.std.proofs.lemmas.Bool.Decides.{nat_tests}
use Rattle.std.proofs.lemmas.Fmt.{decimal_is_IsNumeral, length-decimal-le}
use Rattle.std.proofs.lemmas.List.Elements.{All-append, All-cons, All-head, All-nil, All-tail}
use Rattle.std.proofs.lemmas.Str.Parse.{digit_from_value}
use Rattle.std.proofs.Math.Nat.{div-add-mod', mod-lt}
use Rattle.zh_districts.specs.Canton.{is_name, is_printable}
use Rattle.zh_sheet_text.specs.SheetText.{divisor_text}
use Rattle.zh_text.specs.Numbers.{padded}
use Rattle.zh_check.specs.Lines.{digits_after}
use Rattle.zh_check.proofs.DigitLemmas.{after_append}
use Rattle.zh_check.proofs.SeamLemmas.{IsPlain, IsWord}

-- what holds for all texts of digits holds for numerals
digit : (n : ℕ) → (48 ≤ digit_glyph false (n % 10)) × (digit_glyph false (n % 10) ≤ 57)
digit n =
    let small : n % 10 < 10 = mod-lt n (omega arith) in
    let is : digit_glyph false (n % 10) ≡ 48 + n % 10 = grind (arith, nat_tests) in
    (omega arith, omega arith)

onto : (Q : List ℕ → Type 0) → ((d : ℕ) (ds : List ℕ) → 48 ≤ d → d ≤ 57 → Q ds → Q (d ∷ ds)) → (k n : ℕ) (ds : List ℕ) → Q ds → Q (digits_onto k 10 false n ds)
onto Q more zero n ds is = is
onto Q more (suc k) n ds is =
    let d : ℕ = digit_glyph false (n % 10) in
    let next : Q (d ∷ ds) = more d ds (digit n).0 (digit n).1 is in
    elim (n / 10 == 0) as (λ b. Q (cond b (d ∷ ds) (digits_onto k 10 false (n / 10) (d ∷ ds)))) [
      | true ↦ next
      | false ↦ onto Q more k (n / 10) (d ∷ ds) next
    ]

from_one : (Q : List ℕ → Type 0) → ((d : ℕ) → 48 ≤ d → d ≤ 57 → Q (d ∷ [])) → ((d : ℕ) (ds : List ℕ) → 48 ≤ d → d ≤ 57 → Q ds → Q (d ∷ ds)) →
    (k n : ℕ) → Q (digits_onto (suc k) 10 false n [])
from_one Q one more k n =
    let d : ℕ = digit_glyph false (n % 10) in
    let first : Q (d ∷ []) = one d (digit n).0 (digit n).1 in
    elim (n / 10 == 0) as (λ b. Q (cond b (d ∷ []) (digits_onto k 10 false (n / 10) (d ∷ [])))) [
      | true ↦ first
      | false ↦ onto Q more k (n / 10) (d ∷ []) first
    ]

pub numeral_is : (Q : List ℕ → Type 0) → ((d : ℕ) → 48 ≤ d → d ≤ 57 → Q (d ∷ [])) → ((d : ℕ) (ds : List ℕ) → 48 ≤ d → d ≤ 57 → Q ds → Q (d ∷ ds)) →
    (n : ℕ) → Q (decimal n)
unfolding digits
numeral_is Q one more n = from_one Q one more 63 n

-- numerals are words
pub decimal_word : (n : ℕ) → IsWord (decimal n)
decimal_word =
    numeral_is (λ ds. IsWord ds) (λ d low high. All-cons (λ b. 33 ≤ b) d [] (omega (arith, low)) (All-nil (λ b. 33 ≤ b)))
    (λ d ds low high is. All-cons (λ b. 33 ≤ b) d ds (omega (arith, low)) is)

-- the number of some digits
after_digits : (ds : List ℕ) (n : ℕ) → AllDigits 10 ds → digits_after n ds ≡ digits_value_after 10 n ds
after_digits [] n all = refl
after_digits (d ∷ ds) n all =
    let range = digit_from_value d all.0 in
    let low : nat_le 48 d ≡ true = le-leb 48 d range.0 in
    let high : nat_le d 57 ≡ true = le-leb d 57 range.1 in
    let value : digit_value d ≡ d - 48 = grind (arith, nat_tests) in
    rw (low, high, value) (after_digits ds (n * 10 + (d - 48)) all.1)

pub read-decimal : (n : ℕ) → n < 2 ^ 64 → digits_after 0 (decimal n) ≡ n
read-decimal n small =
    let is = decimal_is_IsNumeral n small in
    after_digits (decimal n) 0 is.0.1 ∙ is.1

-- the value of the nth decimal place
abbrev pub places : ℕ → ℕ
places zero = 1
places (suc n) = 10 * places n

shifted : (a b n v p d : ℕ) → a ≡ (n * 10 + v) * p + d → b ≡ (0 * 10 + v) * p + d → a ≡ n * (10 * p) + b
shifted a b n v p d one zero_is = omega (arith, one, zero_is)

after_places : (ds : List ℕ) (n : ℕ) → AllDigits 10 ds → digits_after n ds ≡ n * places (length ds) + digits_after 0 ds
after_places [] n all = omega arith
after_places (d ∷ ds) n all =
    let range = digit_from_value d all.0 in
    let low : nat_le 48 d ≡ true = le-leb 48 d range.0 in
    let high : nat_le d 57 ≡ true = le-leb d 57 range.1 in
    let one = after_places ds (n * 10 + (d - 48)) all.1 in
    let none = after_places ds (0 * 10 + (d - 48)) all.1 in
    rw (low, high) (shifted (digits_after (n * 10 + (d - 48)) ds) (digits_after (0 * 10 + (d - 48)) ds) n (d - 48) (places (length ds)) (digits_after 0 ds) one none)

-- leading zeros
zeros_word : (k : ℕ) → IsWord (replicate k 48)
zeros_word zero = All-nil (λ b. 33 ≤ b)
zeros_word (suc k) = All-cons (λ b. 33 ≤ b) 48 (replicate k 48) (omega arith) (zeros_word k)

zeros_digits : (k : ℕ) (ds : List ℕ) → AllDigits 10 ds → AllDigits 10 (replicate k 48 ++ ds)
zeros_digits zero ds all = all
zeros_digits (suc k) ds all = (omega arith, zeros_digits k ds all)

zeros_after : (k : ℕ) (ds : List ℕ) → digits_after 0 (replicate k 48 ++ ds) ≡ digits_after 0 ds
zeros_after zero ds = refl
zeros_after (suc k) ds = zeros_after k ds

length-zeros : (k : ℕ) (ds : List ℕ) → length (replicate k 48 ++ ds) ≡ k + length ds
length-zeros zero ds = omega arith
length-zeros (suc k) ds = omega (arith, length-zeros k ds)

-- a divisor is a word, and its digits give its millionths
pub divisor_word : (m : ℕ) → IsWord (divisor_text m)
divisor_word m =
    All-append (λ b. 33 ≤ b) (decimal (m / 1000000) ++ codes ".") (padded 6 (m % 1000000))
    (All-append (λ b. 33 ≤ b) (decimal (m / 1000000)) (codes ".") (decimal_word (m / 1000000)) (All-cons (λ b. 33 ≤ b) 46 [] (omega arith) (All-nil (λ b. 33 ≤ b))))
    (All-append (λ b. 33 ≤ b) (replicate (6 - length (decimal (m % 1000000))) 48) (decimal (m % 1000000)) (zeros_word (6 - length (decimal (m % 1000000)))) (decimal_word (m % 1000000)))

six_after : (f n : ℕ) → f < 1000000 → digits_after n (padded 6 f) ≡ n * 1000000 + f
six_after f n small =
    let ds : List ℕ = decimal f in
    let is = decimal_is_IsNumeral f (omega arith) in
    let short : length ds ≤ 6 = length-decimal-le 6 f (omega arith) small (omega arith) in
    let six : length (padded 6 f) ≡ 6 = omega (arith, length-zeros (6 - length ds) ds) in
    let value : digits_after 0 (padded 6 f) ≡ f = zeros_after (6 - length ds) ds ∙ read-decimal f (omega arith) in
    let worth : places (length (padded 6 f)) ≡ 1000000 = ap places six in
    after_places (padded 6 f) n (zeros_digits (6 - length ds) ds is.0.1) ∙ rw (worth, value) refl

pub read-divisor : (m : ℕ) → m < 2 ^ 64 → digits_after 0 (divisor_text m) ≡ m
read-divisor m small =
    let w : ℕ = m / 1000000 in
    let f : ℕ = m % 1000000 in
    let below : f < 1000000 = mod-lt m (omega arith) in
    let whole : w * 1000000 + f ≡ m = div-add-mod' m 1000000 in
    let front : digits_after 0 (decimal w ++ codes ".") ≡ w = after_append (decimal w) (codes ".") 0 ∙ read-decimal w (omega arith) in
    after_append (decimal w ++ codes ".") (padded 6 f) 0 ∙ ap (λ n. digits_after n (padded 6 f)) front ∙ six_after f w below ∙ whole

-- a dash is a word
pub dash_word : IsWord (codes "-")
dash_word = All-cons (λ b. 33 ≤ b) 45 [] (omega arith) (All-nil (λ b. 33 ≤ b))

pub decimal_or_dash : (shows : Bool) (n : ℕ) → IsWord (cond shows (decimal n) (codes "-"))
decimal_or_dash true n = decimal_word n
decimal_or_dash false n = dash_word

pub divisor_or_dash : (divisor : ℕ → ℕ) (found : Option ℕ) → IsWord (option_map_or (λ k. divisor_text (divisor k)) found (codes "-"))
divisor_or_dash divisor None = dash_word
divisor_or_dash divisor (Some k) = divisor_word (divisor k)

-- a fraction is a word
pub fraction_word : (n m : ℕ) → IsWord (decimal n ++ (codes "/" ++ decimal m))
fraction_word n m =
    All-append (λ b. 33 ≤ b) (decimal n) (codes "/" ++ decimal m) (decimal_word n) (All-cons (λ b. 33 ≤ b) 47 (decimal m) (omega arith) (decimal_word m))

-- the digits of a divisor, or of a dash
pub read-divisor_or_dash : (divisor : ℕ → ℕ) (found : Option ℕ) → option_map_or divisor found 0 < 2 ^ 64 →
    digits_after 0 (option_map_or (λ k. divisor_text (divisor k)) found (codes "-")) ≡ option_map_or divisor found 0
read-divisor_or_dash divisor None small = refl
read-divisor_or_dash divisor (Some k) small = read-divisor (divisor k) small

-- a text that passes the test is a word
pub by_test : (word : List ℕ) → list_all (λ b. nat_le 33 b) word ≡ true → IsWord word
by_test [] e = All-nil (λ b. 33 ≤ b)
by_test (b ∷ word) e =
    let parts = and_parts (nat_le 33 b) (list_all (λ b. nat_le 33 b) word) e in
    All-cons (λ b. 33 ≤ b) b word (leb-true 33 b parts.0) (by_test word parts.1)

abbrev pub is_final_word : List ℕ → Bool
is_final_word word = bytes_eq word (codes "final")

pub kind_word : (is_final : Bool) → IsWord (cond is_final (codes "final") (codes "provisional"))
kind_word true = by_test (codes "final") refl
kind_word false = by_test (codes "provisional") refl

pub yes_or_no_word : (yes : Bool) → IsWord (cond yes (codes "yes") (codes "no"))
yes_or_no_word true = by_test (codes "yes") refl
yes_or_no_word false = by_test (codes "no") refl

-- names have no control characters
printable : (name : List ℕ) → list_all is_printable name ≡ true → IsPlain name
printable [] e = All-nil (λ b. 32 ≤ b)
printable (b ∷ name) e =
    let parts = and_parts (is_printable b) (list_all is_printable name) e in
    let high = and_parts _ _ parts.0 in
    All-cons (λ b. 32 ≤ b) b name (leb-true 32 b high.0) (printable name parts.1)

name_plain : (name : List ℕ) → IsTrue (is_name name) → IsPlain name
name_plain name is = printable name (and_parts _ _ (and_parts _ _ is).1).1

-- the name of a part of the set-up, or an empty text if there is no such part
pub named_plain : {X : Type 0} (name : X → List ℕ) (xs : List X) (k : ℕ) → All (λ name. IsTrue (is_name name)) (map name xs) →
    IsPlain (option_map_or name (slice_get xs k) [])
named_plain name [] k rule = All-nil (λ b. 32 ≤ b)
named_plain name (x ∷ xs) zero rule = name_plain (name x) (All-head (λ name. IsTrue (is_name name)) (name x) (map name xs) rule)
named_plain name (x ∷ xs) (suc k) rule = named_plain name xs k (All-tail (λ name. IsTrue (is_name name)) (name x) (map name xs) rule)
