-- Numbers in decimal: what `parse` reads, and how they begin.
use Rattle.std.proofs.Common.{◌≡◌, ◌≢◌, ℕ, ◌<◌, ◌^◌, List, length, drop, get_or, Ok, Err, Result, MatchOption, decimal, IsUtf8, sym, ap, ◌∙◌, subst, inl, inr, arith, length-drop}
use Rattle.std.proofs.lemmas.Fmt.{decimal_is_IsNumeral, decimal_digit, first_decimal, parse-decimal, decimal-digits_value, IsAscii-decimal}
use Rattle.std.proofs.lemmas.Str.{IsUtf8-from_ascii}
use Rattle.std.proofs.lemmas.Str.Parse.{digit_at, numerals_by_value, tells_digits, without_leading_plus_none, without_leading_plus_plus}
use Rattle.std.proofs.lemmas.Bool.{cases_lt}
use Rattle.std.specs.Int.{IsInRange}
use Rattle.std.specs.Result.{result_ok}
use Rattle.std.specs.Str.Parse.{AllDigits, ParsesUnsigned, without_leading_plus, IsNumeral}

-- a number in decimal with several digits begins with 1 to 9
pub IsInRange-from_decimal : (word : List ℕ) (n : ℕ) → n < 2 ^ 32 → word ≡ decimal n → 1 < length word → IsInRange 49 57 (get_or word 0 0)
IsInRange-from_decimal word n small e long =
    elim (cases_lt n 10) [
      | inl one ↦ absurd (omega (arith, long, ap length (e ∙ decimal_digit n one)))
      | inr more ↦
          let below : n < 2 ^ 64 = omega arith in
          let first = first_decimal n (omega arith) below in
          let digit = digit_at (decimal n) 0 (decimal_is_IsNumeral n below).0.1 (omega (arith, long, ap length e)) in
          rw e (omega (arith, first, digit.0), digit.1)
    ]

-- a number in decimal is UTF-8
pub IsUtf8-from_decimal : (word : List ℕ) (n : ℕ) → n < 2 ^ 32 → word ≡ decimal n → IsUtf8 word
IsUtf8-from_decimal word n small e = rw e (IsUtf8-from_ascii (decimal n) (IsAscii-decimal n (omega arith)))

-- a word that `parse` reads has no sign if it has at most one byte or begins with 1 to 9
no_sign : (word : List ℕ) → (1 < length word → IsInRange 49 57 (get_or word 0 0)) → IsNumeral 10 (without_leading_plus word) → get_or word 0 0 ≢ 43
no_sign word plain digits sign =
    let e = without_leading_plus_plus word sign in
    let some : 0 < length (drop 1 word) = subst (λ (ds : List ℕ). 0 < length ds) e digits.0 in
    let long : 1 < length word = omega (arith, some, length-drop 1 word) in
    absurd (omega (arith, (plain long).0, sign))

-- what `parse` reads from such a word is the number that it spells in decimal
pub MatchOption-from_parse : {E : Type 0} (word : List ℕ) (r : Result ℕ E) → (1 < length word → IsInRange 49 57 (get_or word 0 0)) → ParsesUnsigned 32 10 word r → MatchOption (result_ok r) ((n : ℕ) → n < 2 ^ 32 → word ≢ decimal n) (λ n. (n < 2 ^ 32) × (word ≡ decimal n))
MatchOption-from_parse word (Err error) plain parsed =
    λ n small e. let wrong = parse-decimal 32 n word (Err error) small (omega arith) e parsed in cc
MatchOption-from_parse word (Ok x) plain parsed =
    let same = without_leading_plus_none word (no_sign word plain parsed.0.0) in
    let (digits, value) = (rw same at parsed) in
    let zero : get_or word 0 0 ≡ 48 → length word ≡ 1 =
    λ first. elim (cases_lt 1 (length word)) [ inl long ↦ absurd (omega (arith, (plain long).0, first)) | inr short ↦ omega (arith, digits.0.0, short) ] in
    let own = numerals_by_value (AllDigits 10) tells_digits in
    (rw value digits.1, sym (decimal-digits_value own word digits.0.1 digits.0.0 zero (omega (arith, digits.1))) ∙ ap decimal (sym value))
