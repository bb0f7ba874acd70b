-- Words: the part of a text before its first space is determined by the text.
use Rattle.std.proofs.Common.{◌≡◌, ◌==◌, ℕ, ◌<◌, ◌≤◌, ◌^◌, Bool, true, false, cond, not, List, [], ◌∷◌, ◌++◌, length, get_or, take, drop, set, ◌+◌, decimal, sym, ap, ◌∙◌, refl, arith, rules, tests, append_assoc, append-nil}
use Rattle.std.proofs.lemmas.Fmt.{decimal_is_IsNumeral}
use Rattle.std.proofs.lemmas.List.{append_cancel_left, drop_more, take_more_set, take_all, nil_from_length}
use Rattle.std.proofs.lemmas.List.Sums.{take_while-cons}
use Rattle.std.proofs.lemmas.Str.Parse.{digit_from_value}
use Rattle.std.specs.Str.Parse.{AllDigits}
use Rattle.zh_commands.specs.Words.{first_word, numerals}

-- the word contains no space
abbrev pub IsWord : List ℕ → Type 0
IsWord word = first_word word ≡ word

-- a first word, byte by byte
first_word-cons : (byte : ℕ) (bytes : List ℕ) → first_word (byte ∷ bytes) ≡ cond (not (byte == 32)) (byte ∷ first_word bytes) []
first_word-cons byte bytes = take_while-cons (λ b. not (b == 32)) byte bytes

-- a conditional list that is not empty
cond_cons : (test : Bool) (byte : ℕ) (x y : List ℕ) → cond test (byte ∷ x) [] ≡ byte ∷ y → (test ≡ true) × (x ≡ y)
cond_cons true byte x y e = (refl, cc)
cond_cons false byte x y e = absurd (cc)

-- a word is the first word of a text if nothing, or a space, follows it
pub first_word-append : (word rest : List ℕ) → IsWord word → first_word rest ≡ [] → first_word (word ++ rest) ≡ word
first_word-append [] rest whole none = none
first_word-append (byte ∷ word) rest whole none =
    let (other, same) = cond_cons _ byte (first_word word) word (sym (first_word-cons byte word) ∙ whole) in
    first_word-cons byte (word ++ rest) ∙ rw other (ap (λ l. byte ∷ l) (first_word-append word rest same none))

-- digits are a word
IsWord-from_digits : (digits : List ℕ) → AllDigits 10 digits → IsWord digits
IsWord-from_digits [] all = refl
IsWord-from_digits (digit ∷ digits) all =
    let range = digit_from_value digit all.0 in
    let other : not (digit == 32) ≡ true = search (tests, rules) in
    first_word-cons digit digits ∙ rw other (ap (λ l. digit ∷ l) (IsWord-from_digits digits all.1))

-- a numeral is a word
pub IsWord-decimal : (n : ℕ) → n < 2 ^ 64 → IsWord (decimal n)
IsWord-decimal n small = IsWord-from_digits (decimal n) (decimal_is_IsNumeral n small).0.1

-- a text has only one first word, and only one rest
pub split_is : (bytes first left word rest : List ℕ) → first ≡ first_word bytes → bytes ≡ first ++ left → IsWord word → first_word rest ≡ [] → bytes ≡ word ++ rest → (first ≡ word) × (left ≡ rest)
split_is bytes first left word rest is whole one none e =
    let same : first ≡ word = is ∙ ap first_word e ∙ first_word-append word rest one none in
    (same, append_cancel_left word left rest (ap (λ l. l ++ left) (sym same) ∙ sym whole ∙ e))

-- numerals begin with a space, or there are none
pub first_word-numerals : (numbers : List ℕ) → first_word (numerals numbers) ≡ []
first_word-numerals [] = refl
first_word-numerals (n ∷ numbers) = refl

-- numerals, then more numerals
pub numerals-append : (ms ns : List ℕ) → numerals (ms ++ ns) ≡ numerals ms ++ numerals ns
numerals-append [] ns = refl
numerals-append (m ∷ ms) ns = ap (λ l. 32 ∷ decimal m ++ l) (numerals-append ms ns) ∙ sym (append_assoc (32 ∷ decimal m) (numerals ms) (numerals ns))

-- the first of some numerals, and the numerals after it
pub numeral_is : (text first left : List ℕ) (n : ℕ) (numbers : List ℕ) → first ≡ first_word text → text ≡ first ++ left → n < 2 ^ 32 → text ≡ decimal n ++ numerals numbers → (first ≡ decimal n) × (left ≡ numerals numbers)
numeral_is text first left n numbers is whole small e =
    split_is text first left (decimal n) (numerals numbers) is whole (IsWord-decimal n (omega (arith, small))) (first_word-numerals numbers) e

-- the next numeral, and the numerals after it
pub numerals-drop : (text numbers : List ℕ) (i : ℕ) → i < length numbers → text ≡ numerals (drop i numbers) → text ≡ numerals (get_or numbers i 0 ∷ drop (i + 1) numbers)
numerals-drop text numbers i within e = e ∙ ap numerals (drop_more numbers i 0 within)

-- one more numeral is read
pub numerals_more : (text rest left numbers : List ℕ) (i n : ℕ) → i < length numbers → text ≡ numerals (take i numbers) ++ rest → rest ≡ 32 ∷ decimal n ++ left → text ≡ numerals (take (i + 1) (set numbers i n)) ++ left
numerals_more text rest left numbers i n within e found =
    let read = numerals (take i numbers) in
    let last = append_assoc read (32 ∷ decimal n ++ []) left ∙ ap (λ l. read ++ (32 ∷ l)) (append_assoc (decimal n) [] left) in
    e ∙ ap (λ l. read ++ l) found ∙ sym (ap (λ l. numerals l ++ left) (take_more_set numbers i n within) ∙ ap (λ l. l ++ left) (numerals-append (take i numbers) (n ∷ [])) ∙ last)

-- all numerals are read
pub numerals_whole : (text rest numbers : List ℕ) (i : ℕ) → length numbers ≤ i → length rest ≡ 0 → text ≡ numerals (take i numbers) ++ rest → text ≡ numerals numbers
numerals_whole text rest numbers i all none e =
    e ∙ ap (λ l. numerals (take i numbers) ++ l) (nil_from_length rest none) ∙ append-nil (numerals (take i numbers)) ∙ ap numerals (take_all i numbers all)
