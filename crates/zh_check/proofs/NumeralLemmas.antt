-- What a sheet writes is possible at its part, and is read back as it was.
use Rattle.std.proofs.Common.{◌≡◌, ℕ, ◌-◌, ◌^◌, ◌<◌, ◌≤◌, ◌&&◌, Bool, true, false, cond, List, [], ◌∷◌, ◌++◌, length, min, Some, None, Option, refl, sym, ap, ◌∙◌, arith, decimal}
use Rattle.std.specs.Prelude.{◌==◌, codes, nat_le, not}
use Rattle.std.specs.Str.{bytes_eq}
use Rattle.std.specs.Char.{is_ascii_digit}
use Rattle.std.specs.List.{list_all}
use Rattle.std.specs.Option.{option_map_or}
use Rattle.std.proofs.lemmas.Bool.{and_from, le-leb, ne_eqb, or_left, or_right}
use Rattle.std.proofs.lemmas.List.Folds.{list_all-append}
use Rattle.std.proofs.lemmas.Slice.Eq.{bytes_eq-Decides}
use Rattle.std.proofs.Math.Nat.{min-eq_left}
use Rattle.zh_sheet_text.specs.SheetText.{divisor_text}
use Rattle.zh_sheet_text.specs.declared.line.SheetPart.{SheetPart}
use Rattle.zh_sheet_text.specs.declared.line.SheetPart.TheVariants.{Kind, TakesPart, GroupVoters, GroupDivisor}
use Rattle.zh_check.specs.Form.{dots_for, filled, fits, is_digit_or, is_divisor, is_number, is_number_from, is_made_of_digits}
use Rattle.zh_check.specs.Lines.{digits_after, number_of_word}
use Rattle.zh_check.proofs.WordLemmas.{numeral_is, read-decimal, read-divisor}

-- each byte is a digit or `mark`
abbrev IsNumeralOf : ℕ → List ℕ → Type 0
IsNumeralOf mark word = list_all (is_digit_or mark) word ≡ true

digit_is : (d : ℕ) → 48 ≤ d → d ≤ 57 → is_ascii_digit d ≡ true
digit_is d low high = and_from _ _ (le-leb 48 d low) (le-leb d 57 high)

digit_fits : (mark d : ℕ) → 48 ≤ d → d ≤ 57 → is_digit_or mark d ≡ true
digit_fits mark d low high = or_left (is_ascii_digit d) (d == mark) (digit_is d low high)

decimal_digits : (mark n : ℕ) → IsNumeralOf mark (decimal n)
decimal_digits mark =
    numeral_is (λ ds. IsNumeralOf mark ds) (λ d low high. and_from (is_digit_or mark d) true (digit_fits mark d low high) refl)
    (λ d ds low high is. and_from (is_digit_or mark d) (list_all (is_digit_or mark) ds) (digit_fits mark d low high) is)

some_there : (x : ℕ) (xs : List ℕ) → (length (x ∷ xs) == 0) ≡ false
some_there x xs = ne_eqb (length (x ∷ xs)) 0 (λ e. omega (arith, e))

decimal_some : (n : ℕ) → (length (decimal n) == 0) ≡ false
decimal_some = numeral_is (λ ds. (length ds == 0) ≡ false) (λ d low high. some_there d []) (λ d ds low high is. some_there d ds)

more_some : (xs ys : List ℕ) → (length xs == 0) ≡ false → (length (xs ++ ys) == 0) ≡ false
more_some [] ys some = absurd (cc)
more_some (x ∷ xs) ys some = some_there x (xs ++ ys)

numeral : (mark : ℕ) (word : List ℕ) → (length word == 0) ≡ false → IsNumeralOf mark word → is_made_of_digits mark word ≡ true
numeral mark word some is = and_from (not (length word == 0)) (list_all (is_digit_or mark) word) (ap not some) is

appended : (mark : ℕ) (xs ys : List ℕ) → IsNumeralOf mark xs → IsNumeralOf mark ys → IsNumeralOf mark (xs ++ ys)
appended mark xs ys one other = list_all-append (is_digit_or mark) xs ys ∙ and_from (list_all (is_digit_or mark) xs) (list_all (is_digit_or mark) ys) one other

pub decimal_numeral : (mark n : ℕ) → is_made_of_digits mark (decimal n) ≡ true
decimal_numeral mark n = numeral mark (decimal n) (decimal_some n) (decimal_digits mark n)

-- a word that is possible at a part is kept
pub word_filled : (part : SheetPart) (word : List ℕ) → fits part word ≡ true → filled part word ≡ word
word_filled part word fit = ap (λ b. cond b word (dots_for word)) fit

-- the number that is read from what was written
pub number_read : (word : List ℕ) (n : ℕ) → digits_after 0 word ≡ n → n < 2 ^ 64 → number_of_word word ≡ n
number_read word n value small = ap (λ v. min v (2 ^ 64 - 1)) value ∙ min-eq_left (omega (arith, small))

pub decimal_read : (n : ℕ) → n < 2 ^ 64 → number_of_word (decimal n) ≡ n
decimal_read n small = number_read (decimal n) n (read-decimal n small) small

same_bytes : (xs ys : List ℕ) → xs ≡ ys → bytes_eq xs ys ≡ true
same_bytes xs ys same = (bytes_eq-Decides xs ys).1 same

-- numbers and divisors, as they are written, are possible
pub number_fits : (n : ℕ) → n < 2 ^ 64 → is_number (decimal n) ≡ true
number_fits n small = same_bytes (decimal n) (decimal (number_of_word (decimal n))) (ap decimal (sym (decimal_read n small)))

within_fits : (low high n : ℕ) → low ≤ n → n ≤ high → n < 2 ^ 64 → is_number_from low high (decimal n) ≡ true
within_fits low high n above below small =
    let read : number_of_word (decimal n) ≡ n = decimal_read n small in
    and_from (is_number (decimal n)) (nat_le low (number_of_word (decimal n)) && nat_le (number_of_word (decimal n)) high) (number_fits n small)
    (and_from (nat_le low (number_of_word (decimal n))) (nat_le (number_of_word (decimal n)) high)
    (ap (nat_le low) read ∙ le-leb low n above) (ap (λ m. nat_le m high) read ∙ le-leb n high below))

pub desk_fits : (n : ℕ) → 1 ≤ n → n ≤ 8 → is_number_from 1 8 (decimal n) ≡ true
desk_fits n low high = within_fits 1 8 n low high (omega (arith, high))

pub seats_fit : (n : ℕ) → n ≤ 400 → is_number_from 0 400 (decimal n) ≡ true
seats_fit n few = within_fits 0 400 n (omega arith) few (omega (arith, few))

pub divisor_fits : (m : ℕ) → m < 2 ^ 64 → is_divisor (divisor_text m) ≡ true
divisor_fits m small =
    same_bytes (divisor_text m) (divisor_text (number_of_word (divisor_text m)))
    (ap divisor_text (sym (number_read (divisor_text m) m (read-divisor m small) small)))

pub divisor_or_dash_fits : (divisor : ℕ → ℕ) (found : Option ℕ) → ((k : ℕ) → divisor k < 2 ^ 64) →
    fits (GroupDivisor 0) (option_map_or (λ k. divisor_text (divisor k)) found (codes "-")) ≡ true
divisor_or_dash_fits divisor None small = refl
divisor_or_dash_fits divisor (Some k) small = or_right _ (is_divisor (divisor_text (divisor k))) (divisor_fits (divisor k) (small k))

pub fraction_fits : (n m : ℕ) → is_made_of_digits 47 (decimal n ++ (codes "/" ++ decimal m)) ≡ true
fraction_fits n m =
    numeral 47 (decimal n ++ (codes "/" ++ decimal m)) (more_some (decimal n) (codes "/" ++ decimal m) (decimal_some n))
    (appended 47 (decimal n) (codes "/" ++ decimal m) (decimal_digits 47 n) (appended 47 (codes "/") (decimal m) refl (decimal_digits 47 m)))

pub kind_fits : (is_final : Bool) → fits Kind (cond is_final (codes "final") (codes "provisional")) ≡ true
kind_fits true = refl
kind_fits false = refl

pub yes_or_no_fits : (yes : Bool) → fits (TakesPart 0) (cond yes (codes "yes") (codes "no")) ≡ true
yes_or_no_fits true = refl
yes_or_no_fits false = refl

pub voters_or_dash_fits : (shows : Bool) (n : ℕ) → fits (GroupVoters 0) (cond shows (decimal n) (codes "-")) ≡ true
voters_or_dash_fits true n = or_right _ (is_made_of_digits 48 (decimal n)) (decimal_numeral 48 n)
voters_or_dash_fits false n = refl
