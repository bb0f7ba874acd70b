-- Requests are told apart by their words.
use Rattle.std.proofs.Common.{◌≡◌, ◌≢◌, ℕ, true, List, [], ◌∷◌, ◌++◌, get_or, drop, codes, decimal, sym, ap, ◌∙◌, refl, subst, arith, Option, Some, None}
use Rattle.std.specs.Option.{MatchOption}
use Rattle.std.specs.Str.{bytes_eq, IsUtf8}
use Rattle.std.proofs.lemmas.Fmt.{decimal_injective}
use Rattle.zh_returns.specs.declared.row.Row.{Row}
use Rattle.zh_commands.specs.declared.lines.Request.{Request}
use Rattle.zh_commands.specs.declared.lines.Request.TheVariants.{Command, Batch, Query}
use Rattle.zh_commands.specs.declared.lines.DeskCommand.TheVariants as commands
use Rattle.zh_commands.specs.declared.lines.BatchStep.TheVariants as steps
use Rattle.zh_commands.specs.declared.lines.DeskQuery.TheVariants as queries
use Rattle.zh_commands.specs.Words.{first_word, numerals, AreNumerals}
use Rattle.zh_commands.specs.Forms.{form_of}
use Rattle.zh_commands.specs.Lines.{IsRequest}
use Rattle.zh_commands.proofs.SplitLemmas.{IsWord, IsWord-decimal, first_word-append, first_word-numerals, split_is}

-- the text of a request, which follows the desk and a space
abbrev pub request_text : Request → List ℕ
request_text request = (form_of request).word ++ numerals (form_of request).numbers

-- numerals with the same bytes are of the same numbers
pub numerals_injective : (ms ns : List ℕ) → AreNumerals ms → AreNumerals ns → numerals ms ≡ numerals ns → ms ≡ ns
numerals_injective [] [] _ _ e = refl
numerals_injective [] (n ∷ ns) _ _ e = absurd (cc)
numerals_injective (m ∷ ms) [] _ _ e = absurd (cc)
numerals_injective (m ∷ ms) (n ∷ ns) fit fits e =
    let text = decimal m ++ numerals ms in
    let first = first_word-append (decimal m) (numerals ms) (IsWord-decimal m (omega (arith, fit.0))) (first_word-numerals ms) in
    let (head, tail) = split_is text (decimal m) (numerals ms) (decimal n) (numerals ns) (sym first) refl (IsWord-decimal n (omega (arith, fits.0))) (first_word-numerals ns) (ap (drop 1) e) in
    let same = decimal_injective m n (omega (arith, fit.0)) (omega (arith, fits.0)) head in
    let rest = numerals_injective ms ns fit.1 fits.1 tail in
    cc

-- the word of a request is a single word in UTF-8, and equal to itself
record IsWorded (request : Request) : Type 0 where
  one_word : IsWord (form_of request).word
  text : IsUtf8 (form_of request).word
  itself : bytes_eq (form_of request).word (form_of request).word ≡ true

worded : (request : Request) → IsWorded request
unfolding lib.Utf8.encode
worded (Command (commands.Close m)) = record { one_word = refl; text = (codes "close", (refl, refl)); itself = refl }
worded (Batch steps.Open) = record { one_word = refl; text = (codes "open", (refl, refl)); itself = refl }
worded (Query queries.Sheet) = record { one_word = refl; text = (codes "sheet", (refl, refl)); itself = refl }
worded request = record { one_word = refl; text = ((form_of request).word, (refl, refl)); itself = refl }

-- the row with these numbers
abbrev row_from : List ℕ → Row
row_from ns = record { municipality = get_or ns 0 0; list = get_or ns 1 0; number = get_or ns 2 0; votes = get_or ns 3 0 }

-- what requests with the same word have in common: both have numbers or neither has, and they are equal if the numbers are
record IsLike (a b : Request) : Type 0 where
  alone : (form_of a).numbers ≡ [] → (form_of b).numbers ≡ []
  one : (form_of a).numbers ≡ (form_of b).numbers → a ≡ b

-- the words of two requests are compared byte by byte
alike : (a b : Request) → bytes_eq (form_of a).word (form_of b).word ≡ true → IsLike a b
alike (Command (commands.Close m)) = elim [
  | Command (commands.Close n) ↦ λ same. record { alone = λ e. cc; one = λ e. cc }
  | Batch steps.Open ↦ λ same. absurd (cc)
  | Query queries.Sheet ↦ λ same. absurd (cc)
  | _ ↦ λ same. absurd (cc)
]
alike (Batch steps.Open) = elim [
  | Command (commands.Close n) ↦ λ same. absurd (cc)
  | Batch steps.Open ↦ λ same. record { alone = λ e. e; one = λ e. refl }
  | Query queries.Sheet ↦ λ same. absurd (cc)
  | _ ↦ λ same. absurd (cc)
]
alike (Query queries.Sheet) = elim [
  | Command (commands.Close n) ↦ λ same. absurd (cc)
  | Batch steps.Open ↦ λ same. absurd (cc)
  | Query queries.Sheet ↦ λ same. record { alone = λ e. e; one = λ e. refl }
  | _ ↦ λ same. absurd (cc)
]
alike a = elim [
  | Command (commands.Close n) ↦ λ same. absurd (cc)
  | Batch steps.Open ↦ λ same. absurd (cc)
  | Query queries.Sheet ↦ λ same. absurd (cc)
  | _ ↦ λ same. record { alone = λ e. cc; one = λ e. let rows = ap row_from e in cc }
]

IsLike-words : (a b : Request) → (form_of a).word ≡ (form_of b).word → IsLike a b
IsLike-words a b e = alike a b (ap (bytes_eq (form_of a).word) (sym e) ∙ (worded a).itself)

-- the two parts of a request's text that is split at its first space
pub split_request : (text first left : List ℕ) (request : Request) → first ≡ first_word text → text ≡ first ++ left → text ≡ request_text request → (first ≡ (form_of request).word) × (left ≡ numerals (form_of request).numbers)
split_request text first left request is whole e =
    split_is text first left (form_of request).word (numerals (form_of request).numbers) is whole (worded request).one_word (first_word-numerals (form_of request).numbers) e

-- a text is not a request if its first word is not the word of a request
pub NoRequest-word : (text first left : List ℕ) → first ≡ first_word text → text ≡ first ++ left → ((request : Request) → first ≢ (form_of request).word) → (request : Request) → IsRequest request → text ≢ request_text request
NoRequest-word text first left is whole other request fits e = other request (split_request text first left request is whole e).0

-- bytes that are not UTF-8 are not the word of a request
pub other_word-bytes : (word : List ℕ) → ¬ IsUtf8 word → (request : Request) → word ≢ (form_of request).word
other_word-bytes word none request e = none (subst IsUtf8 (sym e) (worded request).text)

-- the text of a request consists of its word and its numerals
request_text-from_parts : (text first left : List ℕ) (request : Request) → text ≡ first ++ left → first ≡ (form_of request).word → left ≡ numerals (form_of request).numbers → text ≡ request_text request
request_text-from_parts text first left request whole word rest =
    whole ∙ ap (λ l. l ++ left) word ∙ ap (λ l. (form_of request).word ++ l) rest

-- the request that a text is, or none
abbrev pub Reads : List ℕ → Option Request → Type 0
Reads text result = MatchOption result ((request : Request) → IsRequest request → text ≢ request_text request) (λ request. IsRequest request × (text ≡ request_text request))

-- what a text means if its first word is a request without numbers
pub Reads-lone : (text first left : List ℕ) (lone : Request) (result : Option Request) → first ≡ first_word text → text ≡ first ++ left → IsRequest lone → (form_of lone).numbers ≡ [] → first ≡ (form_of lone).word → MatchOption result (left ≢ []) (λ found. (found ≡ lone) × (left ≡ [])) → Reads text result
Reads-lone text first left lone None is whole fits alone one more = λ request _ e.
    let (same, rest) = split_request text first left request is whole e in
    more (rest ∙ ap numerals ((IsLike-words lone request (sym one ∙ same)).alone alone))
Reads-lone text first left lone (Some found) is whole fits alone one (same, nothing) =
    rw same (fits, request_text-from_parts text first left lone whole one (nothing ∙ sym (ap numerals alone)))

-- what a text means if its first word is not a request without numbers
pub Reads-numbers : (text first left : List ℕ) (result : Option Request) → first ≡ first_word text → text ≡ first ++ left → ((lone : Request) → (form_of lone).numbers ≡ [] → first ≢ (form_of lone).word) → MatchOption result ((request : Request) → IsRequest request → (form_of request).numbers ≢ [] → first ≡ (form_of request).word → left ≢ numerals (form_of request).numbers) (λ request. IsRequest request × (first ≡ (form_of request).word) × (left ≡ numerals (form_of request).numbers)) → Reads text result
Reads-numbers text first left None is whole alone none = λ request fits e.
    let (same, rest) = split_request text first left request is whole e in
    none request fits (λ no. alone request no same) same rest
Reads-numbers text first left (Some request) is whole alone found =
    (found.0, request_text-from_parts text first left request whole found.1 found.2)

-- requests with the same text are equal
pub request_injective : (a b : Request) → IsRequest a → IsRequest b → request_text a ≡ request_text b → a ≡ b
request_injective a b is are e =
    let first = first_word-append (form_of a).word (numerals (form_of a).numbers) (worded a).one_word (first_word-numerals (form_of a).numbers) in
    let (word, rest) = split_request (request_text a) (form_of a).word (numerals (form_of a).numbers) b (sym first) refl e in
    (IsLike-words a b word).one (numerals_injective (form_of a).numbers (form_of b).numbers is.0 are.0 rest)
