-- A line has only one spelling, of at most 120 bytes, and a text can be read in only one way.
use Rattle.std.proofs.Common.{◌≡◌, ℕ, ◌≤◌, ◌+◌, ◌*◌, List, [], ◌∷◌, ◌++◌, length, drop, decimal, sym, ap, ◌∙◌, refl, arith, length-append, subst, rules, tests, Result, Ok, Err}
use Rattle.std.specs.Coded.{le_prop}
use Rattle.std.proofs.lemmas.Fmt.{decimal_injective, decimal_digit, length-decimal-le}
use Rattle.zh_commands.specs.declared.lines.Request.{Request}
use Rattle.zh_commands.specs.declared.lines.Request.TheVariants.{Command, Batch, Query}
use Rattle.zh_commands.specs.declared.lines.DeskCommand.TheVariants as commands
use Rattle.zh_commands.specs.declared.lines.BatchStep.TheVariants as steps
use Rattle.zh_commands.specs.declared.lines.DeskQuery.TheVariants as queries
use Rattle.zh_commands.specs.declared.lines.Line.{Line}
use Rattle.zh_commands.specs.declared.lines.LineFault.{LineFault}
use Rattle.zh_commands.specs.declared.lines.LineFault.TheVariants as faults
use Rattle.zh_commands.specs.Words.{first_word, numerals, AreNumerals}
use Rattle.zh_commands.specs.Forms.{form_of}
use Rattle.zh_commands.specs.Lines.{spelling, IsRequest, NamesNoDesk, ParsesAs, desk_of}
use Rattle.zh_returns.specs.Numbers.{IsDesk}
use Rattle.zh_returns.specs.declared.batch.Desk.{Desk}
use Rattle.zh_commands.proofs.SplitLemmas.{IsWord-decimal, first_word-append, split_is}
use Rattle.zh_commands.proofs.RequestLemmas.{request_injective, request_text}

-- the two parts of a line's spelling that is split at its first space
pub split_spelling : (bytes first left : List ℕ) (line : Line) → first ≡ first_word bytes → bytes ≡ first ++ left → bytes ≡ spelling line → (first ≡ decimal line.desk.number) × (left ≡ 32 ∷ request_text line.request)
split_spelling bytes first left line is whole e =
    split_is bytes first left (decimal line.desk.number) (32 ∷ request_text line.request) is whole (IsWord-decimal line.desk.number (omega (arith, line.desk.there))) refl e

-- a text whose first word is the number of a desk
pub NamesDesk : (bytes first : List ℕ) (desk : Desk) → first ≡ first_word bytes → first ≡ decimal desk.number → ¬ NamesNoDesk bytes
NamesDesk bytes first desk is word (_, (n, small, other, e)) =
    let same = decimal_injective n desk.number (omega (arith, small)) (omega (arith, desk.there)) (sym e ∙ sym is ∙ word) in
    other (omega (arith, same, desk.from_one), omega (arith, same, desk.there))

-- a numeral has at most ten digits
numerals-short : (ns : List ℕ) → AreNumerals ns → length (numerals ns) ≤ 11 * length ns
numerals-short [] all = omega arith
numerals-short (n ∷ ns) all =
    let digits = length-decimal-le 10 n (omega arith) (omega (arith, all.0)) (omega (arith, all.0)) in
    omega (arith, digits, numerals-short ns all.1, length-append (decimal n) (numerals ns))

length-form_of : (request : Request) → (length (form_of request).word ≤ 10) × (length (form_of request).numbers ≤ 4)
length-form_of (Command (commands.Close m)) = (omega arith, omega arith)
length-form_of (Batch steps.Open) = (omega arith, omega arith)
length-form_of (Query queries.Sheet) = (omega arith, omega arith)
length-form_of request = (omega arith, omega arith)

length-request_text : (request : Request) → IsRequest request → length (request_text request) ≤ 54
length-request_text request is =
    let short = numerals-short (form_of request).numbers is.0 in
    let (word, numbers) = length-form_of request in
    omega (arith, short, word, numbers, length-append (form_of request).word (numerals (form_of request).numbers))

-- a line's spelling is short enough to be read
pub length-spelling : (line : Line) → IsRequest line.request → length (spelling line) ≤ 120
length-spelling line is =
    let digits = length-decimal-le 10 line.desk.number (omega arith) (omega (arith, line.desk.there)) (omega (arith, line.desk.there)) in
    omega (arith, digits, length-request_text line.request is, length-append (decimal line.desk.number) (32 ∷ request_text line.request))

-- desks with the same number are equal
numbered : (n m : ℕ) (from_one : 1 ≤ n) (there : n ≤ 8) (from_one' : 1 ≤ m) (there' : m ≤ 8) → n ≡ m
    → (let a : Desk = record { number = n; from_one = from_one; there = there } in a) ≡ (record { number = m; from_one = from_one'; there = there' })
numbered n m from_one there from_one' there' same = subst
    (λ (k : ℕ). (p : 1 ≤ k) (q : k ≤ 8) → (let a : Desk = record { number = n; from_one = from_one; there = there } in a) ≡ (record { number = k; from_one = p; there = q }))
    same
    (λ p q. ap (λ (r : 1 ≤ n). let d : Desk = record { number = n; from_one = r; there = there } in d) (le_prop from_one p)
    ∙ ap (λ (r : n ≤ 8). let d : Desk = record { number = n; from_one = p; there = r } in d) (le_prop there q))
    from_one' there'

desk_same : (a b : Desk) → a.number ≡ b.number → a ≡ b
desk_same a b same = numbered a.number b.number a.from_one a.there b.from_one b.there same

line_same : (a b : Line) → a.desk ≡ b.desk → a.request ≡ b.request → a ≡ b
line_same a b desk request =
    ap (λ (d : Desk). let line : Line = record { desk = d; request = a.request } in line) desk ∙ ap (λ (k : Request). let line : Line = record { desk = b.desk; request = k } in line) request

-- lines with the same spelling are equal
pub spelling_injective : (a b : Line) → IsRequest a.request → IsRequest b.request → spelling a ≡ spelling b → a ≡ b
spelling_injective a b is are e =
    let own = decimal a.desk.number in
    let first = first_word-append own (32 ∷ request_text a.request) (IsWord-decimal a.desk.number (omega (arith, a.desk.there))) refl in
    let (word, rest) = split_spelling (spelling a) own (32 ∷ request_text a.request) b (sym first) refl e in
    let number = decimal_injective a.desk.number b.desk.number (omega (arith, a.desk.there)) (omega (arith, b.desk.there)) word in
    line_same a b (desk_same a.desk b.desk number) (request_injective a.request b.request is are (ap (drop 1) rest))

-- the first word of a line's spelling is the number of a desk
pub NamesDesk-spelling : (line : Line) → ¬ NamesNoDesk (spelling line)
NamesDesk-spelling line =
    let own = decimal line.desk.number in
    let first = first_word-append own (32 ∷ request_text line.request) (IsWord-decimal line.desk.number (omega (arith, line.desk.there))) refl in
    NamesDesk (spelling line) own line.desk (sym first) refl

-- a text has only one reading
pub reading_same : (bytes : List ℕ) (a b : Result Line LineFault) → ParsesAs bytes a → ParsesAs bytes b → a ≡ b
reading_same bytes (Ok a) (Ok b) x y = ap Ok (spelling_injective a b x.0 y.0 (sym x.1 ∙ y.1))
reading_same bytes (Ok a) (Err faults.Desk) x y = absurd (NamesDesk-spelling a (subst NamesNoDesk x.1 y))
reading_same bytes (Ok a) (Err faults.Syntax) x y = absurd (y.1 a x.0 x.1)
reading_same bytes (Err faults.Desk) (Ok b) x y = absurd (NamesDesk-spelling b (subst NamesNoDesk y.1 x))
reading_same bytes (Err faults.Desk) (Err faults.Desk) x y = refl
reading_same bytes (Err faults.Desk) (Err faults.Syntax) x y = absurd (y.0 x)
reading_same bytes (Err faults.Syntax) (Ok b) x y = absurd (x.1 b y.0 y.1)
reading_same bytes (Err faults.Syntax) (Err faults.Desk) x y = absurd (x.0 y)
reading_same bytes (Err faults.Syntax) (Err faults.Syntax) x y = refl

-- the digit of a desk, then a space
desk_of-digit : (desk : ℕ) (rest : List ℕ) → IsDesk desk → desk_of ((48 + desk) ∷ 32 ∷ rest) ≡ desk
desk_of-digit desk rest is = search (tests, rules)

-- a line that is read is answered under its desk
pub desk_of-read : (bytes : List ℕ) (line : Line) → ParsesAs bytes (Ok line) → desk_of bytes ≡ line.desk.number
desk_of-read bytes line x =
    let digit = decimal_digit line.desk.number (omega (arith, line.desk.there)) in
    ap desk_of (x.1 ∙ ap (λ l. l ++ 32 ∷ request_text line.request) digit)
    ∙ desk_of-digit line.desk.number (request_text line.request) (line.desk.from_one, line.desk.there)
