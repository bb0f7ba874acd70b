-- The bytes of a command: how many there are, and that they are of one command.
use Rattle.std.proofs.Common.{◌≡◌, ◌<◌, ◌≤◌, ◌+◌, ◌^◌, ◌∙◌, ℕ, List, [], ◌∷◌, ◌++◌, length, take, drop, get_or, sym, ap, arith, lit≤}
use Rattle.std.specs.Prelude.{All}
use Rattle.std.specs.Int.{w16, w32, to_be_bytes, from_be_bytes}
use Rattle.std.specs.List.{flat_map}
use Rattle.std.proofs.lemmas.List.{append-nil}
use Rattle.std.proofs.lemmas.List.Elements.{All-weaker}
use Rattle.std.proofs.lemmas.Nat.{from_be_bytes-to_be_bytes_2, from_be_bytes-to_be_bytes_4}
use Rattle.zh_returns.specs.declared.command.Command.{Command}
use Rattle.zh_returns.specs.declared.command.Command.TheVariants as commands
use Rattle.zh_returns.specs.declared.command.Format.{Format}
use Rattle.zh_returns.specs.declared.command.Format.TheVariants.{One, Two}
use Rattle.zh_returns.specs.declared.row.Row.{Row}
use Rattle.zh_returns.specs.RowBytes.{row_from, rows_from}
use Rattle.zh_returns.specs.Rows.{row_spelling, FitsRow, IsSpeakableRow, IsBatch}
use Rattle.zh_returns.specs.Spelling.{command_spelling, head, last_desk, FitsCommand, IsSpeakable, IsWithdrawal}
use Rattle.zh_returns.proofs.RowBytesLemmas.{batch_spelling, row_back, rows_back, length-batch}

pub row_once : (a b : Row) → IsSpeakableRow a → IsSpeakableRow b → row_spelling a ≡ row_spelling b → a ≡ b
row_once a b speakable_a speakable_b same =
    sym (row_back a [] speakable_a) ∙ ap row_from (ap (λ (bytes : List ℕ). bytes ++ []) same) ∙ row_back b [] speakable_b

-- two bytes determine their number
pub short_once : (m n : ℕ) → m < 2 ^ 16 → n < 2 ^ 16 → to_be_bytes w16 m ≡ to_be_bytes w16 n → m ≡ n
short_once m n small_m small_n same = sym (from_be_bytes-to_be_bytes_2 m small_m) ∙ ap (from_be_bytes w16) same ∙ from_be_bytes-to_be_bytes_2 n small_n

number_once : (m n : ℕ) → m < 2 ^ 32 → n < 2 ^ 32 → to_be_bytes w32 m ≡ to_be_bytes w32 n → m ≡ n
number_once m n small_m small_n same = sym (from_be_bytes-to_be_bytes_4 m small_m) ∙ ap (from_be_bytes w32) same ∙ from_be_bytes-to_be_bytes_4 n small_n

-- bytes determine the rows that they spell
pub rows_once : (rows : List Row) (bytes : List ℕ) → All IsSpeakableRow rows → flat_map row_spelling rows ≡ bytes → rows_from (length rows) bytes ≡ rows
rows_once rows bytes speakable is =
    ap (rows_from (length rows)) (sym is ∙ sym (append-nil (flat_map row_spelling rows))) ∙ rows_back rows [] speakable

pub batch_once : (a b : List Row) → IsBatch a → IsBatch b → batch_spelling a ≡ batch_spelling b → a ≡ b
batch_once a b batch_a batch_b same =
    let small_a : length a < 2 ^ 16 = omega (arith, batch_a.are_rows.most) in
    let small_b : length b < 2 ^ 16 = omega (arith, batch_b.are_rows.most) in
    let count : length a ≡ length b = short_once (length a) (length b) small_a small_b (ap (take 2) same) in
    sym (rows_once a (flat_map row_spelling a) batch_a.are_rows.speakable (λ _. flat_map row_spelling a))
    ∙ ap (λ (n : ℕ). rows_from n (flat_map row_spelling a)) count
    ∙ rows_once b (flat_map row_spelling a) batch_b.are_rows.speakable (sym (ap (drop 2) same))

-- a kind and a desk that the format can name are read back from the front
head_once : (format : Format) (one two desk other : ℕ) (fields others : List ℕ) → desk ≤ last_desk format → other ≤ last_desk format →
    head format one two desk ++ fields ≡ head format one two other ++ others → (desk ≡ other) × (fields ≡ others)
head_once One one two desk other fields others said said_other same = (omega arith, ap (drop 1) same)
head_once Two one two desk other fields others said said_other same = (ap (λ (bytes : List ℕ). get_or bytes 1 0) same, ap (drop 2) same)

-- the bytes of a withdrawal after its head
abbrev pub withdrawal_spelling : ℕ → ℕ → ℕ → List ℕ
withdrawal_spelling municipality list number = to_be_bytes w16 municipality ++ (list ∷ to_be_bytes w32 number)

withdrawal_once : (desk m l n m' l' n' : ℕ) → IsWithdrawal m l n → IsWithdrawal m' l' n' → withdrawal_spelling m l n ≡ withdrawal_spelling m' l' n' →
    commands.Withdraw desk m l n ≡ commands.Withdraw desk m' l' n'
withdrawal_once desk m l n m' l' n' is is' same =
    ap (λ (x : ℕ). commands.Withdraw desk x l n) (short_once m m' is.0 is'.0 (ap (take 2) same))
    ∙ ap (λ (x : ℕ). commands.Withdraw desk m' x n) (ap (λ (bytes : List ℕ). get_or bytes 2 0) same)
    ∙ ap (λ (x : ℕ). commands.Withdraw desk m' l' x) (number_once n n' is.3 is'.3 (ap (drop 3) same))

pub command_once : (format : Format) (a b : Command) → IsSpeakable format a → IsSpeakable format b → command_spelling format a ≡ command_spelling format b → a ≡ b
command_once format (commands.Return d a) (commands.Return e b) is_a is_b same =
    let parts = head_once format 1 6 d e (row_spelling a) (row_spelling b) is_a.0 is_b.0 same in
    ap (λ (desk : ℕ). commands.Return desk a) parts.0 ∙ ap (commands.Return e) (row_once a b is_a.1 is_b.1 parts.1)
command_once format (commands.Withdraw d m l n) (commands.Withdraw e m' l' n') is_a is_b same =
    let parts = head_once format 2 7 d e (withdrawal_spelling m l n) (withdrawal_spelling m' l' n') is_a.0 is_b.0 same in
    ap (λ (desk : ℕ). commands.Withdraw desk m l n) parts.0 ∙ withdrawal_once e m l n m' l' n' is_a.1 is_b.1 parts.1
command_once format (commands.Close m) (commands.Close m') is_a is_b same = ap commands.Close (short_once m m' is_a is_b (ap (drop 1) same))
command_once format (commands.Reopen m) (commands.Reopen m') is_a is_b same = ap commands.Reopen (short_once m m' is_a is_b (ap (drop 1) same))
command_once format (commands.Batch d a) (commands.Batch e b) is_a is_b same =
    let parts = head_once format 5 8 d e (batch_spelling a) (batch_spelling b) is_a.0 is_b.0 same in
    ap (λ (desk : ℕ). commands.Batch desk a) parts.0 ∙ ap (commands.Batch e) (batch_once a b is_a.1 is_b.1 parts.1)
command_once One a b is_a is_b same = absurd (omega (arith, ap (λ (bytes : List ℕ). get_or bytes 0 0) same))
command_once Two a b is_a is_b same = absurd (omega (arith, ap (λ (bytes : List ℕ). get_or bytes 0 0) same))

length-head : (format : Format) (one two desk : ℕ) (fields : List ℕ) → length (head format one two desk ++ fields) ≤ 2 + length fields
length-head One one two desk fields = omega arith
length-head Two one two desk fields = omega arith

-- no command takes more bytes than a batch of 1,000 rows
pub short : (format : Format) (command : Command) → IsSpeakable format command → length (command_spelling format command) ≤ 11004
short format (commands.Return desk row) is = omega (arith, length-head format 1 6 desk (row_spelling row))
short format (commands.Withdraw desk municipality list number) is = omega (arith, length-head format 2 7 desk (withdrawal_spelling municipality list number))
short format (commands.Close municipality) is = lit≤ tt
short format (commands.Reopen municipality) is = lit≤ tt
short format (commands.Batch desk rows) is = omega (arith, length-head format 5 8 desk (batch_spelling rows), length-batch rows, is.1.are_rows.most)

desk_fits : (format : Format) (desk : ℕ) → desk ≤ last_desk format → desk ≤ 8
desk_fits One desk said = omega arith
desk_fits Two desk said = said

-- a command that is read from bytes fits into format Two
pub speakable_fit : (format : Format) (command : Command) → IsSpeakable format command → FitsCommand command
speakable_fit format (commands.Return desk row) is = (desk_fits format desk is.0, (is.1.municipality, is.1.list))
speakable_fit format (commands.Withdraw desk municipality list number) is = (desk_fits format desk is.0, is.1.0, is.1.1)
speakable_fit format (commands.Close municipality) is = is
speakable_fit format (commands.Reopen municipality) is = is
speakable_fit format (commands.Batch desk rows) is = (desk_fits format desk is.0, All-weaker IsSpeakableRow FitsRow (λ row s. (s.municipality, s.list)) rows is.1.are_rows.speakable)
