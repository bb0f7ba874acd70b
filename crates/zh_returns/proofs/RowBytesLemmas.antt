-- The rows of a batch and their bytes.
use Rattle.std.proofs.Common.{◌≡◌, ◌<◌, ◌≤◌, ◌+◌, ◌-◌, ◌*◌, ◌/◌, ◌∙◌, ℕ, zero, suc, List, [], ◌∷◌, ◌++◌, length, get_or, take, drop, sym, ap, refl, arith, append_assoc}
use Rattle.std.specs.Prelude.{All}
use Rattle.std.specs.Int.{w16, w32, to_be_bytes, from_be_bytes}
use Rattle.std.specs.List.{flat_map}
use Rattle.std.proofs.lemmas.List.{append-nil, get_or-drop, length-drop, drop-drop}
use Rattle.std.proofs.lemmas.List.Elements.{All-head, All-tail}
use Rattle.std.proofs.lemmas.Nat.{from_be_bytes-to_be_bytes_2, from_be_bytes-to_be_bytes_4, be_bytes_2, be_bytes_4}
use Rattle.std.proofs.Math.Seq.{take-add}
use Rattle.zh_returns.specs.declared.row.Row.{Row}
use Rattle.zh_returns.specs.Rows.{row_spelling, IsSpeakableRow}
use Rattle.zh_returns.specs.RowBytes.{row_from, rows_from, rows_in}
use Rattle.zh_returns.proofs.BlockLemmas.{HasWidth, length-blocks}
use Rattle.zh_returns.proofs.NumeralLemmas.{first_fit}

-- a row takes eleven bytes
pub rows_wide : HasWidth row_spelling 11
rows_wide = record { at = λ row. refl }

-- the bytes of a batch after its head
abbrev pub batch_spelling : List Row → List ℕ
batch_spelling rows = to_be_bytes w16 (length rows) ++ flat_map row_spelling rows

-- a batch takes two bytes and those of its rows
pub length-batch : (rows : List Row) → length (batch_spelling rows) ≡ 2 + 11 * length rows
length-batch rows = let e = length-blocks row_spelling 11 rows_wide rows in omega arith

abbrev row_with : ℕ → ℕ → ℕ → ℕ → Row
row_with municipality list number votes = record { municipality = municipality; list = list; number = number; votes = votes }

-- a row is read back from its bytes, whatever follows them
pub row_back : (row : Row) (rest : List ℕ) → IsSpeakableRow row → row_from (row_spelling row ++ rest) ≡ row
row_back row rest fits =
    let number : ℕ = from_be_bytes w32 (to_be_bytes w32 row.number) in
    let votes : ℕ = from_be_bytes w32 (to_be_bytes w32 row.votes) in
    ap (λ (m : ℕ). row_with m row.list number votes) (from_be_bytes-to_be_bytes_2 row.municipality fits.municipality)
    ∙ ap (λ (n : ℕ). row_with row.municipality row.list n votes) (from_be_bytes-to_be_bytes_4 row.number fits.number.1)
    ∙ ap (λ (v : ℕ). row_with row.municipality row.list row.number v) (from_be_bytes-to_be_bytes_4 row.votes fits.votes)

-- rows are read back from their bytes
pub rows_back : (rows : List Row) (rest : List ℕ) → All IsSpeakableRow rows → rows_from (length rows) (flat_map row_spelling rows ++ rest) ≡ rows
unfolding rows_from
rows_back [] rest all = refl
rows_back (row ∷ rows) rest all =
    let more = flat_map row_spelling rows ++ rest in
    ap (λ (bytes : List ℕ). rows_from (suc (length rows)) bytes) (append_assoc (row_spelling row) (flat_map row_spelling rows) rest)
    ∙ ap (λ (first : Row). first ∷ rows_from (length rows) more) (row_back row more (All-head IsSpeakableRow row rows all))
    ∙ ap (λ (others : List Row). row ∷ others) (rows_back rows rest (All-tail IsSpeakableRow row rows all))

pub length-rows_from : (n : ℕ) (bytes : List ℕ) → length (rows_from n bytes) ≡ n
unfolding rows_from
length-rows_from zero bytes = refl
length-rows_from (suc n) bytes = let e = length-rows_from n (drop 11 bytes) in omega arith

-- eleven bytes are those of the row that they spell
row_spelled : (bytes : List ℕ) → ((i : ℕ) → get_or bytes i 0 < 256) → 11 ≤ length bytes → row_spelling (row_from bytes) ≡ take 11 bytes
row_spelled (a ∷ b ∷ c ∷ d ∷ e ∷ f ∷ g ∷ h ∷ i ∷ j ∷ k ∷ rest) fit room =
    let two = a ∷ b ∷ [] in
    let number = d ∷ e ∷ f ∷ g ∷ [] in
    let votes = h ∷ i ∷ j ∷ k ∷ [] in
    let first : (n : ℕ) → get_or two n 0 < 256 = first_fit 2 (a ∷ b ∷ c ∷ d ∷ e ∷ f ∷ g ∷ h ∷ i ∷ j ∷ k ∷ rest) fit in
    let third : (n : ℕ) → get_or number n 0 < 256 = first_fit 4 (d ∷ e ∷ f ∷ g ∷ h ∷ i ∷ j ∷ k ∷ rest) (λ n. fit (suc (suc (suc n)))) in
    let last : (n : ℕ) → get_or votes n 0 < 256 = first_fit 4 (h ∷ i ∷ j ∷ k ∷ rest) (λ n. fit (suc (suc (suc (suc (suc (suc (suc n)))))))) in
    ap (λ (m : List ℕ). m ++ (c ∷ (to_be_bytes w32 (from_be_bytes w32 number) ++ to_be_bytes w32 (from_be_bytes w32 votes)))) (be_bytes_2 two (from_be_bytes w16 two) refl first refl)
    ∙ ap (λ (n : List ℕ). two ++ (c ∷ (n ++ to_be_bytes w32 (from_be_bytes w32 votes)))) (be_bytes_4 number (from_be_bytes w32 number) refl third refl)
    ∙ ap (λ (v : List ℕ). two ++ (c ∷ (number ++ v))) (be_bytes_4 votes (from_be_bytes w32 votes) refl last refl)
row_spelled _ fit room = absurd (omega arith)

-- the rows that bytes spell have these bytes
pub rows_spelled : (n : ℕ) (bytes : List ℕ) → ((i : ℕ) → get_or bytes i 0 < 256) → 11 * n ≤ length bytes → flat_map row_spelling (rows_from n bytes) ≡ take (11 * n) bytes
unfolding rows_from
rows_spelled zero bytes fit room = refl
rows_spelled (suc n) bytes fit room =
    let next : 11 + 11 * n ≡ 11 * suc n = omega arith in
    ap (λ (front : List ℕ). front ++ flat_map row_spelling (rows_from n (drop 11 bytes))) (row_spelled bytes fit (omega arith))
    ∙ ap (λ (back : List ℕ). take 11 bytes ++ back) (rows_spelled n (drop 11 bytes) (λ i. omega (arith, get_or-drop 11 bytes i 0, fit (11 + i))) (omega (arith, length-drop 11 bytes)))
    ∙ sym (take-add 11 (11 * n) bytes)
    ∙ ap (λ (m : ℕ). take m bytes) next

-- only the first eleven bytes matter
row_first : (bytes : List ℕ) → row_from bytes ≡ row_from (take 11 bytes)
row_first (a ∷ b ∷ c ∷ d ∷ e ∷ f ∷ g ∷ h ∷ i ∷ j ∷ k ∷ rest) = refl
row_first _ = refl

-- the row at a place is spelled by the eleven bytes there
pub row_at : (n : ℕ) (bytes : List ℕ) (i : ℕ) (d : Row) → i < n → get_or (rows_from n bytes) i d ≡ row_from (take 11 (drop (11 * i) bytes))
unfolding rows_from
row_at zero bytes i d within = absurd (omega arith)
row_at (suc n) bytes zero d within =
    let start : 0 ≡ 11 * 0 = omega arith in
    row_first bytes ∙ ap (λ (m : ℕ). row_from (take 11 (drop m bytes))) start
row_at (suc n) bytes (suc i) d within =
    let next : 11 + 11 * i ≡ 11 * suc i = omega arith in
    row_at n (drop 11 bytes) i d (omega arith)
    ∙ ap (λ (rest : List ℕ). row_from (take 11 rest)) (drop-drop (11 * i) 11 bytes ∙ ap (λ (m : ℕ). drop m bytes) next)

-- the same for a row that was read there
pub row_read_at : (bytes : List ℕ) (i : ℕ) (row d : Row) → i < length bytes / 11 → row ≡ row_from (take (11 * i + 11 - 11 * i) (drop (11 * i) bytes)) → get_or (rows_in bytes) i d ≡ row
row_read_at bytes i row d within is =
    let width : 11 * i + 11 - 11 * i ≡ 11 = omega arith in
    row_at (length bytes / 11) bytes i d within ∙ ap (λ (n : ℕ). row_from (take n (drop (11 * i) bytes))) (sym width) ∙ sym is

-- rows that have these bytes are the rows of these bytes
pub record AreRowsOf (rows : List Row) (bytes : List ℕ) : Type 0 where
  pub whole : length bytes ≡ 11 * length rows
  pub same : rows_in bytes ≡ rows

pub rows_are : (rows : List Row) (bytes : List ℕ) → All IsSpeakableRow rows → flat_map row_spelling rows ≡ bytes → AreRowsOf rows bytes
rows_are rows bytes speakable is =
    let whole : length bytes ≡ 11 * length rows = ap (λ (b : List ℕ). length b) (sym is) ∙ length-blocks row_spelling 11 rows_wide rows in
    let count : length bytes / 11 ≡ length rows = omega arith in
    record {
      whole = whole;
      same = ap (λ (n : ℕ). rows_from n bytes) count ∙ ap (rows_from (length rows)) (sym is ∙ sym (append-nil (flat_map row_spelling rows))) ∙ rows_back rows [] speakable;
    }
