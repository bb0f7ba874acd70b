-- How many values are read from a text.
use Rattle.std.proofs.Common.{◌≡◌, ℕ, ◌*◌, Bool, true, false, cond, List, [], ◌∷◌, ◌++◌, length, map, filter, flat_map, refl, ap, ◌∙◌, arith, length-append}
use Rattle.std.proofs.lemmas.List.{length-map}
use Rattle.std.proofs.lemmas.List.FromFn.{length-map-range_with_len}
use Rattle.zh_districts.specs.Canton.{Canton, stands}
use Rattle.zh_sheet_text.specs.Layout.{SheetLine, sheet_lines}
use Rattle.zh_sheet_text.specs.declared.line.SheetPart.{SheetPart}
use Rattle.zh_sheet_text.specs.declared.line.SheetPart.TheVariants.{ConstituencyDivisor, GroupDivisor, ListVotes, ListSeats}
use Rattle.zh_check.specs.Lines.{after_if, after_word, leading_word, line_if, number_of_word}
use Rattle.zh_check.specs.Reading.{group_divisors_read, is_like, row_divisors_read, seats_of_word, seats_read, standing, votes_read, words_at, words_in}
use Rattle.zh_check.proofs.SectionLemmas.{group_numbers, kinds, only_groups, only_lists, only_rows, row_numbers}
use Rattle.zh_check.proofs.TableLemmas.{length-square, table}

pub length-standing : (canton : Canton) → length (standing canton) ≡ length canton.constituencies * length canton.groups
length-standing canton = length-square (stands canton) (length canton.groups) (length canton.constituencies)

-- the parts of a line that pass a test, each of which gives a word
abbrev parts_at : (SheetPart → Bool) → SheetLine → List SheetPart
parts_at test line = filter test line.parts

one_more : (b : Bool) (word : List ℕ) (part : SheetPart) (words : List (List ℕ)) (parts : List SheetPart) → length words ≡ length parts →
    length (cond b (word ∷ []) [] ++ words) ≡ length (cond b (part ∷ parts) parts)
one_more true word part words parts same = omega (arith, same)
one_more false word part words parts same = same

length-line : (test : SheetPart → Bool) (parts : List SheetPart) (line : List ℕ) → length (words_in test parts line) ≡ length (filter test parts)
length-line test [] line = refl
length-line test (part ∷ parts) line =
    one_more (test part) (leading_word line) part (words_in test parts (after_word line)) (filter test parts) (length-line test parts (after_word line))

length-words : (test : SheetPart → Bool) (lines : List SheetLine) (text : List ℕ) → length (words_at test lines text) ≡ length (flat_map (parts_at test) lines)
length-words test [] text = refl
length-words test (line ∷ lines) text =
    omega (
      arith,
      length-append (words_in test line.parts (line_if line.is_there text)) (words_at test lines (after_if line.is_there text)),
      length-append (filter test line.parts) (flat_map (parts_at test) lines),
      length-line test line.parts (line_if line.is_there text),
      length-words test lines (after_if line.is_there text),
    )

-- the number of values, given the parts that pass the test
length-read : (test : SheetPart → Bool) (number : List ℕ → ℕ) (canton : Canton) (text : List ℕ) (parts : List SheetPart) →
    flat_map (parts_at test) (sheet_lines canton) ≡ parts → length (map number (words_at test (sheet_lines canton) text)) ≡ length parts
length-read test number canton text parts are =
    length-map (words_at test (sheet_lines canton) text) number ∙ (length-words test (sheet_lines canton) text ∙ ap length are)

pub length-rows : (canton : Canton) (text : List ℕ) → length (row_divisors_read canton text) ≡ length canton.constituencies
length-rows canton text =
    let test : SheetPart → Bool = is_like (ConstituencyDivisor 0) in
    length-read test number_of_word canton text (map ConstituencyDivisor (row_numbers canton))
    (kinds (parts_at test) canton refl refl refl refl (λ n. refl) refl ∙ only_rows canton ConstituencyDivisor)
    ∙ length-map-range_with_len ConstituencyDivisor 1 (length canton.constituencies)

pub length-groups : (canton : Canton) (text : List ℕ) → length (group_divisors_read canton text) ≡ length canton.groups
length-groups canton text =
    let test : SheetPart → Bool = is_like (GroupDivisor 0) in
    length-read test number_of_word canton text (map GroupDivisor (group_numbers canton))
    (kinds (parts_at test) canton refl refl refl refl (λ n. refl) refl ∙ only_groups canton GroupDivisor)
    ∙ length-map-range_with_len GroupDivisor 1 (length canton.groups)

length-lists : (test : SheetPart → Bool) (number : List ℕ → ℕ) (canton : Canton) (text : List ℕ) (list : ℕ → ℕ → SheetPart) →
    flat_map (parts_at test) (sheet_lines canton) ≡ table list (group_numbers canton) (length canton.constituencies) →
    length (map number (words_at test (sheet_lines canton) text)) ≡ length canton.constituencies * length canton.groups
length-lists test number canton text list are =
    length-read test number canton text (table list (group_numbers canton) (length canton.constituencies)) are
    ∙ length-square list (length canton.groups) (length canton.constituencies)

pub length-votes : (canton : Canton) (text : List ℕ) → length (votes_read canton text) ≡ length canton.constituencies * length canton.groups
length-votes canton text =
    let test : SheetPart → Bool = is_like (ListVotes 0 0) in
    length-lists test number_of_word canton text ListVotes (kinds (parts_at test) canton refl refl refl refl (λ n. refl) refl ∙ only_lists canton ListVotes)

pub length-seats : (canton : Canton) (text : List ℕ) → length (seats_read canton text) ≡ length canton.constituencies * length canton.groups
length-seats canton text =
    let test : SheetPart → Bool = is_like (ListSeats 0 0) in
    length-lists test seats_of_word canton text ListSeats (kinds (parts_at test) canton refl refl refl refl (λ n. refl) refl ∙ only_lists canton ListSeats)
