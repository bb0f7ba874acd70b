-- The values that are read from the text of a sheet are those of the sheet.
use Rattle.std.proofs.Common.{◌≡◌, ℕ, ◌+◌, ◌-◌, ◌*◌, ◌^◌, ◌<◌, ◌≤◌, All, Bool, true, false, cond, Option, refl, sym, ap, ◌∙◌, arith, mul_comm, decimal}
use Rattle.std.proofs.Common.{List, [], ◌∷◌, length, get_or, map, flat_map, min}
use Rattle.std.specs.Prelude.{codes}
use Rattle.std.specs.List.{range_with_len}
use Rattle.std.specs.Option.{option_map_or}
use Rattle.std.proofs.lemmas.List.{ext_get_or, get_or-map}
use Rattle.std.proofs.lemmas.List.FromFn.{get_or-map-range_with_len, length-map-range_with_len}
use Rattle.std.proofs.lemmas.Nat.{mul-add-lt}
use Rattle.std.proofs.lemmas.Simd.{map-map}
use Rattle.std.proofs.Math.Nat.{min-eq_left}
use Rattle.zh_districts.specs.Canton.{Canton, stands}
use Rattle.zh_divisors.proofs.CallerLemmas.{same_table}
use Rattle.zh_sheet.specs.Distribution.{Distribution, IsDistribution, seated_groups}
use Rattle.zh_sheet.specs.Given.{IsPublished, given_lists}
use Rattle.zh_sheet.specs.Readings.{column_of, list_seats}
use Rattle.zh_sheet.proofs.CallerLemmas.{seated_are}
use Rattle.zh_sheet_text.specs.Layout.{SheetLine, sheet_lines}
use Rattle.zh_sheet_text.specs.SheetText.{divisor_text, part_text, sheet_text}
use Rattle.zh_sheet_text.specs.declared.line.SheetPart.{SheetPart}
use Rattle.zh_sheet_text.specs.declared.line.Head.{Head}
use Rattle.zh_sheet_text.specs.declared.line.SheetPart.TheVariants.{Desk, Kind, Accepted, ConstituencyDivisor, GroupDivisor, ListVotes, ListSeats}
use Rattle.zh_sheet_text.proofs.CallerLemmas.{all_lines, list_seats_small}
use Rattle.zh_totals.specs.Totals.{place_in, votes_in}
use Rattle.zh_totals.proofs.CallerLemmas.{group_most}
use Rattle.zh_check.specs.Form.{IsFormed}
use Rattle.zh_check.specs.Lines.{leading_word, number_of_word}
use Rattle.zh_check.specs.Reading.{column_divisors, group_divisors_read, head_read, is_like, latest, lists_read, row_divisors_read, seats_in_columns, seats_of_word, seats_read, votes_read, words_at}
use Rattle.zh_check.proofs.ColumnLemmas.{columns_are, divisor_or_0, group_count, group_divisors, same_seated, seats_at}
use Rattle.zh_check.proofs.NumeralLemmas.{decimal_read, number_read}
use Rattle.zh_check.proofs.PartLemmas.{IsShown, all_shown, found_words, lines_formed, lines_read}
use Rattle.zh_check.proofs.SeamLemmas.{no_word, word_alone}
use Rattle.zh_check.proofs.SectionLemmas.{group_numbers, kinds, only_first, only_groups, only_lists, only_rows, row_numbers}
use Rattle.zh_check.proofs.ShownLemmas.{group_small, hidden_seats, row_small}
use Rattle.zh_check.proofs.SizeLemmas.{length-votes}
use Rattle.zh_check.proofs.SpelledLemmas.{last_spelled, spelled}
use Rattle.zh_check.proofs.TableLemmas.{in_square, in_table, length-square, length-table, table}
use Rattle.zh_check.proofs.WordLemmas.{decimal_word, divisor_or_dash, divisor_word, is_final_word, kind_word, read-divisor, read-divisor_or_dash}

-- the number that is read from a word that was written
number_shown : (n : ℕ) → n < 2 ^ 64 → number_of_word (leading_word (decimal n)) ≡ n
number_shown n small = ap number_of_word (word_alone (decimal n) (decimal_word n)) ∙ decimal_read n small

divisor_shown : (m : ℕ) → m < 2 ^ 64 → number_of_word (leading_word (divisor_text m)) ≡ m
divisor_shown m small = ap number_of_word (word_alone (divisor_text m) (divisor_word m)) ∙ number_read (divisor_text m) m (read-divisor m small) small

dash_shown : (divisor : ℕ → ℕ) (found : Option ℕ) → option_map_or divisor found 0 < 2 ^ 64 →
    number_of_word (leading_word (option_map_or (λ k. divisor_text (divisor k)) found (codes "-"))) ≡ option_map_or divisor found 0
dash_shown divisor found small =
    let word : List ℕ = option_map_or (λ k. divisor_text (divisor k)) found (codes "-") in
    ap number_of_word (word_alone word (divisor_or_dash divisor found)) ∙ number_read word (option_map_or divisor found 0) (read-divisor_or_dash divisor found small) small

nothing_shown : number_of_word (leading_word []) ≡ 0
nothing_shown = ap number_of_word no_word ∙ number_read [] 0 refl (omega arith)

kind_is : (is_final : Bool) → is_final_word (cond is_final (codes "final") (codes "provisional")) ≡ is_final
kind_is true = refl
kind_is false = refl

kind_shown : (is_final : Bool) → is_final_word (leading_word (cond is_final (codes "final") (codes "provisional"))) ≡ is_final
kind_shown is_final = ap is_final_word (word_alone (cond is_final (codes "final") (codes "provisional")) (kind_word is_final)) ∙ kind_is is_final

-- the numbers that the words of some lines give, and those of a table of lines
listed : (number : List ℕ → ℕ) (word : ℕ → List ℕ) (xs : List ℕ) → ((k : ℕ) → k < length xs → number (word (k + 1)) ≡ get_or xs k 0) →
    map number (map word (range_with_len 1 (length xs))) ≡ xs
listed number word xs each =
    let value : ℕ → ℕ = λ k. number (word k) in
    let long : length (map value (range_with_len 1 (length xs))) ≡ length xs = length-map-range_with_len value 1 (length xs) in
    map-map number word (range_with_len 1 (length xs))
    ∙ ext_get_or 0 (map value (range_with_len 1 (length xs))) xs long (λ k lt.
    get_or-map-range_with_len value 1 (length xs) k (k + 1) 0 (omega (arith, lt, long)) (omega arith) ∙ each k (omega (arith, lt, long)))

tabled : (number : List ℕ → ℕ) (word : ℕ → ℕ → List ℕ) (columns rows d g : ℕ) → d < rows → g < columns →
    get_or (map number (table word (range_with_len 1 columns) rows)) (d * columns + g) 0 ≡ number (word (d + 1) (g + 1))
tabled number word columns rows d g row column =
    let words : List (List ℕ) = table word (range_with_len 1 columns) rows in
    let within : d * columns + g < length words = omega (arith, length-square word columns rows, mul-add-lt d columns g rows row column, mul_comm columns rows) in
    get_or-map number words (d * columns + g) [] 0 within ∙ ap number (in_square word columns rows d g [] row column)

-- the votes of a list, whether or not it stands, and its seats
votes_shown : (x : Distribution) → IsPublished x → (d g : ℕ) → d < length x.totals.canton.constituencies → g < length x.totals.canton.groups →
    (b : Bool) → stands x.totals.canton (d + 1) (g + 1) ≡ b →
    number_of_word (leading_word (cond b (decimal (votes_in x.totals (d + 1) (g + 1))) [])) ≡ votes_in x.totals (d + 1) (g + 1)
votes_shown x is d g row column true here =
    number_shown (votes_in x.totals (d + 1) (g + 1))
    (omega (arith, group_most x.totals (d + 1) (g + 1) is.distribution.totals (omega arith) (omega (arith, row)) (omega arith) (omega (arith, column))))
votes_shown x is d g row column false away =
    nothing_shown ∙ sym (is.votes (d + 1) (omega arith) (omega (arith, row)) (g + 1) (omega arith) (omega (arith, column)) away)

seats_shown : (x : Distribution) → IsPublished x → (d g : ℕ) → d < length x.totals.canton.constituencies → g < length x.totals.canton.groups →
    (b : Bool) → stands x.totals.canton (d + 1) (g + 1) ≡ b →
    seats_of_word (leading_word (cond b (decimal (list_seats x (d + 1) (g + 1))) [])) ≡ list_seats x (d + 1) (g + 1)
seats_shown x is d g row column true here =
    let few : list_seats x (d + 1) (g + 1) ≤ 400 = list_seats_small x is.distribution (d + 1) (g + 1) (omega arith) (omega (arith, row)) in
    ap (λ n. min n 400) (number_shown (list_seats x (d + 1) (g + 1)) (omega (arith, few))) ∙ min-eq_left few
seats_shown x is d g row column false away =
    ap (λ n. min n 400) nothing_shown ∙ sym (hidden_seats x is (d + 1) (g + 1) (omega arith) (omega (arith, row)) (omega arith) (omega (arith, column)) away)

module _ (x : Distribution) (head : Head) (is : IsDistribution x) (low : 1 ≤ head.desk) (high : head.desk ≤ 8) (small : head.accepted < 2 ^ 64) where
  abbrev its_text : List ℕ
  its_text = sheet_text x head.desk head.is_final head.accepted

  shown : All (IsShown x.totals.canton (part_text x head)) (sheet_lines x.totals.canton)
  shown =
      all_shown x.totals.canton (part_text x head) (spelled x is head low high small) (last_spelled x is head low high small) (sheet_lines x.totals.canton)
      (all_lines x.totals.canton is.totals.canton)

  -- the text is in the form of a sheet
  pub sheet_formed : IsFormed x.totals.canton its_text
  sheet_formed = sym (lines_formed x.totals.canton (part_text x head) (sheet_lines x.totals.canton) shown)

  -- the words of a line at the parts of one kind
  abbrev in_line : (SheetPart → Bool) → SheetLine → List (List ℕ)
  in_line test line = found_words (part_text x head) test line

  words : (test : SheetPart → Bool) (are : List (List ℕ)) → flat_map (in_line test) (sheet_lines x.totals.canton) ≡ are →
      words_at test (sheet_lines x.totals.canton) its_text ≡ are
  words test are same = lines_read x.totals.canton (part_text x head) test (sheet_lines x.totals.canton) shown ∙ same

  -- the values of the first line
  desk_is : (head_read x.totals.canton its_text).desk ≡ head.desk
  desk_is =
      let first : List (List ℕ) = leading_word (decimal head.desk) ∷ [] in
      ap (λ ws. latest 0 (map (λ word. min (number_of_word word) 255) ws))
      (words (is_like Desk) first (kinds (in_line (is_like Desk)) x.totals.canton refl refl refl refl (λ n. refl) refl ∙ only_first x.totals.canton first))
      ∙ ap (λ n. min n 255) (number_shown head.desk (omega (arith, high))) ∙ min-eq_left (omega (arith, high))

  final_is : (head_read x.totals.canton its_text).is_final ≡ head.is_final
  final_is =
      let first : List (List ℕ) = leading_word (cond head.is_final (codes "final") (codes "provisional")) ∷ [] in
      ap (λ ws. latest false (map is_final_word ws))
      (words (is_like Kind) first (kinds (in_line (is_like Kind)) x.totals.canton refl refl refl refl (λ n. refl) refl ∙ only_first x.totals.canton first))
      ∙ kind_shown head.is_final

  accepted_is : (head_read x.totals.canton its_text).accepted ≡ head.accepted
  accepted_is =
      let first : List (List ℕ) = leading_word (decimal head.accepted) ∷ [] in
      ap (λ ws. latest 0 (map number_of_word ws))
      (words (is_like Accepted) first (kinds (in_line (is_like Accepted)) x.totals.canton refl refl refl refl (λ n. refl) refl ∙ only_first x.totals.canton first))
      ∙ number_shown head.accepted small

  pub head_is : head_read x.totals.canton its_text ≡ head
  head_is = λ i. record { desk = desk_is i; is_final = final_is i; accepted = accepted_is i }

  -- the divisors of the constituencies, and of the groups
  rows_are : row_divisors_read x.totals.canton its_text ≡ x.lower.divisors.of_rows
  rows_are =
      let rows : List ℕ = x.lower.divisors.of_rows in
      let f : ℕ → List ℕ = λ d. leading_word (divisor_text (get_or rows (d - 1) 0)) in
      let test : SheetPart → Bool = is_like (ConstituencyDivisor 0) in
      ap (map number_of_word)
      (words test (map f (row_numbers x.totals.canton)) (kinds (in_line test) x.totals.canton refl refl refl refl (λ n. refl) refl ∙ only_rows x.totals.canton f))
      ∙ (ap (λ m. map number_of_word (map f (range_with_len 1 m))) (sym is.limits.rows.one_each)
      ∙ listed number_of_word f rows (λ k lt.
      let place : k + 1 - 1 ≡ k = omega arith in
      divisor_shown (get_or rows (k + 1 - 1) 0) (row_small x is (k + 1 - 1)) ∙ ap (λ j. get_or rows j 0) place))

  groups_are : group_divisors_read x.totals.canton its_text ≡ group_divisors x (length x.totals.canton.groups)
  groups_are =
      let f : ℕ → List ℕ = λ g. leading_word (part_text x head (GroupDivisor g)) in
      let test : SheetPart → Bool = is_like (GroupDivisor 0) in
      let same : (g : ℕ) → number_of_word (f g) ≡ divisor_or_0 x g
      = λ g. dash_shown (λ k. get_or x.lower.divisors.of_columns k 0) (column_of x g) (group_small x is g) in
      ap (map number_of_word)
      (words test (map f (group_numbers x.totals.canton)) (kinds (in_line test) x.totals.canton refl refl refl refl (λ n. refl) refl ∙ only_groups x.totals.canton f))
      ∙ (map-map number_of_word f (group_numbers x.totals.canton) ∙ (λ i. map (λ g. same g i) (group_numbers x.totals.canton)))

  -- the votes of the lists, and their seats
  pub votes_are : IsPublished x → votes_read x.totals.canton its_text ≡ x.totals.votes
  votes_are published =
      let m : ℕ = length x.totals.canton.constituencies in
      let n : ℕ = length x.totals.canton.groups in
      let f : ℕ → ℕ → List ℕ = λ d g. leading_word (cond (stands x.totals.canton d g) (decimal (votes_in x.totals d g)) []) in
      let test : SheetPart → Bool = is_like (ListVotes 0 0) in
      let read = words test (table f (range_with_len 1 n) m) (kinds (in_line test) x.totals.canton refl refl refl refl (λ n. refl) refl ∙ only_lists x.totals.canton f) in
      same_table m n _ x.totals.votes (length-votes x.totals.canton its_text) is.totals.one_each (λ d g row column.
      let down : d + 1 - 1 ≡ d = omega arith in
      let along : g + 1 - 1 ≡ g = omega arith in
      ap (λ ws. get_or (map number_of_word ws) (d * n + g) 0) read
      ∙ (tabled number_of_word f n m d g row column
      ∙ (votes_shown x published d g row column (stands x.totals.canton (d + 1) (g + 1)) refl
      ∙ (ap (λ r. get_or x.totals.votes (r * n + (g + 1 - 1)) 0) down ∙ ap (λ c. get_or x.totals.votes (d * n + c) 0) along))))

  seats_are : IsPublished x → (d g : ℕ) → d < length x.totals.canton.constituencies → 1 ≤ g → g ≤ length x.totals.canton.groups →
      get_or (seats_read x.totals.canton its_text) (place_in x.totals.canton (d + 1) g) 0 ≡ list_seats x (d + 1) g
  seats_are published d g row from_one there =
      let m : ℕ = length x.totals.canton.constituencies in
      let n : ℕ = length x.totals.canton.groups in
      let f : ℕ → ℕ → List ℕ = λ d g. leading_word (cond (stands x.totals.canton d g) (decimal (list_seats x d g)) []) in
      let test : SheetPart → Bool = is_like (ListSeats 0 0) in
      let read = words test (table f (range_with_len 1 n) m) (kinds (in_line test) x.totals.canton refl refl refl refl (λ n. refl) refl ∙ only_lists x.totals.canton f) in
      let down : d + 1 - 1 ≡ d = omega arith in
      let along : g - 1 + 1 ≡ g = omega (arith, from_one) in
      let column : g - 1 < n = omega (arith, from_one, there) in
      ap (λ ws. get_or (map seats_of_word ws) ((d + 1 - 1) * n + (g - 1)) 0) read
      ∙ (ap (λ r. get_or (map seats_of_word (table f (range_with_len 1 n) m)) (r * n + (g - 1)) 0) down
      ∙ (tabled seats_of_word f n m d (g - 1) row column
      ∙ (seats_shown x published d (g - 1) row column (stands x.totals.canton (d + 1) (g - 1 + 1)) refl ∙ ap (list_seats x (d + 1)) along)))

  -- the seats of the lists of groups with seats
  in_columns : IsPublished x →
      seats_in_columns x.totals.canton (group_divisors x (length x.upper.seats)) (seats_read x.totals.canton its_text) ≡ x.lower.seats
  in_columns published =
      let m : ℕ = length x.totals.canton.constituencies in
      let seated : List ℕ = seated_groups x.upper.seats in
      let seats : List ℕ = seats_read x.totals.canton its_text in
      let f : ℕ → ℕ → ℕ = λ d g. get_or seats (place_in x.totals.canton d g) 0 in
      ap (λ gs. table f gs m) (same_seated x is)
      ∙ same_table m (length seated) (table f seated m) x.lower.seats (length-table f seated m) is.lower.one_each (λ d j row column.
      let group = seated_are x.upper.seats j 0 column in
      in_table f seated m d j 0 row column
      ∙ (seats_are published d (get_or seated j 0) row group.from_one (omega (arith, group.there, group_count x is)) ∙ seats_at x is d j column))

  -- the seats and the divisors of the lists
  pub lower_is : IsPublished x → x.lower ≡ lists_read x.totals.canton its_text
  lower_is published =
      let canton : Canton = x.totals.canton in
      let divisors : group_divisors_read canton its_text ≡ group_divisors x (length x.upper.seats) = groups_are ∙ ap (group_divisors x) (sym (group_count x is)) in
      let seats : seats_in_columns canton (group_divisors_read canton its_text) (seats_read canton its_text) ≡ x.lower.seats
      = ap (λ ds. seats_in_columns canton ds (seats_read canton its_text)) divisors ∙ in_columns published in
      let columns : column_divisors (group_divisors_read canton its_text) ≡ x.lower.divisors.of_columns = ap column_divisors divisors ∙ columns_are x is in
      ap (λ d. record { seats = x.lower.seats; divisors = d }) is.divisors ∙ (λ i. given_lists (sym seats i) (sym rows_are i) (sym columns i))
