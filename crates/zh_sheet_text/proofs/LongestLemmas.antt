-- An upper bound of the length of a sheet's text: 1,094 lines of 256 bytes.
use Rattle.std.proofs.Common.{◌≡◌, ℕ, zero, suc, ◌+◌, ◌-◌, ◌*◌, ◌^◌, ◌<◌, ◌≤◌, ◌==◌, Bool, cond, true, false, IsTrue, Option, Some, None}
use Rattle.std.proofs.Common.{List, [], ◌∷◌, ◌++◌, length, get_or, map, All, decimal, codes, refl, ap, sym, ◌∙◌, inl, inr, arith, length-append}
use Rattle.std.specs.Prelude.{slice_get, sum}
use Rattle.std.specs.List.{flat_map}
use Rattle.std.specs.Option.{option_map_or}
use Rattle.std.proofs.lemmas.Bool.{cases_lt}
use Rattle.std.proofs.lemmas.List.{get_or_past, length-map}
use Rattle.std.proofs.lemmas.List.Elements.{All-head, All-tail}
use Rattle.std.proofs.lemmas.List.Quantifiers.{position-Some}
use Rattle.std.proofs.lemmas.List.Sums.{get_or-le-sum_by, sum_by-cons}
use Rattle.zh_districts.specs.Canton.{Canton, Constituency, Group, is_name}
use Rattle.zh_districts.specs.Seats.{persons}
use Rattle.zh_districts.proofs.CallerLemmas.{is_name-short}
use Rattle.zh_divisors.proofs.CallerLemmas.{sum_to-le, term-le-sum_to}
use Rattle.zh_matrices.specs.Question.{cell}
use Rattle.zh_matrices.specs.SeatMatrix.{seats_of}
use Rattle.zh_totals.specs.Totals.{constituency_votes, votes_in}
use Rattle.zh_totals.proofs.CallerLemmas.{constituency_most, group_most, group_within}
use Rattle.zh_upper.specs.UpperSeats.{of_participants}
use Rattle.zh_upper.specs.VoterNumbers.{voter_number, voter_sum}
use Rattle.zh_upper.proofs.CallerLemmas.{voter_number-le}
use Rattle.zh_sheet.specs.Distribution.{Distribution, IsDistribution, seated_groups}
use Rattle.zh_sheet.specs.Readings.{column_of, list_seats, takes_part}
use Rattle.zh_sheet_text.specs.Layout.{IsPartOf, IsUpTo, SheetLine, mark_before, sheet_lines}
use Rattle.zh_sheet_text.specs.SheetText.{divisor_text, line_text, part_text, joined_parts, sheet_text}
use Rattle.zh_sheet_text.specs.declared.line.Head.{Head}
use Rattle.zh_sheet_text.specs.declared.line.SheetPart.{SheetPart}
use Rattle.zh_sheet_text.specs.declared.line.SheetPart.TheVariants.{Fixed, Number, Desk, Kind, Accepted, SeatsKey, UpperKey}
use Rattle.zh_sheet_text.specs.declared.line.SheetPart.TheVariants.{ConstituencySeats, ConstituencyVotes, ConstituencyDivisor, ConstituencyName}
use Rattle.zh_sheet_text.specs.declared.line.SheetPart.TheVariants.{TakesPart, GroupVoters, GroupSeats, GroupDivisor, GroupName}
use Rattle.zh_sheet_text.specs.declared.line.SheetPart.TheVariants.{ListVotes, ListVoters, ListSeats}
use Rattle.zh_text.proofs.CallerLemmas.{digits, divisor}
use Rattle.zh_sheet_text.proofs.EachLemmas.{Each, each_more}
use Rattle.zh_sheet_text.proofs.LayoutLemmas.{IsLineOf, all_lines, few_lines, most, most_of}

fraction : (num den : ℕ) → num < 2 ^ 64 → den < 2 ^ 64 → length (decimal num ++ (codes "/" ++ decimal den)) ≤ 41
fraction num den one other =
    omega (arith, digits num one, digits den other, length-append (decimal num) (codes "/" ++ decimal den), length-append (codes "/") (decimal den))

-- the length of a conditional text
choice : (b : Bool) (one other : List ℕ) (most : ℕ) → length one ≤ most → length other ≤ most → length (cond b one other) ≤ most
choice true one other most is or = is
choice false one other most is or = or

-- the length of the text of an optional value, or of a dash
found : (text : ℕ → List ℕ) (most : ℕ) (o : Option ℕ) → 1 ≤ most → ((k : ℕ) → length (text k) ≤ most) → length (option_map_or text o (codes "-")) ≤ most
found text most None some each = some
found text most (Some k) some each = each k

-- all elements are small, and so is the default past the end
pub each_at_most : (xs : List ℕ) (most k : ℕ) → All (λ v. v ≤ most) xs → get_or xs k 0 ≤ most
each_at_most xs most k all = elim (cases_lt k (length xs)) [
  | inl within ↦ all k 0 within
  | inr past ↦ let none = get_or_past xs k 0 past in omega (arith, none)
]

within_sum : (xs : List ℕ) (k : ℕ) → get_or xs k 0 ≤ sum xs
within_sum xs k = elim (cases_lt k (length xs)) [
  | inl within ↦ get_or-le-sum_by (λ x. x) xs k 0 within
  | inr past ↦ let none = get_or_past xs k 0 past in omega (arith, none)
]

-- persons, as a list and as a number that is looked up in it
mapped_at_most : {X : Type 0} (f : X → ℕ) (most : ℕ) (xs : List X) (k : ℕ) → All (λ x. f x ≤ most) xs → get_or (map f xs) k 0 ≤ most
mapped_at_most f most [] k all = omega arith
mapped_at_most f most (x ∷ xs) zero all = all 0 x (omega arith)
mapped_at_most f most (x ∷ xs) (suc k) all = mapped_at_most f most xs k (λ i d within. all (suc i) d (omega arith))

-- the length of a name that is looked up
name_at : {X : Type 0} (name : X → List ℕ) (xs : List X) (k : ℕ) → All (λ n. IsTrue (is_name n)) (map name xs) → length (option_map_or name (slice_get xs k) []) ≤ 40
name_at name [] k rule = omega arith
name_at name (x ∷ xs) zero rule = is_name-short (name x) (rule 0 (name x) (omega arith))
name_at name (x ∷ xs) (suc k) rule = name_at name xs k (λ i d within. rule (suc i) d (omega arith))

-- the number of a group that takes part
participant_at_most : (numbers : List ℕ) (taking : List Bool) (most k : ℕ) → ((i : ℕ) → get_or numbers i 0 ≤ most) → get_or (of_participants numbers taking) k 0 ≤ most
participant_at_most [] taking most k each = each 0
participant_at_most (n ∷ numbers) [] most k each = omega arith
participant_at_most (n ∷ numbers) (true ∷ taking) most zero each = each 0
participant_at_most (n ∷ numbers) (true ∷ taking) most (suc k) each = participant_at_most numbers taking most k (λ i. each (suc i))
participant_at_most (n ∷ numbers) (false ∷ taking) most k each = participant_at_most numbers taking most k (λ i. each (suc i))

-- a group that takes part has at most the sum of their seats; another group has none
seats_within : (numbers : List ℕ) (taking : List Bool) (k : ℕ) → length taking ≡ length numbers
    → ((place : ℕ) → slice_get taking place ≡ Some false → get_or numbers place 0 ≡ 0)
    → get_or numbers k 0 ≤ sum (of_participants numbers taking)
seats_within [] taking k same others = omega arith
seats_within (n ∷ numbers) [] k same others = absurd (omega arith)
seats_within (n ∷ numbers) (true ∷ taking) zero same others = omega (arith, sum_by-cons (λ x. x) n (of_participants numbers taking))
seats_within (n ∷ numbers) (true ∷ taking) (suc k) same others =
    omega (arith, sum_by-cons (λ x. x) n (of_participants numbers taking), seats_within numbers taking k (omega arith) (λ place. others (suc place)))
seats_within (n ∷ numbers) (false ∷ taking) zero same others = let none : n ≡ 0 = others 0 refl in omega arith
seats_within (n ∷ numbers) (false ∷ taking) (suc k) same others = seats_within numbers taking k (omega arith) (λ place. others (suc place))

-- the length of parts, and of a line made of them
parts_within : (text : SheetPart → List ℕ) (parts : List SheetPart) → Each (λ part. length (text part) ≤ most part) parts → length (joined_parts text parts) ≤ most_of parts
parts_within text [] each = omega arith
parts_within text (part ∷ parts) each =
    omega (arith, each.0, parts_within text parts each.1, length-append (text part) (mark_before parts ∷ joined_parts text parts))

lines_within : (text : SheetLine → List ℕ) (lines : List SheetLine) → All (λ line. length (text line) ≤ 256) lines → length (flat_map text lines) ≤ length lines * 256
lines_within text [] each = omega arith
lines_within text (line ∷ lines) each =
    omega (
      arith,
      All-head (λ line. length (text line) ≤ 256) line lines each,
      lines_within text lines (All-tail (λ line. length (text line) ≤ 256) line lines each),
      length-append (text line) (flat_map text lines),
    )

module _ (x : Distribution) (is : IsDistribution x) where
  -- the numbers of a sheet are small
  pub seats_small : (k : ℕ) → get_or x.seats.seats k 0 ≤ 400
  seats_small k = omega (arith, within_sum x.seats.seats k, is.seats.in_proportion.add_up, is.totals.canton.house.1)

  all_participants : sum (of_participants x.upper.seats x.taking) ≤ 400
  all_participants = omega (arith, is.upper.in_proportion.add_up, is.totals.canton.house.1)

  pub upper_small : (k : ℕ) → get_or x.upper.seats k 0 ≤ 400
  upper_small k =
      omega (arith, all_participants, seats_within x.upper.seats x.taking k (is.participation.one_each ∙ sym is.voters.one_each ∙ sym is.upper.one_each) is.upper.others)

  participant_seats_small : (k : ℕ) → get_or (of_participants x.upper.seats x.taking) k 0 ≤ 400
  participant_seats_small k = omega (arith, all_participants, within_sum (of_participants x.upper.seats x.taking) k)

  few_persons : All (λ (c : Constituency). c.persons ≤ 10000000) x.totals.canton.constituencies
  few_persons i d within = (is.totals.canton.persons i d within).1

  persons_small : (k : ℕ) → get_or (persons x.totals.canton) k 0 ≤ 10000000
  persons_small k = mapped_at_most (λ (c : Constituency). c.persons) 10000000 x.totals.canton.constituencies k few_persons

  one_seat_each : length x.seats.seats ≡ length x.totals.canton.constituencies
  one_seat_each = is.seats.in_proportion.one_each ∙ length-map x.totals.canton.constituencies (λ (c : Constituency). c.persons)

  sum_small : (g : ℕ) → 1 ≤ g → g ≤ length x.totals.canton.groups → voter_sum x.totals x.seats.seats g ≤ 10 ^ 14
  sum_small g from_one there =
      let count : ℕ = length x.totals.canton.constituencies in
      let voters : ℕ → ℕ = λ i. voter_number (votes_in x.totals (i + 1) g) (get_or x.seats.seats i 0) in
      let votes : ℕ → ℕ = λ i. constituency_votes x.totals (i + 1) in
      let few : (i : ℕ) → i < count → voters i ≤ votes_in x.totals (i + 1) g
      = λ i within. voter_number-le (votes_in x.totals (i + 1) g) (get_or x.seats.seats i 0) (is.seats.each i (omega (arith, within, one_seat_each))) in
      let each : (i : ℕ) → i < count → voters i ≤ votes i
      = λ i within. omega (arith, few i within, group_within x.totals (i + 1) g from_one there) in
      let all = sum_to-le count voters votes each in
      omega (arith, all, is.totals.most)

  voters_small : (k : ℕ) → get_or x.voters k 0 ≤ 10 ^ 14
  voters_small k = elim (cases_lt k (length x.totals.canton.groups)) [
    | inl within ↦
        let place : k + 1 - 1 ≡ k = omega arith in
        let sum : get_or x.voters k 0 ≡ voter_sum x.totals x.seats.seats (k + 1) = ap (λ (i : ℕ). get_or x.voters i 0) (sym place) ∙ is.voters.each (k + 1) (omega arith) (omega arith) in
        omega (arith, sum, sum_small (k + 1) (omega arith) (omega arith))
    | inr past ↦ let none = get_or_past x.voters k 0 (omega (arith, is.voters.one_each, past)) in omega (arith, none)
  ]

  votes_most : (d g : ℕ) → IsUpTo (length x.totals.canton.constituencies) d × IsUpTo (length x.totals.canton.groups) g → votes_in x.totals d g ≤ 10 ^ 14
  votes_most d g of = omega (arith, group_most x.totals d g is.totals of.0.from_one of.0.there of.1.from_one of.1.there)

  pub list_seats_small : (d g : ℕ) → 1 ≤ d → d ≤ length x.totals.canton.constituencies → list_seats x d g ≤ 400
  list_seats_small d g from_one there =
      elim (column_of x g) as (λ o. column_of x g ≡ o → option_map_or (λ column. seats_of x.lower d (column + 1)) o 0 ≤ 400) [
        | None ↦ λ is_none. omega arith
        | (Some column) ↦ λ at.
            let (within, _, _) = position-Some (λ seated. seated == g) (seated_groups x.upper.seats) column 0 at in
            let back : column + 1 - 1 ≡ column = omega arith in
            let here : seats_of x.lower d (column + 1) ≡ cell (length (seated_groups x.upper.seats)) x.lower.seats (d - 1) column =
            ap (λ (n : ℕ). cell n x.lower.seats (d - 1) (column + 1 - 1)) is.limits.columns.one_each ∙ ap (cell (length (seated_groups x.upper.seats)) x.lower.seats (d - 1)) back in
            let all = is.lower.rows_add_up (d - 1) (omega arith) in
            let one = term-le-sum_to (length (seated_groups x.upper.seats)) (λ k. cell (length (seated_groups x.upper.seats)) x.lower.seats (d - 1) k) column within in
            omega (arith, here, all, one, seats_small (d - 1))
      ] refl

  -- the length of the text of a part
  module _ (head : Head) (desk : head.desk ≤ 8) (accepted : head.accepted < 2 ^ 64) where
    part_within : (part : SheetPart) → IsPartOf x.totals.canton part → length (part_text x head part) ≤ most part
    part_within (Fixed label) of = omega arith
    part_within (Number n) of = digits n (omega (arith, of))
    part_within Desk of = digits head.desk (omega (arith, desk))
    part_within Kind of = choice head.is_final (codes "final") (codes "provisional") 11 (omega arith) (omega arith)
    part_within Accepted of = digits head.accepted accepted
    part_within SeatsKey of =
        fraction x.seats.num x.seats.den (omega (arith, is.seats_key.num_is, persons_small is.seats_key.last, persons_small is.seats_key.next))
        (omega (arith, is.seats_key.den_is, seats_small is.seats_key.last, seats_small is.seats_key.next))
    part_within UpperKey of =
        fraction x.upper.num x.upper.den (omega (
          arith,
          is.upper_key.num_is,
          participant_at_most x.voters x.taking (10 ^ 14) is.upper_key.last voters_small,
          participant_at_most x.voters x.taking (10 ^ 14) is.upper_key.next voters_small,
        ))
        (omega (arith, is.upper_key.den_is, participant_seats_small is.upper_key.last, participant_seats_small is.upper_key.next))
    part_within (ConstituencySeats d) of = digits (get_or x.seats.seats (d - 1) 0) (omega (arith, seats_small (d - 1)))
    part_within (ConstituencyVotes d) of =
        digits (constituency_votes x.totals d) (omega (arith, constituency_most x.totals d is.totals of.from_one of.there))
    part_within (ConstituencyDivisor d) of =
        divisor (get_or x.lower.divisors.of_rows (d - 1) 0) (omega (arith, each_at_most x.lower.divisors.of_rows (10 ^ 18) (d - 1) is.limits.rows.at_most))
    part_within (ConstituencyName d) of = name_at (λ (c : Constituency). c.name) x.totals.canton.constituencies (d - 1) is.totals.canton.constituency_names.rule
    part_within (TakesPart g) of = choice (takes_part x g) (codes "yes") (codes "no") 3 (omega arith) (omega arith)
    part_within (GroupVoters g) of =
        choice (takes_part x g) (decimal (get_or x.voters (g - 1) 0)) (codes "-") 20 (digits (get_or x.voters (g - 1) 0) (omega (arith, voters_small (g - 1)))) (omega arith)
    part_within (GroupSeats g) of = digits (get_or x.upper.seats (g - 1) 0) (omega (arith, upper_small (g - 1)))
    part_within (GroupDivisor g) of =
        found (λ k. divisor_text (get_or x.lower.divisors.of_columns k 0)) 27 (column_of x g) (omega arith) (λ k.
        divisor (get_or x.lower.divisors.of_columns k 0) (omega (arith, each_at_most x.lower.divisors.of_columns (10 ^ 12) k is.limits.columns.at_most)))
    part_within (GroupName g) of = name_at (λ (c : Group). c.name) x.totals.canton.groups (g - 1) is.totals.canton.group_names.rule
    part_within (ListVotes d g) of = digits (votes_in x.totals d g) (omega (arith, votes_most d g of))
    part_within (ListVoters d g) of =
        let few = voter_number-le (votes_in x.totals d g) (get_or x.seats.seats (d - 1) 0)
        (is.seats.each (d - 1) (omega (arith, one_seat_each, of.0.from_one, of.0.there))) in
        choice (takes_part x g) (decimal (voter_number (votes_in x.totals d g) (get_or x.seats.seats (d - 1) 0))) (codes "-") 20
        (digits (voter_number (votes_in x.totals d g) (get_or x.seats.seats (d - 1) 0)) (omega (arith, votes_most d g of, few))) (omega arith)
    part_within (ListSeats d g) of = digits (list_seats x d g) (omega (arith, list_seats_small d g of.0.from_one of.0.there))

    line_within : (line : SheetLine) → IsLineOf x.totals.canton line → length (line_text (part_text x head) line) ≤ 256
    line_within line of =
        let all = parts_within (part_text x head) line.parts
        (each_more (IsPartOf x.totals.canton) (λ part. length (part_text x head part) ≤ most part) line.parts part_within of.parts) in
        choice line.is_there (joined_parts (part_text x head) line.parts) [] 256 (omega (arith, all, of.short)) (omega arith)

-- no sheet is longer
pub no_longer : (x : Distribution) (desk : ℕ) (is_final : Bool) (accepted : ℕ) → IsDistribution x → desk ≤ 8 → accepted < 2 ^ 64 → length (sheet_text x desk is_final accepted) ≤ 280064
no_longer x desk is_final accepted is few small =
    let canton : Canton = x.totals.canton in
    let head : Head = record { desk = desk; is_final = is_final; accepted = accepted } in
    let all = lines_within (line_text (part_text x head)) (sheet_lines canton)
    (λ k d lt. line_within x is head few small (get_or (sheet_lines canton) k d) (all_lines canton is.totals.canton k d lt)) in
    omega (arith, all, few_lines canton is.totals.canton)
