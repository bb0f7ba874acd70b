-- The text of each part of a sheet is a word that is possible there.
use Rattle.std.proofs.Common.{◌≡◌, ℕ, ◌-◌, ◌^◌, ◌<◌, ◌≤◌, Bool, true, false, refl, ap, ◌∙◌, arith, decimal, slice_index}
use Rattle.std.specs.Prelude.{codes}
use Rattle.zh_districts.specs.Canton.{Constituency, Group}
use Rattle.zh_sheet.specs.Distribution.{Distribution, IsDistribution}
use Rattle.zh_sheet.specs.Readings.{column_of, list_seats, takes_part}
use Rattle.zh_sheet_text.specs.Layout.{IsPartOf, label_text}
use Rattle.zh_sheet_text.specs.SheetText.{divisor_text, part_text}
use Rattle.zh_sheet_text.specs.declared.line.Head.{Head}
use Rattle.zh_sheet_text.specs.declared.line.Label.{Label}
use Rattle.zh_sheet_text.specs.declared.line.Label.TheVariants as labels
use Rattle.zh_sheet_text.specs.declared.line.SheetPart.{SheetPart}
use Rattle.zh_sheet_text.specs.declared.line.SheetPart.TheVariants.{Fixed, Number, Desk, Kind, Accepted, SeatsKey, UpperKey}
use Rattle.zh_sheet_text.specs.declared.line.SheetPart.TheVariants.{ConstituencySeats, ConstituencyVotes, ConstituencyDivisor, ConstituencyName}
use Rattle.zh_sheet_text.specs.declared.line.SheetPart.TheVariants.{TakesPart, GroupVoters, GroupSeats, GroupDivisor, GroupName, ListVotes, ListVoters, ListSeats}
use Rattle.zh_sheet_text.proofs.CallerLemmas.{each_at_most, is_name_part, list_seats_small, seats_small, upper_small}
use Rattle.zh_totals.specs.Totals.{constituency_votes, votes_in}
use Rattle.zh_totals.proofs.CallerLemmas.{constituency_most, group_most}
use Rattle.zh_upper.specs.VoterNumbers.{voter_number}
use Rattle.zh_check.specs.Form.{part_form}
use Rattle.zh_check.proofs.NumeralLemmas.{desk_fits, divisor_fits, divisor_or_dash_fits, fraction_fits, kind_fits, number_fits, seats_fit, voters_or_dash_fits, word_filled, yes_or_no_fits}
use Rattle.zh_check.proofs.PartLemmas.{IsLast, IsSpelled}
use Rattle.zh_check.proofs.SeamLemmas.{IsWord, word_alone, word_plain}
use Rattle.zh_check.proofs.ShownLemmas.{row_small}
use Rattle.zh_check.proofs.WordLemmas.{by_test, decimal_or_dash, decimal_word, divisor_or_dash, divisor_word, fraction_word, kind_word, named_plain, yes_or_no_word}

label_word : (label : Label) → IsWord (label_text label)
label_word labels.Sheet = by_test (codes "sheet") refl
label_word labels.House = by_test (codes "house") refl
label_word labels.Seats = by_test (codes "seats") refl
label_word labels.Upper = by_test (codes "upper") refl
label_word labels.Key = by_test (codes "key") refl
label_word labels.Quorum = by_test (codes "quorum") refl
label_word labels.Canton = by_test (codes "canton") refl
label_word labels.Constituency = by_test (codes "constituency") refl
label_word labels.Persons = by_test (codes "persons") refl
label_word labels.Votes = by_test (codes "votes") refl
label_word labels.Divisor = by_test (codes "divisor") refl
label_word labels.Group = by_test (codes "group") refl
label_word labels.Voters = by_test (codes "voters") refl
label_word labels.List = by_test (codes "list") refl
label_word labels.End = by_test (codes "end") refl

module _ (x : Distribution) (is : IsDistribution x) (head : Head) (low : 1 ≤ head.desk) (high : head.desk ≤ 8) (small : head.accepted < 2 ^ 64) where
  votes_small : (d g : ℕ) → IsPartOf x.totals.canton (ListVotes d g) → votes_in x.totals d g < 2 ^ 64
  votes_small d g of = omega (arith, group_most x.totals d g is.totals of.0.from_one of.0.there of.1.from_one of.1.there)

  pub spelled : (part : SheetPart) → IsPartOf x.totals.canton part → is_name_part part ≡ false → IsSpelled x.totals.canton (part_text x head) part
  spelled (Fixed label) of word = (label_word label, refl)
  spelled (Number n) of word = (decimal_word n, refl)
  spelled Desk of word = (decimal_word head.desk, word_filled Desk (decimal head.desk) (desk_fits head.desk low high))
  spelled Kind of word = (kind_word head.is_final, word_filled Kind (part_text x head Kind) (kind_fits head.is_final))
  spelled Accepted of word = (decimal_word head.accepted, word_filled Accepted (decimal head.accepted) (number_fits head.accepted small))
  spelled SeatsKey of word = (fraction_word x.seats.num x.seats.den, word_filled SeatsKey (part_text x head SeatsKey) (fraction_fits x.seats.num x.seats.den))
  spelled UpperKey of word = (fraction_word x.upper.num x.upper.den, word_filled UpperKey (part_text x head UpperKey) (fraction_fits x.upper.num x.upper.den))
  spelled (ConstituencySeats d) of word =
      let s : ℕ = slice_index x.seats.seats (d - 1) in
      (decimal_word s, word_filled (ConstituencySeats d) (decimal s) (seats_fit s (seats_small x is (d - 1))))
  spelled (ConstituencyVotes d) of word =
      let v : ℕ = constituency_votes x.totals d in
      (decimal_word v, word_filled (ConstituencyVotes d) (decimal v) (number_fits v (omega (arith, constituency_most x.totals d is.totals of.from_one of.there))))
  spelled (ConstituencyDivisor d) of word =
      let m : ℕ = slice_index x.lower.divisors.of_rows (d - 1) in
      (divisor_word m, word_filled (ConstituencyDivisor d) (divisor_text m) (divisor_fits m (row_small x is (d - 1))))
  spelled (ConstituencyName d) of word = absurd (cc)
  spelled (TakesPart g) of word = (yes_or_no_word (takes_part x g), word_filled (TakesPart g) (part_text x head (TakesPart g)) (yes_or_no_fits (takes_part x g)))
  spelled (GroupVoters g) of word =
      let v : ℕ = slice_index x.voters (g - 1) in
      (decimal_or_dash (takes_part x g) v, word_filled (GroupVoters g) (part_text x head (GroupVoters g)) (voters_or_dash_fits (takes_part x g) v))
  spelled (GroupSeats g) of word =
      let s : ℕ = slice_index x.upper.seats (g - 1) in
      (decimal_word s, word_filled (GroupSeats g) (decimal s) (seats_fit s (upper_small x is (g - 1))))
  spelled (GroupDivisor g) of word =
      let divisor : ℕ → ℕ = slice_index x.lower.divisors.of_columns in (
        divisor_or_dash divisor (column_of x g),
        word_filled (GroupDivisor g) (part_text x head (GroupDivisor g)) (divisor_or_dash_fits divisor (column_of x g)
            (λ k. omega (arith, each_at_most x.lower.divisors.of_columns (10 ^ 12) k is.limits.columns.at_most))),
      )
  spelled (GroupName g) of word = absurd (cc)
  spelled (ListVotes d g) of word =
      let v : ℕ = votes_in x.totals d g in
      (decimal_word v, word_filled (ListVotes d g) (decimal v) (number_fits v (votes_small d g of)))
  spelled (ListVoters d g) of word =
      let v : ℕ = voter_number (votes_in x.totals d g) (slice_index x.seats.seats (d - 1)) in
      (decimal_or_dash (takes_part x g) v, word_filled (ListVoters d g) (part_text x head (ListVoters d g)) (voters_or_dash_fits (takes_part x g) v))
  spelled (ListSeats d g) of word =
      let s : ℕ = list_seats x d g in
      (decimal_word s, word_filled (ListSeats d g) (decimal s) (seats_fit s (list_seats_small x is d g of.0.from_one of.0.there)))

  -- a name is possible at the end of a line, and so is a word
  named : (part : SheetPart) → is_name_part part ≡ true → IsLast x.totals.canton (part_text x head) part
  named (ConstituencyName d) name = (named_plain (λ (c : Constituency). c.name) x.totals.canton.constituencies (d - 1) is.totals.canton.constituency_names.rule, refl)
  named (GroupName g) name = (named_plain (λ (c : Group). c.name) x.totals.canton.groups (g - 1) is.totals.canton.group_names.rule, refl)
  named part name = absurd (cc)

  by_kind : (b : Bool) (part : SheetPart) → IsPartOf x.totals.canton part → is_name_part part ≡ b → IsLast x.totals.canton (part_text x head) part
  by_kind true part of name = named part name
  by_kind false part of word =
      let both = spelled part of word in
      (word_plain (part_text x head part) both.0, ap (part_form x.totals.canton part) (word_alone (part_text x head part) both.0) ∙ both.1)

  pub last_spelled : (part : SheetPart) → IsPartOf x.totals.canton part → IsLast x.totals.canton (part_text x head) part
  last_spelled part of = by_kind (is_name_part part) part of refl
