-- Sums of the seats of lists, by constituency and by group.
use Rattle.std.proofs.Common.{◌≡◌, ℕ, ◌+◌, ◌*◌, ◌≤◌, All, List, [], ◌∷◌, length, get_or, map, Option, Some, None, inr, sym, ap, ◌∙◌, arith}
use Rattle.std.proofs.lemmas.List.Elements.{All-cons, All-nil}
use Rattle.zh_districts.specs.Canton.{Canton}
use Rattle.zh_divisors.specs.Sums.{sum_to}
use Rattle.zh_sheet_text.specs.Layout.{sheet_lines}
use Rattle.zh_sheet_text.specs.declared.line.SheetPart.TheVariants.{ListSeats}
use Rattle.zh_check.specs.Lines.{after_lines, first_line}
use Rattle.zh_check.specs.Reading.{is_like, lines_above, seats_of_word, seats_read, totals_read, words_at}
use Rattle.zh_check.specs.Totals.{AreConstituencySeats, AreGroupSeats, AreMet, FindsOffAmong, FindsOffTotal, IsOffAmong, IsSaid, IsUnmet, constituency_sum, group_sum, spaced_sum}
use Rattle.zh_check.specs.declared.checked.OffTotal.{OffTotal}
use Rattle.zh_check.specs.declared.reasons.Unmet.{Unmet}

-- a list is read to have at most 400 seats
few_of : (words : List (List ℕ)) → All (λ s. s ≤ 400) (map seats_of_word words)
few_of [] = All-nil (λ s. s ≤ 400)
few_of (word ∷ words) = All-cons (λ s. s ≤ 400) (seats_of_word word) (map seats_of_word words) (omega arith) (few_of words)

pub few_read : (canton : Canton) (text : List ℕ) → All (λ s. s ≤ 400) (seats_read canton text)
few_read canton text = few_of (words_at (is_like (ListSeats 0 0)) (sheet_lines canton) text)

-- the sums that are computed
pub row_sum : (canton : Canton) (text seats : List ℕ) (groups : ℕ) → seats ≡ seats_read canton text → groups ≡ length canton.groups → (d : ℕ) →
    spaced_sum seats (d * groups) groups 1 ≡ constituency_sum canton text d
row_sum canton text seats groups read same d =
    let n : ℕ = length canton.groups in
    let place : (k : ℕ) → d * n + k * 1 ≡ d * n + k = λ k. omega arith in
    ap (λ xs. spaced_sum xs (d * groups) groups 1) read
    ∙ (ap (λ w. spaced_sum (seats_read canton text) (d * w) w 1) same ∙ (λ i. sum_to n (λ k. get_or (seats_read canton text) (place k i) 0)))

pub column_sum : (canton : Canton) (text seats : List ℕ) (rows columns : ℕ) → seats ≡ seats_read canton text → rows ≡ length canton.constituencies →
    columns ≡ length canton.groups → (g : ℕ) → spaced_sum seats (g * 1) rows columns ≡ group_sum canton text g
column_sum canton text seats rows columns read tall wide g =
    let place : (k : ℕ) → g * 1 + k * length canton.groups ≡ k * length canton.groups + g = λ k. omega arith in
    ap (λ xs. spaced_sum xs (g * 1) rows columns) read
    ∙ ((λ i. spaced_sum (seats_read canton text) (g * 1) (tall i) (wide i)) ∙ (λ i. sum_to (length canton.constituencies) (λ k. get_or (seats_read canton text) (place k i) 0)))

-- the first total that is not met
pub off_among : (sum their : ℕ → ℕ) (totals text : List ℕ) (before line : ℕ) (unmet : Unmet) (off : OffTotal) → ((k : ℕ) → sum k ≡ their k) →
    IsUnmet sum totals unmet → line ≡ before + unmet.place → IsSaid text line unmet.seats (get_or totals unmet.place 0) off → IsOffAmong their totals text before off
off_among sum their totals text before line unmet off same is at said = record {
  place = unmet.place;
  first = record {
    there = is.first.there;
    unmet = λ e. is.first.unmet (same unmet.place ∙ e);
    before = λ k lt. sym (same k) ∙ is.first.before k lt;
  };
  said = record {
    line = said.line ∙ ap (λ n. n + 1) at;
    found = said.found ∙ ap (λ n. first_line (after_lines n text)) at;
    seats = said.seats ∙ (is.seats ∙ same unmet.place);
    total = said.total;
  };
}

-- the totals of the constituencies are met; those of the groups are met, or are not
pub groups_found : (canton : Canton) (text rows upper : List ℕ) (found : Option OffTotal) → AreConstituencySeats canton rows →
    AreGroupSeats (totals_read canton text) rows upper → AreMet (constituency_sum canton text) rows →
    FindsOffAmong (group_sum canton text) upper text (1 + lines_above canton + length canton.constituencies) found → FindsOffTotal canton text found
groups_found canton text rows upper None have groups met all =
    inr (record { seats = rows; follow = have; met = met; groups = inr (inr (record { upper = upper; follow = groups; met = all })) })
groups_found canton text rows upper (Some off) have groups met is =
    inr (record {
      targets = record {
        seats = rows;
        taking = groups.taking;
        voters = groups.voters;
        upper = upper;
        constituencies = record { in_proportion = have.in_proportion; each = have.each };
        participation = groups.participation;
        sums = groups.sums;
        groups = groups.groups;
      };
      constituencies = met;
      first = is;
    })
