-- What is read, word by word.
use Rattle.std.proofs.Common.{◌≡◌, ℕ, ◌+◌, ◌<◌, Bool, cond, List, [], ◌∷◌, ◌++◌, drop, get_or, length, map, min, refl, sym, ap, ◌∙◌, append_assoc, append-nil, subst}
use Rattle.std.proofs.lemmas.List.{at_drop_more, map-append}
use Rattle.zh_sheet_text.specs.Layout.{SheetLine}
use Rattle.zh_sheet_text.specs.declared.line.Head.{Head}
use Rattle.zh_sheet_text.specs.declared.line.SheetPart.{SheetPart}
use Rattle.zh_sheet_text.specs.declared.line.SheetPart.TheVariants.{Desk, Kind, Accepted, ConstituencyDivisor, GroupDivisor, ListVotes, ListSeats}
use Rattle.zh_check.specs.Lines.{after_if, after_word, leading_word, line_if, number_of_word}
use Rattle.zh_check.specs.Reading.{AddsWords, head_with, is_like, latest, seats_of_word, words_at, words_in}
use Rattle.zh_check.specs.declared.recomputed.Values.{Values}
use Rattle.zh_check.proofs.WordLemmas.{is_final_word}

latest_append : {A : Type 0} (before : A) (xs ys : List A) → latest (latest before xs) ys ≡ latest before (xs ++ ys)
latest_append before [] ys = refl
latest_append before (x ∷ xs) ys = latest_append x xs ys

last_then : {A B : Type 0} (f : A → B) (xs ys : List A) (old : B) → latest (latest old (map f xs)) (map f ys) ≡ latest old (map f (xs ++ ys))
last_then f xs ys old = latest_append old (map f xs) (map f ys) ∙ ap (latest old) (sym (map-append f xs ys))

all_then : {A B : Type 0} (f : A → B) (xs ys : List A) (old one new : List B) → one ≡ old ++ map f xs → new ≡ one ++ map f ys → new ≡ old ++ map f (xs ++ ys)
all_then f xs ys old one new first second =
    second ∙ (ap (λ b. b ++ map f ys) first ∙ (append_assoc old (map f xs) (map f ys) ∙ ap (λ t. old ++ t) (sym (map-append f xs ys))))

-- no words add no values
pub adds_none : (values : Values) → AddsWords (λ test. []) values values
adds_none values = record {
  head = refl;
  rows = sym (append-nil values.row_divisors.items);
  groups = sym (append-nil values.group_divisors.items);
  votes = sym (append-nil values.votes.items);
  seats = sym (append-nil values.seats.items);
}

head_then : (some others : (SheetPart → Bool) → List (List ℕ)) (head : Head) →
    head_with (head_with head some) others ≡ head_with head (λ test. some test ++ others test)
head_then some others head = λ i. record {
  desk = last_then (λ word. min (number_of_word word) 255) (some (is_like Desk)) (others (is_like Desk)) head.desk i;
  is_final = last_then is_final_word (some (is_like Kind)) (others (is_like Kind)) head.is_final i;
  accepted = last_then number_of_word (some (is_like Accepted)) (others (is_like Accepted)) head.accepted i;
}

-- some words, then more words
pub adds_then : (some others all : (SheetPart → Bool) → List (List ℕ)) (old one new : Values) → ((test : SheetPart → Bool) → some test ++ others test ≡ all test) →
    AddsWords some old one → AddsWords others one new → AddsWords all old new
adds_then some others all old one new are first second =
    let same : (λ (test : SheetPart → Bool). some test ++ others test) ≡ all = λ i test. are test i in
    let row : SheetPart → Bool = is_like (ConstituencyDivisor 0) in
    let group : SheetPart → Bool = is_like (GroupDivisor 0) in
    let votes : SheetPart → Bool = is_like (ListVotes 0 0) in
    let seats : SheetPart → Bool = is_like (ListSeats 0 0) in
    let both : AddsWords (λ test. some test ++ others test) old new = record {
      head = second.head ∙ ap (λ h. head_with h others) first.head ∙ head_then some others old.head;
      rows = all_then number_of_word (some row) (others row) old.row_divisors.items one.row_divisors.items new.row_divisors.items first.rows second.rows;
      groups = all_then number_of_word (some group) (others group) old.group_divisors.items one.group_divisors.items new.group_divisors.items first.groups second.groups;
      votes = all_then number_of_word (some votes) (others votes) old.votes.items one.votes.items new.votes.items first.votes second.votes;
      seats = all_then seats_of_word (some seats) (others seats) old.seats.items one.seats.items new.seats.items first.seats second.seats;
    } in
    subst (λ words. AddsWords words old new) same both

-- the remaining words, of a line and of a text
pub next_word : (test : SheetPart → Bool) (parts : List SheetPart) (k : ℕ) (d : SheetPart) (rest : List ℕ) → k < length parts →
    cond (test (get_or parts k d)) (leading_word rest ∷ []) [] ++ words_in test (drop (k + 1) parts) (after_word rest) ≡ words_in test (drop k parts) rest
next_word test parts k d rest lt = sym (at_drop_more (λ ps. words_in test ps rest) parts k d lt)

pub next_line : (test : SheetPart → Bool) (lines : List SheetLine) (k : ℕ) (d : SheetLine) (rest : List ℕ) → k < length lines →
    words_in test (get_or lines k d).parts (line_if (get_or lines k d).is_there rest) ++ words_at test (drop (k + 1) lines) (after_if (get_or lines k d).is_there rest)
    ≡ words_at test (drop k lines) rest
next_line test lines k d rest lt = sym (at_drop_more (λ ls. words_at test ls rest) lines k d lt)
