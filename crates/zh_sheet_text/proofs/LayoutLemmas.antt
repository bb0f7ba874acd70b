-- The lines of a sheet, place by place.
use Rattle.std.proofs.Common.{◌≡◌, ℕ, zero, suc, ◌+◌, ◌-◌, ◌*◌, ◌/◌, ◌%◌, ◌<◌, ◌≤◌, Bool, true, false, ◌&&◌, Option, Some, None, IfSome}
use Rattle.std.proofs.Common.{List, [], ◌∷◌, ◌++◌, length, get_or, map, flat_map, All, refl, sym, ap, ◌∙◌, subst, inl, inr, arith, mul_comm, length-append}
use Rattle.std.specs.List.{range_with_len}
use Rattle.std.specs.Option.{option_map_or}
use Rattle.std.specs.Prelude.{not, slice_get}
use Rattle.std.proofs.lemmas.Bool.{cases_lt}
use Rattle.std.proofs.lemmas.List.{get_or-append_right, get_or-map, get_or_append_left, get_or_past, length-map}
use Rattle.std.proofs.lemmas.List.Elements.{All-append, All-cons, All-nil}
use Rattle.std.proofs.lemmas.List.FromFn.{get_or-range_with_len, length-range_with_len}
use Rattle.std.proofs.Math.Nat.{div-add-mod', mul-le-mul_left, mul-le-mul_right}
use Rattle.zh_districts.specs.Canton.{Canton, Constituency, IsCanton}
use Rattle.zh_divisors.proofs.CallerLemmas.{column_of, row_of}
use Rattle.zh_returns.proofs.CallerLemmas.{HasWidth, in_block, length-blocks}
use Rattle.zh_sheet_text.specs.Layout.{IsPartOf, IsUpTo, SheetLine, label_text, lines_below, sheet_lines}
use Rattle.zh_sheet_text.specs.Layout.{constituency_line, end_line, group_line, head_line, house_line, key_line, list_line, quorum_line}
use Rattle.zh_sheet_text.specs.declared.line.Label.TheVariants as labels
use Rattle.zh_sheet_text.specs.declared.line.SheetPart.{SheetPart}
use Rattle.zh_sheet_text.specs.declared.line.SheetPart.TheVariants.{Fixed, Kind, SeatsKey, UpperKey, ConstituencyDivisor, ConstituencyName, TakesPart, GroupDivisor, GroupName}
use Rattle.zh_sheet_text.proofs.EachLemmas.{Each, all_blocks, all_numbers, each_all}

abbrev rows : Canton → List SheetLine
rows canton = map (constituency_line canton) (range_with_len 1 (length canton.constituencies))

abbrev groups : Canton → List SheetLine
groups canton = map group_line (range_with_len 1 (length canton.groups))

abbrev list_lines : Canton → ℕ → List SheetLine
list_lines canton d = map (list_line canton d) (range_with_len 1 (length canton.groups))

abbrev lists : Canton → List SheetLine
lists canton = flat_map (list_lines canton) (range_with_len 1 (length canton.constituencies))

length-rows : (canton : Canton) → length (rows canton) ≡ length canton.constituencies
length-rows canton =
    length-map (range_with_len 1 (length canton.constituencies)) (constituency_line canton) ∙ length-range_with_len 1 (length canton.constituencies)

length-groups : (canton : Canton) → length (groups canton) ≡ length canton.groups
length-groups canton = length-map (range_with_len 1 (length canton.groups)) group_line ∙ length-range_with_len 1 (length canton.groups)

wide : (canton : Canton) → HasWidth (list_lines canton) (length canton.groups)
wide canton = record { at = λ d. length-map (range_with_len 1 (length canton.groups)) (list_line canton d) ∙ length-range_with_len 1 (length canton.groups) }

length-lists : (canton : Canton) → length (lists canton) ≡ length canton.constituencies * length canton.groups
length-lists canton =
    let m : ℕ = length canton.constituencies in
    let n : ℕ = length canton.groups in
    length-blocks (list_lines canton) n (wide canton) (range_with_len 1 m) ∙ ap (λ k. n * k) (length-range_with_len 1 m) ∙ mul_comm n m

-- the number of lines
pub line_total : (canton : Canton) →
    length (sheet_lines canton) ≡ 6 + length canton.constituencies + length canton.groups + length canton.constituencies * length canton.groups
line_total canton =
    omega (
      arith,
      length-append (rows canton) (groups canton ++ (lists canton ++ end_line ∷ [])),
      length-append (groups canton) (lists canton ++ end_line ∷ []),
      length-append (lists canton) (end_line ∷ []),
      length-rows canton,
      length-groups canton,
      length-lists canton,
    )

few_cells : (m n : ℕ) → m ≤ 32 → n ≤ 32 → m * n ≤ 1024
few_cells m n few_rows few_columns =
    let wide : m * n ≤ m * 32 = mul-le-mul_left m few_columns in
    let high : m * 32 ≤ 32 * 32 = mul-le-mul_right 32 few_rows in
    omega (arith, wide, high)

pub few_lines : (canton : Canton) → IsCanton canton → length (sheet_lines canton) ≤ 1094
few_lines canton is =
    omega (arith, line_total canton, is.constituencies.1, is.groups.1, few_cells (length canton.constituencies) (length canton.groups) is.constituencies.1 is.groups.1)

-- the line at each place
pub row_at : (canton : Canton) (k : ℕ) → k < length canton.constituencies → get_or (lines_below canton) k end_line ≡ constituency_line canton (k + 1)
row_at canton k lt =
    let m : ℕ = length canton.constituencies in
    let number : get_or (range_with_len 1 m) k 0 ≡ k + 1 = get_or-range_with_len 1 m k 0 lt ∙ omega arith in
    get_or_append_left (rows canton) (groups canton ++ (lists canton ++ end_line ∷ [])) end_line k (omega (arith, lt, length-rows canton))
    ∙ (get_or-map (constituency_line canton) (range_with_len 1 m) k 0 end_line (omega (arith, lt, length-range_with_len 1 m))
    ∙ ap (constituency_line canton) number)

past_rows : (canton : Canton) (k : ℕ) → length canton.constituencies ≤ k →
    get_or (lines_below canton) k end_line ≡ get_or (groups canton ++ (lists canton ++ end_line ∷ [])) (k - length canton.constituencies) end_line
past_rows canton k past =
    get_or-append_right (rows canton) (groups canton ++ (lists canton ++ end_line ∷ [])) (length canton.constituencies) k end_line (length-rows canton) past

pub group_at : (canton : Canton) (k : ℕ) → length canton.constituencies ≤ k → k - length canton.constituencies < length canton.groups →
    get_or (lines_below canton) k end_line ≡ group_line (k - length canton.constituencies + 1)
group_at canton k past lt =
    let n : ℕ = length canton.groups in
    let j : ℕ = k - length canton.constituencies in
    let number : get_or (range_with_len 1 n) j 0 ≡ j + 1 = get_or-range_with_len 1 n j 0 lt ∙ omega arith in
    past_rows canton k past
    ∙ (get_or_append_left (groups canton) (lists canton ++ end_line ∷ []) end_line j (omega (arith, lt, length-groups canton))
    ∙ (get_or-map group_line (range_with_len 1 n) j 0 end_line (omega (arith, lt, length-range_with_len 1 n)) ∙ ap group_line number))

past_groups : (canton : Canton) (k : ℕ) → length canton.constituencies ≤ k → length canton.groups ≤ k - length canton.constituencies →
    get_or (lines_below canton) k end_line ≡ get_or (lists canton ++ end_line ∷ []) (k - length canton.constituencies - length canton.groups) end_line
past_groups canton k past further =
    past_rows canton k past
    ∙ get_or-append_right (groups canton) (lists canton ++ end_line ∷ []) (length canton.groups) (k - length canton.constituencies) end_line (length-groups canton) further

pub list_at : (canton : Canton) (k p : ℕ) → length canton.constituencies ≤ k → length canton.groups ≤ k - length canton.constituencies →
    p ≡ k - length canton.constituencies - length canton.groups → p < length canton.constituencies * length canton.groups →
    get_or (lines_below canton) k end_line ≡ list_line canton (p / length canton.groups + 1) (p % length canton.groups + 1)
list_at canton k p past further is lt =
    let m : ℕ = length canton.constituencies in
    let n : ℕ = length canton.groups in
    let d : ℕ = p / n in
    let g : ℕ = p % n in
    let turned : p ≡ n * d + g = omega (arith, div-add-mod' p n, mul_comm d n) in
    let row : get_or (range_with_len 1 m) d 0 ≡ d + 1 = get_or-range_with_len 1 m d 0 (row_of m n p lt) ∙ omega arith in
    let column : get_or (range_with_len 1 n) g 0 ≡ g + 1 = get_or-range_with_len 1 n g 0 (column_of m n p lt) ∙ omega arith in
    past_groups canton k past further
    ∙ (ap (λ q. get_or (lists canton ++ end_line ∷ []) q end_line) (sym is)
    ∙ (get_or_append_left (lists canton) (end_line ∷ []) end_line p (omega (arith, lt, length-lists canton))
    ∙ (ap (λ q. get_or (lists canton) q end_line) turned
    ∙ (in_block (list_lines canton) n (wide canton) (range_with_len 1 m) d g 0 end_line (omega (arith, row_of m n p lt, length-range_with_len 1 m)) (column_of m n p lt)
    ∙ (ap (λ e. get_or (list_lines canton e) g end_line) row
    ∙ (get_or-map (list_line canton (d + 1)) (range_with_len 1 n) g 0 end_line (omega (arith, column_of m n p lt, length-range_with_len 1 n))
    ∙ ap (list_line canton (d + 1)) column))))))

only_end : (k : ℕ) → get_or (end_line ∷ []) k end_line ≡ end_line
only_end zero = refl
only_end (suc k) = refl

pub end_at : (canton : Canton) (k p : ℕ) → length canton.constituencies ≤ k → length canton.groups ≤ k - length canton.constituencies →
    p ≡ k - length canton.constituencies - length canton.groups → length canton.constituencies * length canton.groups ≤ p →
    get_or (lines_below canton) k end_line ≡ end_line
end_at canton k p past further is all =
    past_groups canton k past further
    ∙ (ap (λ q. get_or (lists canton ++ end_line ∷ []) q end_line) (sym is)
    ∙ (get_or-append_right (lists canton) (end_line ∷ []) (length canton.constituencies * length canton.groups) p end_line (length-lists canton) all
    ∙ only_end (p - length canton.constituencies * length canton.groups)))

-- the most bytes that the text of a part has
abbrev pub most : SheetPart → ℕ
most (Fixed label) = length (label_text label)
most Kind = 11
most SeatsKey = 41
most UpperKey = 41
most (ConstituencyDivisor d) = 27
most (ConstituencyName d) = 40
most (TakesPart g) = 3
most (GroupDivisor g) = 27
most (GroupName g) = 40
most part = 20

abbrev pub most_of : List SheetPart → ℕ
most_of [] = 0
most_of (part ∷ parts) = most part + 1 + most_of parts

-- a line has parts, and only the last of them can be a name
abbrev pub is_name_part : SheetPart → Bool
is_name_part (ConstituencyName d) = true
is_name_part (GroupName g) = true
is_name_part part = false

abbrev pub is_laid_out : List SheetPart → Bool
is_laid_out [] = false
is_laid_out (part ∷ []) = true
is_laid_out (part ∷ (next ∷ parts)) = not (is_name_part part) && is_laid_out (next ∷ parts)

-- a line of this set-up: its parts exist, and it is not too long
pub record IsLineOf (canton : Canton) (line : SheetLine) : Type 0 where
  pub parts : Each (IsPartOf canton) line.parts
  pub short : most_of line.parts ≤ 256
  pub laid_out : line.is_there ≡ true → is_laid_out line.parts ≡ true

quorum_fine : (canton : Canton) (quorum : Option ℕ) → IfSome quorum (λ q. (1 ≤ q) × (q ≤ 49)) → IsLineOf canton (quorum_line quorum)
quorum_fine canton None limits = record { parts = tt; short = omega arith; laid_out = λ e. absurd (cc) }
quorum_fine canton (Some q) limits = record { parts = (tt, (tt, (omega (arith, limits.1), tt))); short = omega arith; laid_out = λ there. refl }

few_persons : (xs : List Constituency) (k : ℕ) → All (λ (x : Constituency). (1 ≤ x.persons) × (x.persons ≤ 10000000)) xs →
    option_map_or (λ (x : Constituency). x.persons) (slice_get xs k) 0 ≤ 10000000
few_persons [] k all = omega arith
few_persons (x ∷ xs) zero all = (all 0 x (omega arith)).1
few_persons (x ∷ xs) (suc k) all = few_persons xs k (λ i d within. all (suc i) d (omega arith))

row_fine : (canton : Canton) → IsCanton canton → (d : ℕ) → 1 ≤ d → d < 1 + length canton.constituencies → IsLineOf canton (constituency_line canton d)
row_fine canton is d low high =
    let here : IsUpTo (length canton.constituencies) d = record { from_one = low; there = omega (arith, high) } in
    record {
      parts = (
        tt,
        (
          omega (arith, high, is.constituencies.1),
          (tt, (omega (arith, few_persons canton.constituencies (d - 1) is.persons), (tt, (here, (tt, (here, (tt, (here, (here, tt))))))))),
        ),
      );
      short = omega arith;
      laid_out = λ there. refl;
    }

group_fine : (canton : Canton) → IsCanton canton → (g : ℕ) → 1 ≤ g → g < 1 + length canton.groups → IsLineOf canton (group_line g)
group_fine canton is g low high =
    let here : IsUpTo (length canton.groups) g = record { from_one = low; there = omega (arith, high) } in
    record { parts = (tt, (omega (arith, high, is.groups.1), (tt, (here, (tt, (here, (tt, (here, (tt, (here, (here, tt))))))))))); short = omega arith; laid_out = λ there. refl }

list_fine : (canton : Canton) → IsCanton canton → (d g : ℕ) → 1 ≤ d → d < 1 + length canton.constituencies → 1 ≤ g → g < 1 + length canton.groups →
    IsLineOf canton (list_line canton d g)
list_fine canton is d g low high from_one there =
    let row : IsUpTo (length canton.constituencies) d = record { from_one = low; there = omega (arith, high) } in
    let column : IsUpTo (length canton.groups) g = record { from_one = from_one; there = omega (arith, there) } in
    let here : IsUpTo (length canton.constituencies) d × IsUpTo (length canton.groups) g = (row, column) in
    record {
      parts = (tt, (omega (arith, high, is.constituencies.1), (omega (arith, there, is.groups.1), (tt, (here, (tt, (here, (tt, (here, tt)))))))));
      short = omega arith;
      laid_out = λ there. refl;
    }

-- each line is one of this set-up
pub all_lines : (canton : Canton) → IsCanton canton → All (IsLineOf canton) (sheet_lines canton)
all_lines canton is =
    let P = IsLineOf canton in
    let below : All P (lines_below canton)
    = All-append P (rows canton) (groups canton ++ (lists canton ++ end_line ∷ []))
    (all_numbers P (constituency_line canton) 1 (length canton.constituencies) (row_fine canton is))
    (All-append P (groups canton) (lists canton ++ end_line ∷ []) (all_numbers P group_line 1 (length canton.groups) (group_fine canton is))
    (All-append P (lists canton) (end_line ∷ [])
    (all_blocks P (list_lines canton) 1 (length canton.constituencies) (λ d low high.
    all_numbers P (list_line canton d) 1 (length canton.groups) (λ g from_one there. list_fine canton is d g low high from_one there)))
    (All-cons P end_line [] (record { parts = (tt, tt); short = omega arith; laid_out = λ there. refl }) (All-nil P)))) in
    let four : List SheetLine = quorum_line canton.canton_quorum ∷ lines_below canton in
    let three : List SheetLine = key_line labels.Upper UpperKey ∷ four in
    let two : List SheetLine = key_line labels.Seats SeatsKey ∷ three in
    All-cons P head_line (house_line canton ∷ two) (record { parts = (tt, (tt, (tt, (tt, tt)))); short = omega arith; laid_out = λ there. refl })
    (All-cons P (house_line canton) two (record { parts = (tt, (omega (arith, is.house.1), tt)); short = omega arith; laid_out = λ there. refl })
    (All-cons P (key_line labels.Seats SeatsKey) three (record { parts = (tt, (tt, (tt, tt))); short = omega arith; laid_out = λ there. refl })
    (All-cons P (key_line labels.Upper UpperKey) four (record { parts = (tt, (tt, (tt, tt))); short = omega arith; laid_out = λ there. refl })
    (All-cons P (quorum_line canton.canton_quorum) (lines_below canton) (quorum_fine canton canton.canton_quorum is.canton_quorum) below))))

-- the parts of the line at a place
pub parts_at : (canton : Canton) → IsCanton canton → (k : ℕ) → All (IsPartOf canton) (get_or (sheet_lines canton) k end_line).parts
parts_at canton is k = elim (cases_lt k (length (sheet_lines canton))) [
  | inl lt ↦ each_all (IsPartOf canton) (get_or (sheet_lines canton) k end_line).parts (all_lines canton is k end_line lt).parts
  | inr past ↦
      subst (λ (line : SheetLine). All (IsPartOf canton) line.parts) (sym (get_or_past (sheet_lines canton) k end_line past))
      (each_all (IsPartOf canton) end_line.parts (tt, tt))
]
