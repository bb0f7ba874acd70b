-- What the lines of a sheet give, kind by kind: the first line, the constituencies, the groups and the lists.
use Rattle.std.proofs.Common.{◌≡◌, ℕ, List, [], ◌∷◌, ◌++◌, length, map, flat_map, Option, Some, None, refl, ap, ◌∙◌, append-nil}
use Rattle.std.specs.List.{range_with_len}
use Rattle.std.proofs.lemmas.List.Concat.{flat_map-append, flat_map_single}
use Rattle.std.proofs.lemmas.List.Folds.{flat_map-map}
use Rattle.zh_districts.specs.Canton.{Canton}
use Rattle.zh_sheet_text.specs.Layout.{SheetLine, constituency_line, end_line, group_line, head_line, house_line, key_line, list_line, quorum_line, sheet_lines}
use Rattle.zh_sheet_text.specs.declared.line.Label.TheVariants as labels
use Rattle.zh_sheet_text.specs.declared.line.SheetPart.TheVariants.{SeatsKey, UpperKey}
use Rattle.zh_check.proofs.TableLemmas.{table}

-- the numbers of the constituencies, and of the groups
abbrev pub row_numbers : Canton → List ℕ
row_numbers canton = range_with_len 1 (length canton.constituencies)

abbrev pub group_numbers : Canton → List ℕ
group_numbers canton = range_with_len 1 (length canton.groups)

-- lines that give nothing
nothing : {A : Type 0} (xs : List ℕ) → flat_map {A = A} (λ (k : ℕ). []) xs ≡ []
nothing [] = refl
nothing (x ∷ xs) = nothing xs

of_blocks : {X A : Type 0} (F : X → List A) (f : ℕ → List X) (xs : List ℕ) → flat_map F (flat_map f xs) ≡ flat_map (λ d. flat_map F (f d)) xs
of_blocks F f [] = refl
of_blocks F f (x ∷ xs) = flat_map-append F (f x) (flat_map f xs) ∙ ap (λ t. flat_map F (f x) ++ t) (of_blocks F f xs)

no_quorum : {A : Type 0} (F : SheetLine → List A) → F (quorum_line None) ≡ [] → ((n : ℕ) → F (quorum_line (Some n)) ≡ []) → (quorum : Option ℕ) → F (quorum_line quorum) ≡ []
no_quorum F none some None = none
no_quorum F none some (Some n) = some n

-- one kind of lines after another
abbrev pub in_kinds : {A : Type 0} → (SheetLine → List A) → Canton → List A
in_kinds F canton =
    F head_line ++ (flat_map (λ d. F (constituency_line canton d)) (row_numbers canton) ++ (flat_map (λ g. F (group_line g)) (group_numbers canton)
    ++ flat_map (λ d. flat_map (λ g. F (list_line canton d g)) (group_numbers canton)) (row_numbers canton)))

pub kinds : {A : Type 0} (F : SheetLine → List A) (canton : Canton) → F (house_line canton) ≡ [] → F (key_line labels.Seats SeatsKey) ≡ [] →
    F (key_line labels.Upper UpperKey) ≡ [] → F (quorum_line None) ≡ [] → ((n : ℕ) → F (quorum_line (Some n)) ≡ []) → F end_line ≡ [] →
    flat_map F (sheet_lines canton) ≡ in_kinds F canton
kinds F canton house seats upper none some end =
    let quorum : F (quorum_line canton.canton_quorum) ≡ [] = no_quorum F none some canton.canton_quorum in
    simp (house, seats, upper, quorum, end, flat_map-append, of_blocks, flat_map-map, append-nil)

-- only one kind of lines gives something
abbrev no_rows : {A : Type 0} → Canton → List A
no_rows canton = flat_map (λ (d : ℕ). []) (row_numbers canton)

abbrev no_groups : {A : Type 0} → Canton → List A
no_groups canton = flat_map (λ (g : ℕ). []) (group_numbers canton)

abbrev no_lists : {A : Type 0} → Canton → List A
no_lists canton = flat_map (λ (d : ℕ). no_groups canton) (row_numbers canton)

pub only_first : {A : Type 0} (canton : Canton) (first : List A) → first ++ (no_rows canton ++ (no_groups canton ++ no_lists canton)) ≡ first
only_first canton first = simp (nothing, append-nil)

pub only_rows : {A : Type 0} (canton : Canton) (f : ℕ → A) →
    flat_map (λ d. f d ∷ []) (row_numbers canton) ++ (no_groups canton ++ no_lists canton) ≡ map f (row_numbers canton)
only_rows canton f = simp (nothing, append-nil, flat_map_single)

pub only_groups : {A : Type 0} (canton : Canton) (f : ℕ → A) →
    no_rows canton ++ (flat_map (λ g. f g ∷ []) (group_numbers canton) ++ no_lists canton) ≡ map f (group_numbers canton)
only_groups canton f = simp (nothing, append-nil, flat_map_single)

pub only_lists : {A : Type 0} (canton : Canton) (f : ℕ → ℕ → A) →
    no_rows canton ++ (no_groups canton ++ flat_map (λ d. flat_map (λ g. f d g ∷ []) (group_numbers canton)) (row_numbers canton))
    ≡ table f (group_numbers canton) (length canton.constituencies)
only_lists canton f = simp (nothing, flat_map_single)
