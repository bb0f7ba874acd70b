-- Lines whose parts are words are in their form, and each word is read at its part.
use Rattle.std.proofs.Common.{◌≡◌, ℕ, ◌≤◌, Bool, true, false, cond, All, List, [], ◌∷◌, ◌++◌, map, filter, flat_map, refl, sym, ap, ◌∙◌, arith, append_assoc}
use Rattle.std.specs.Prelude.{not}
use Rattle.std.proofs.lemmas.Bool.{and_parts, not-true}
use Rattle.std.proofs.lemmas.List.Elements.{All-append, All-cons, All-head, All-tail}
use Rattle.zh_districts.specs.Canton.{Canton}
use Rattle.zh_sheet_text.specs.Layout.{IsPartOf, SheetLine}
use Rattle.zh_sheet_text.specs.SheetText.{line_text, joined_parts}
use Rattle.zh_sheet_text.specs.declared.line.SheetPart.{SheetPart}
use Rattle.zh_sheet_text.proofs.CallerLemmas.{Each, IsLineOf, is_laid_out, is_name_part}
use Rattle.zh_check.specs.Form.{in_forms, part_form, parts_form}
use Rattle.zh_check.specs.Lines.{after_if, after_line, after_word, first_line, leading_word, line_if}
use Rattle.zh_check.specs.Reading.{words_at, words_in}
use Rattle.zh_check.proofs.SeamLemmas.{IsPlain, IsWord, line_back, line_front, no_more, word_alone, word_back, word_front, word_plain}

-- the text of a part is a word that is possible there
abbrev pub IsSpelled : Canton → (SheetPart → List ℕ) → SheetPart → Type 0
IsSpelled canton text part = IsWord (text part) × (part_form canton part (text part) ≡ text part)

-- the text of a part is possible at the end of a line
abbrev pub IsLast : Canton → (SheetPart → List ℕ) → SheetPart → Type 0
IsLast canton text part = IsPlain (text part) × (part_form canton part (leading_word (text part)) ≡ text part)

abbrev pub AreSpelled : Canton → (SheetPart → List ℕ) → List SheetPart → Type 0
AreSpelled canton text [] = ⊥
AreSpelled canton text (part ∷ []) = IsLast canton text part
AreSpelled canton text (part ∷ (next ∷ parts)) = IsSpelled canton text part × AreSpelled canton text (next ∷ parts)

-- a line without its end
abbrev pub body : (SheetPart → List ℕ) → List SheetPart → List ℕ
body text [] = []
body text (part ∷ []) = text part
body text (part ∷ (next ∷ parts)) = text part ++ 32 ∷ body text (next ∷ parts)

line_ends : (text : SheetPart → List ℕ) (part : SheetPart) (parts : List SheetPart) → joined_parts text (part ∷ parts) ≡ body text (part ∷ parts) ++ 10 ∷ []
line_ends text part [] = refl
line_ends text part (next ∷ parts) =
    ap (λ t. text part ++ 32 ∷ t) (line_ends text next parts) ∙ sym (append_assoc (text part) (32 ∷ body text (next ∷ parts)) (10 ∷ []))

kept : {A B : Type 0} (f : A → B) (b : Bool) (x : A) (xs : List A) → cond b (f x ∷ []) [] ++ map f xs ≡ map f (cond b (x ∷ xs) xs)
kept f true x xs = refl
kept f false x xs = refl

-- if the line is written, all its parts are such
abbrev pub IsShown : Canton → (SheetPart → List ℕ) → SheetLine → Type 0
IsShown canton text line = line.is_there ≡ true → AreSpelled canton text line.parts

-- the words of a line at the parts that pass a test; empty ones if the line is not written
abbrev pub found_words : (SheetPart → List ℕ) → (SheetPart → Bool) → SheetLine → List (List ℕ)
found_words text test line = map (λ part. leading_word (cond line.is_there (text part) [])) (filter test line.parts)

module _ (canton : Canton) (text : SheetPart → List ℕ) where
  all_spelled : ((part : SheetPart) → IsPartOf canton part → is_name_part part ≡ false → IsSpelled canton text part) →
      ((part : SheetPart) → IsPartOf canton part → IsLast canton text part) → (parts : List SheetPart) → Each (IsPartOf canton) parts → is_laid_out parts ≡ true →
      AreSpelled canton text parts
  all_spelled words last [] of laid = absurd (cc)
  all_spelled words last (part ∷ []) of laid = last part of.0
  all_spelled words last (part ∷ (next ∷ parts)) of laid =
      let both = and_parts (not (is_name_part part)) (is_laid_out (next ∷ parts)) laid in
      (words part of.0 (not-true (is_name_part part) both.0), all_spelled words last (next ∷ parts) of.1 both.1)

  plain : (parts : List SheetPart) → AreSpelled canton text parts → IsPlain (body text parts)
  plain [] are = absurd are
  plain (part ∷ []) are = are.0
  plain (part ∷ (next ∷ parts)) are =
      All-append (λ b. 32 ≤ b) (text part) (32 ∷ body text (next ∷ parts)) (word_plain (text part) are.0.0)
      (All-cons (λ b. 32 ≤ b) 32 (body text (next ∷ parts)) (omega arith) (plain (next ∷ parts) are.1))

  -- the form of the line is the line itself
  formed_line : (parts : List SheetPart) → AreSpelled canton text parts → parts_form canton parts (body text parts) ≡ joined_parts text parts
  formed_line [] are = absurd are
  formed_line (part ∷ []) are = ap (λ t. t ++ 10 ∷ []) are.1
  formed_line (part ∷ (next ∷ parts)) are =
      let rest : List ℕ = body text (next ∷ parts) in
      let line : List ℕ = text part ++ 32 ∷ rest in
      ap (λ w. part_form canton part w ++ 32 ∷ parts_form canton (next ∷ parts) (after_word line)) (word_front (text part) rest are.0.0)
      ∙ (ap (λ t. t ++ 32 ∷ parts_form canton (next ∷ parts) (after_word line)) are.0.1
      ∙ (ap (λ r. text part ++ 32 ∷ parts_form canton (next ∷ parts) r) (word_back (text part) rest are.0.0)
      ∙ ap (λ t. text part ++ 32 ∷ t) (formed_line (next ∷ parts) are.1)))

  -- the words of the line are read
  read_line : (test : SheetPart → Bool) (parts : List SheetPart) → AreSpelled canton text parts →
      words_in test parts (body text parts) ≡ map (λ part. leading_word (text part)) (filter test parts)
  read_line test [] are = absurd are
  read_line test (part ∷ []) are = kept (λ p. leading_word (text p)) (test part) part []
  read_line test (part ∷ (next ∷ parts)) are =
      let rest : List ℕ = body text (next ∷ parts) in
      let more : List (List ℕ) = words_in test (next ∷ parts) (after_word (text part ++ 32 ∷ rest)) in
      let first : leading_word (text part ++ 32 ∷ rest) ≡ leading_word (text part) = word_front (text part) rest are.0.0 ∙ sym (word_alone (text part) are.0.0) in
      ap (λ w. cond (test part) (w ∷ []) [] ++ more) first
      ∙ (ap (λ r. cond (test part) (leading_word (text part) ∷ []) [] ++ words_in test (next ∷ parts) r) (word_back (text part) rest are.0.0)
      ∙ (ap (λ ws. cond (test part) (leading_word (text part) ∷ []) [] ++ ws) (read_line test (next ∷ parts) are.1)
      ∙ kept (λ p. leading_word (text p)) (test part) part (filter test (next ∷ parts))))

  no_words : (test : SheetPart → Bool) (parts : List SheetPart) → words_in test parts [] ≡ map (λ part. leading_word []) (filter test parts)
  no_words test [] = refl
  no_words test (part ∷ parts) =
      ap (λ r. cond (test part) (leading_word [] ∷ []) [] ++ words_in test parts r) no_more
      ∙ (ap (λ ws. cond (test part) (leading_word [] ∷ []) [] ++ ws) (no_words test parts) ∙ kept (λ p. leading_word []) (test part) part (filter test parts))

  words_read : (test : SheetPart → Bool) (b : Bool) (parts : List SheetPart) → (b ≡ true → AreSpelled canton text parts) →
      words_in test parts (cond b (body text parts) []) ≡ map (λ part. leading_word (cond b (text part) [])) (filter test parts)
  words_read test true parts are = read_line test parts (are refl)
  words_read test false parts are = no_words test parts

  -- a line that is written
  whole : (parts : List SheetPart) (more : List ℕ) → AreSpelled canton text parts → joined_parts text parts ++ more ≡ body text parts ++ 10 ∷ more
  whole [] more are = absurd are
  whole (part ∷ parts) more are = ap (λ l. l ++ more) (line_ends text part parts) ∙ append_assoc (body text (part ∷ parts)) (10 ∷ []) more

  line_read : (b : Bool) (parts : List SheetPart) (more : List ℕ) → (b ≡ true → AreSpelled canton text parts) →
      line_if b (cond b (joined_parts text parts) [] ++ more) ≡ cond b (body text parts) []
  line_read true parts more are = ap first_line (whole parts more (are refl)) ∙ line_front (body text parts) more (plain parts (are refl))
  line_read false parts more are = refl

  line_past : (b : Bool) (parts : List SheetPart) (more : List ℕ) → (b ≡ true → AreSpelled canton text parts) →
      after_if b (cond b (joined_parts text parts) [] ++ more) ≡ more
  line_past true parts more are = ap after_line (whole parts more (are refl)) ∙ line_back (body text parts) more (plain parts (are refl))
  line_past false parts more are = refl

  line_formed : (b : Bool) (parts : List SheetPart) (more : List ℕ) → (b ≡ true → AreSpelled canton text parts) →
      cond b (parts_form canton parts (first_line (cond b (joined_parts text parts) [] ++ more))) [] ≡ cond b (joined_parts text parts) []
  line_formed true parts more are = ap (parts_form canton parts) (line_read true parts more are) ∙ formed_line parts (are refl)
  line_formed false parts more are = refl

  -- lines, one after another
  pub all_shown : ((part : SheetPart) → IsPartOf canton part → is_name_part part ≡ false → IsSpelled canton text part) →
      ((part : SheetPart) → IsPartOf canton part → IsLast canton text part) → (lines : List SheetLine) → All (IsLineOf canton) lines → All (IsShown canton text) lines
  all_shown words last lines all k d lt there =
      let of : IsLineOf canton _ = all k d lt in
      all_spelled words last _ of.parts (of.laid_out there)

  pub lines_formed : (lines : List SheetLine) → All (IsShown canton text) lines → in_forms canton lines (flat_map (line_text text) lines) ≡ flat_map (line_text text) lines
  lines_formed [] each = refl
  lines_formed (line ∷ lines) each =
      let more : List ℕ = flat_map (line_text text) lines in
      let here : IsShown canton text line = All-head (IsShown canton text) line lines each in
      ap (λ t. t ++ in_forms canton lines (after_if line.is_there (line_text text line ++ more))) (line_formed line.is_there line.parts more here)
      ∙ (ap (λ t. line_text text line ++ in_forms canton lines t) (line_past line.is_there line.parts more here)
      ∙ ap (λ t. line_text text line ++ t) (lines_formed lines (All-tail (IsShown canton text) line lines each)))

  pub lines_read : (test : SheetPart → Bool) (lines : List SheetLine) → All (IsShown canton text) lines →
      words_at test lines (flat_map (line_text text) lines) ≡ flat_map (found_words text test) lines
  lines_read test [] each = refl
  lines_read test (line ∷ lines) each =
      let more : List ℕ = flat_map (line_text text) lines in
      let here : IsShown canton text line = All-head (IsShown canton text) line lines each in
      let others : List (List ℕ) = words_at test lines (after_if line.is_there (line_text text line ++ more)) in
      ap (λ l. words_in test line.parts l ++ others) (line_read line.is_there line.parts more here)
      ∙ (ap (λ ws. ws ++ others) (words_read test line.is_there line.parts here)
      ∙ (ap (λ t. found_words text test line ++ words_at test lines t) (line_past line.is_there line.parts more here)
      ∙ ap (λ ws. found_words text test line ++ ws) (lines_read test lines (All-tail (IsShown canton text) line lines each))))
