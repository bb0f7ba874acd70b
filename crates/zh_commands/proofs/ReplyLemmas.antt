-- Replies with the same bytes are equal.
use Rattle.std.proofs.Common.{◌≡◌, ℕ, ◌<◌, ◌^◌, true, Some, None, List, [], ◌∷◌, ◌++◌, get_or, drop, decimal, sym, ap, ◌∙◌, refl, arith, rules}
use Rattle.std.specs.Str.{bytes_eq}
use Rattle.std.proofs.lemmas.Fmt.{decimal_is_IsNumeral, decimal_injective}
use Rattle.std.proofs.lemmas.List.{append_cancel_right}
use Rattle.std.proofs.lemmas.Slice.Eq.{bytes_eq-Decides}
use Rattle.std.proofs.lemmas.Str.Parse.{digit_at}
use Rattle.zh_returns.specs.declared.judgement.Reason.TheVariants as reasons
use Rattle.zh_returns.specs.declared.row.RowFault.TheVariants as row_faults
use Rattle.zh_sheet.specs.Refusals.{IsSheetRefusal, refusal_name}
use Rattle.zh_sheet.specs.declared.fault.SheetRefusal.{SheetRefusal}
use Rattle.zh_sheet.proofs.CallerLemmas.{read_back, refusal_named}
use Rattle.zh_commands.specs.declared.replies.Reply.{Reply}
use Rattle.zh_commands.specs.declared.replies.Reply.TheVariants.{Held}
use Rattle.zh_commands.specs.declared.replies.Refusal.{Refusal}
use Rattle.zh_commands.specs.declared.replies.Refusal.TheVariants as refusals
use Rattle.zh_commands.specs.Replies.{name, answer, reply_text, IsRefusal, IsReply}
use Rattle.zh_commands.proofs.SplitLemmas.{IsWord-decimal, first_word-append, split_is}

-- The bytes of two texts are compared one by one, up to the first difference or up to numerals. These lemmas say what follows once numerals
-- are reached.

-- numerals with the same bytes are of the same number
one_number : (m n : ℕ) → m < 2 ^ 64 → n < 2 ^ 64 → bytes_eq (decimal m) (decimal n) ≡ true → m ≡ n
one_number m n small fits same = decimal_injective m n (omega (arith, small)) (omega (arith, fits)) ((bytes_eq-Decides (decimal m) (decimal n)).0 same)

-- numerals that end at a space, and what follows them
parts_are : (m n : ℕ) (s t : List ℕ) → m < 2 ^ 64 → n < 2 ^ 64 → bytes_eq (decimal m ++ 32 ∷ s) (decimal n ++ 32 ∷ t) ≡ true → (m ≡ n) × (s ≡ t)
parts_are m n s t small fits same =
    let text = decimal m ++ 32 ∷ s in
    let first = first_word-append (decimal m) (32 ∷ s) (IsWord-decimal m small) refl in
    let (numeral, rest) = split_is text (decimal m) (32 ∷ s) (decimal n) (32 ∷ t) (sym first) refl (IsWord-decimal n fits) refl ((bytes_eq-Decides text (decimal n ++ 32 ∷ t)).0 same) in
    (decimal_injective m n (omega (arith, small)) (omega (arith, fits)) numeral, ap (drop 1) rest)

first_number : (m n : ℕ) (s t : List ℕ) → m < 2 ^ 64 → n < 2 ^ 64 → bytes_eq (decimal m ++ 32 ∷ s) (decimal n ++ 32 ∷ t) ≡ true → m ≡ n
first_number m n s t small fits same = (parts_are m n s t small fits same).0

second_number : (m n : ℕ) (s t : List ℕ) → m < 2 ^ 64 → n < 2 ^ 64 → bytes_eq (decimal m ++ 32 ∷ s) (decimal n ++ 32 ∷ t) ≡ true → bytes_eq s t ≡ true
second_number m n s t small fits same = (bytes_eq-Decides s t).1 (parts_are m n s t small fits same).1

-- a numeral does not begin with a letter, that is, with a byte above 57
no_letter : (n letter : ℕ) (text : List ℕ) → n < 2 ^ 64 → 57 < letter → bytes_eq (letter ∷ text) (decimal n) ≡ true → ⊥
no_letter n letter text small above same =
    let is = (decimal_is_IsNumeral n small).0 in
    let digit = digit_at (decimal n) 0 is.1 is.0 in
    let e = (bytes_eq-Decides (letter ∷ text) (decimal n)).0 same in
    omega (arith, digit.1, above, ap (λ (bytes : List ℕ). get_or bytes 0 0) e)

no_number : (n letter : ℕ) (text : List ℕ) → n < 2 ^ 64 → 57 < letter → bytes_eq (decimal n) (letter ∷ text) ≡ true → ⊥
no_number n letter text small above same =
    no_letter n letter text small above ((bytes_eq-Decides (letter ∷ text) (decimal n)).1 (sym ((bytes_eq-Decides (decimal n) (letter ∷ text)).0 same)))

-- refusals of a sheet can be read back from their names
sheet_same : (r s : SheetRefusal) → IsSheetRefusal r → IsSheetRefusal s → bytes_eq (refusal_name r) (refusal_name s) ≡ true → r ≡ s
sheet_same r s is are same =
    let e : Some r ≡ Some s = sym (read_back r is) ∙ ap refusal_named ((bytes_eq-Decides (refusal_name r) (refusal_name s)).0 same) ∙ read_back s are in cc

-- no other refusal has such a name
sheet_other : (r : SheetRefusal) (other : Refusal) → IsSheetRefusal r → refusal_named (name other) ≡ None → bytes_eq (refusal_name r) (name other) ≡ true → refusals.Sheet r ≡ other
sheet_other r other is none same =
    let e : Some r ≡ None = sym (read_back r is) ∙ ap refusal_named ((bytes_eq-Decides (refusal_name r) (name other)).0 same) ∙ none in absurd (cc)

other_sheet : (other : Refusal) (r : SheetRefusal) → IsSheetRefusal r → refusal_named (name other) ≡ None → bytes_eq (name other) (refusal_name r) ≡ true → other ≡ refusals.Sheet r
other_sheet other r is none same =
    let e : Some r ≡ None = sym (read_back r is) ∙ ap refusal_named (sym ((bytes_eq-Decides (name other) (refusal_name r)).0 same)) ∙ none in absurd (cc)

ruleset told_apart = (rules, one_number, first_number, second_number, no_letter, no_number, sheet_same, sheet_other, other_sheet)

-- refusals with the same name are equal: each case is compared with every other
name_same : (a b : Refusal) → IsRefusal a → IsRefusal b → bytes_eq (name a) (name b) ≡ true → a ≡ b
name_same (refusals.Judged reasons.Stale) = elim [
  | refusals.Judged reasons.Stale ↦ λ is are same. search told_apart
  | refusals.Row row_faults.Twice ↦ λ is are same. search told_apart
  | _ ↦ λ is are same. search told_apart
]
name_same (refusals.Row row_faults.Twice) = elim [
  | refusals.Judged reasons.Stale ↦ λ is are same. search told_apart
  | refusals.Row row_faults.Twice ↦ λ is are same. search told_apart
  | _ ↦ λ is are same. search told_apart
]
name_same a = elim [
  | refusals.Judged reasons.Stale ↦ λ is are same. search told_apart
  | refusals.Row row_faults.Twice ↦ λ is are same. search told_apart
  | _ ↦ λ is are same. search told_apart
]

-- replies with the same answer are equal
answer_same : (a b : Reply) → IsReply a → IsReply b → bytes_eq (answer a) (answer b) ≡ true → a ≡ b
answer_same (Held j) = elim [
  | Held k ↦ λ is are same. search told_apart
  | _ ↦ λ is are same. search told_apart
]
answer_same a = elim [
  | Held k ↦ λ is are same. search (told_apart, name_same)
  | _ ↦ λ is are same. search (told_apart, name_same)
]

-- replies with the same bytes are the same reply to the same desk
pub reply_same : (d e : ℕ) (a b : Reply) → d < 2 ^ 8 → e < 2 ^ 8 → IsReply a → IsReply b → reply_text d a ≡ reply_text e b → (d ≡ e) × (a ≡ b)
reply_same d e a b small fits is are same =
    let body = append_cancel_right (decimal d ++ 32 ∷ answer a) (decimal e ++ 32 ∷ answer b) (10 ∷ []) same in
    let (desk, answers) = parts_are d e (answer a) (answer b) (omega arith) (omega arith) ((bytes_eq-Decides (decimal d ++ 32 ∷ answer a) (decimal e ++ 32 ∷ answer b)).1 body) in
    (desk, answer_same a b is are ((bytes_eq-Decides (answer a) (answer b)).1 answers))
