-- Splitting into lines a text that comes in pieces.
use Rattle.std.proofs.Common.{◌≡◌, ℕ, zero, suc, ◌==◌, ◌+◌, ◌-◌, ◌<◌, if◌then◌else◌, Bool, true, false, ◌||◌, List, [], ◌∷◌, ◌++◌, take}
use Rattle.std.proofs.Common.{length, refl, sym, ap, ◌∙◌, subst, arith, append_assoc, lit≤, min, drop, add-one, length-drop, drop-cons}
use Rattle.std.specs.List.{list_any}
use Rattle.std.specs.Prelude.{slice_index_or}
use Rattle.std.proofs.lemmas.List.Folds.{list_any_none}
use Rattle.std.proofs.lemmas.List.Elements.{All-from_get_or}
use Rattle.std.proofs.lemmas.Bool.{eqb-true}
use Rattle.std.proofs.lemmas.List.{append-nil, take-take, take_min, take_all, length-take-le, take-append-drop, get_or-take}
use Rattle.std.proofs.Math.Seq.{take-append-add}
use Rattle.std.proofs.Math.Nat.{min_comm}
use Rattle.zh_office.specs.Text.{HasNoEnd, onto_first, ended, unfinished, truncated, ended_lines, last_line}

or_false : (a b : Bool) → a || b ≡ false → (a ≡ false) × (b ≡ false)
or_false false b h = (refl, h)
or_false true b h = cc

-- a text without an LF has no ended line
pub ended_none : (text : List ℕ) → HasNoEnd text → ended text ≡ []
ended_none [] h = refl
ended_none (byte ∷ text) h =
    let p = or_false (byte == 10) (list_any (λ b. b == 10) text) h in rw p.0 (rw (ended_none text p.1) refl)

pub unfinished_all : (text : List ℕ) → HasNoEnd text → unfinished text ≡ text
unfinished_all [] h = refl
unfinished_all (byte ∷ text) h = rw h refl

-- the first line ends at the first LF
pub ended_first : (line text : List ℕ) → HasNoEnd line → ended (line ++ 10 ∷ text) ≡ line ∷ ended text
ended_first [] text h = refl
ended_first (byte ∷ line) text h =
    let p = or_false (byte == 10) (list_any (λ b. b == 10) line) h in rw p.0 (rw (ended_first line text p.1) refl)

-- the text has an LF
has_end : (line text : List ℕ) → list_any (λ b. b == 10) (line ++ 10 ∷ text) ≡ true
has_end [] text = refl
has_end (byte ∷ line) text = elim (byte == 10) as (λ v. v || list_any (λ b. b == 10) (line ++ 10 ∷ text) ≡ true) [ true ↦ refl | false ↦ has_end line text ]

pub unfinished_first : (line text : List ℕ) → HasNoEnd line → unfinished (line ++ 10 ∷ text) ≡ unfinished text
unfinished_first [] text h = refl
unfinished_first (byte ∷ line) text h =
    let p = or_false (byte == 10) (list_any (λ b. b == 10) line) h in rw (has_end (byte ∷ line) text) (unfinished_first line text p.1)

-- the unfinished text has no LF
pub unfinished_has_no_end : (text : List ℕ) → HasNoEnd (unfinished text)
unfinished_has_no_end [] = refl
unfinished_has_no_end (byte ∷ text) =
    elim (list_any (λ b. b == 10) (byte ∷ text)) as (λ v. list_any (λ b. b == 10) (byte ∷ text) ≡ v → HasNoEnd (if v then unfinished text else byte ∷ text)) [
      | true ↦ λ _. unfinished_has_no_end text
      | false ↦ λ h. h
    ] refl

-- two texts without an LF have none together
pub HasNoEnd-append : (a b : List ℕ) → HasNoEnd a → HasNoEnd b → HasNoEnd (a ++ b)
HasNoEnd-append [] b ha hb = hb
HasNoEnd-append (byte ∷ a) b ha hb =
    let p = or_false (byte == 10) (list_any (λ x. x == 10) a) ha in rw p.0 (HasNoEnd-append a b p.1 hb)

pub HasNoEnd-take : (n : ℕ) (a : List ℕ) → HasNoEnd a → HasNoEnd (take n a)
HasNoEnd-take zero a h = refl
HasNoEnd-take (suc n) [] h = refl
HasNoEnd-take (suc n) (byte ∷ a) h =
    let p = or_false (byte == 10) (list_any (λ x. x == 10) a) h in rw p.0 (HasNoEnd-take n a p.1)

length-onto_first : (byte : ℕ) (ls : List (List ℕ)) → length (onto_first byte ls) ≡ length ls
length-onto_first byte [] = refl
length-onto_first byte (l ∷ ls) = refl

-- a text with an LF has an ended line
ended_some : (a : List ℕ) → list_any (λ b. b == 10) a ≡ true → 0 < length (ended a)
ended_some [] h = cc
ended_some (byte ∷ a) h =
    elim (byte == 10) as (λ v. v || list_any (λ b. b == 10) a ≡ true → 0 < length (if v then [] ∷ ended a else onto_first byte (ended a))) [
      | true ↦ λ _. omega arith
      | false ↦ λ rest. rw (length-onto_first byte (ended a)) (ended_some a rest)
    ] h

onto_first-append : (byte : ℕ) (xs ys : List (List ℕ)) → 0 < length xs → onto_first byte (xs ++ ys) ≡ onto_first byte xs ++ ys
onto_first-append byte [] ys h = absurd (omega arith)
onto_first-append byte (x ∷ xs) ys h = refl

has_end-append : (a b : List ℕ) → list_any (λ x. x == 10) a ≡ true → list_any (λ x. x == 10) (a ++ b) ≡ true
has_end-append [] b h = cc
has_end-append (byte ∷ a) b h =
    elim (byte == 10) as (λ v. v || list_any (λ x. x == 10) a ≡ true → v || list_any (λ x. x == 10) (a ++ b) ≡ true) [
      | true ↦ λ _. refl
      | false ↦ λ rest. has_end-append a b rest
    ] h

-- the ended lines of two texts: those of the first, then those of its unfinished text and the second
pub ended-append : (a b : List ℕ) → ended (a ++ b) ≡ ended a ++ ended (unfinished a ++ b)
ended-append [] b = refl
ended-append (byte ∷ a) b =
    elim (byte == 10) as (λ v. byte == 10 ≡ v → ended (byte ∷ (a ++ b)) ≡ ended (byte ∷ a) ++ ended (unfinished (byte ∷ a) ++ b)) [
      | true ↦ λ is. rw is (ap (λ ls. [] ∷ ls) (ended-append a b))
      | false ↦ λ is. elim (list_any (λ x. x == 10) a) as (λ w. list_any (λ x. x == 10) a ≡ w → ended (byte ∷ (a ++ b)) ≡ ended (byte ∷ a) ++ ended (unfinished (byte ∷ a) ++ b)) [
        | true ↦ λ some. rw (is, some, ended-append a b) (onto_first-append byte (ended a) (ended (unfinished a ++ b)) (ended_some a some))
        | false ↦ λ none. rw (is, none, ended_none a none, is) refl
      ] refl
    ] refl

pub unfinished-append : (a b : List ℕ) → unfinished (a ++ b) ≡ unfinished (unfinished a ++ b)
unfinished-append [] b = refl
unfinished-append (byte ∷ a) b =
    elim (byte == 10) as (λ v. byte == 10 ≡ v → unfinished (byte ∷ (a ++ b)) ≡ unfinished (unfinished (byte ∷ a) ++ b)) [
      | true ↦ λ is. rw is (unfinished-append a b)
      | false ↦ λ is. elim (list_any (λ x. x == 10) a) as (λ w. list_any (λ x. x == 10) a ≡ w → unfinished (byte ∷ (a ++ b)) ≡ unfinished (unfinished (byte ∷ a) ++ b)) [
        | true ↦ λ some. rw (is, some, has_end-append a b some) (unfinished-append a b)
        | false ↦ λ none. rw (is, none, is) refl
      ] refl
    ] refl

-- texts with the same prefix still have it after the same text is appended
pub take-append_same : (n : ℕ) (p u b : List ℕ) → take n p ≡ take n u → take n (p ++ b) ≡ take n (u ++ b)
take-append_same zero p u b h = refl
take-append_same (suc n) [] [] b h = refl
take-append_same (suc n) [] (y ∷ u) b h = cc
take-append_same (suc n) (x ∷ p) [] b h = cc
take-append_same (suc n) (x ∷ p) (y ∷ u) b h =
    let heads : x ≡ y = cc in
    let tails : take n p ≡ take n u = cc in
    rw (heads, take-append_same n p u b tails) refl

-- the ended lines depend only on what counts of the unfinished text before them
pub ended_lines-truncated : (p u b : List ℕ) → HasNoEnd p → HasNoEnd u → truncated p ≡ truncated u → ended_lines (p ++ b) ≡ ended_lines (u ++ b)
ended_lines-truncated p u [] hp hu h = rw (append-nil p, append-nil u, ended_none p hp, ended_none u hu) refl
ended_lines-truncated p u (byte ∷ b) hp hu h =
    elim (byte == 10) as (λ v. byte == 10 ≡ v → ended_lines (p ++ byte ∷ b) ≡ ended_lines (u ++ byte ∷ b)) [
      | true ↦ λ is. let lf : byte ≡ 10 = eqb-true byte 10 is in rw (lf, ended_first p b hp, ended_first u b hu, h) refl
      | false ↦ λ is.
          let one : HasNoEnd (byte ∷ []) = rw is refl in
          let more = ended_lines-truncated (p ++ byte ∷ []) (u ++ byte ∷ []) b (HasNoEnd-append p (byte ∷ []) hp one) (HasNoEnd-append u (byte ∷ []) hu one) (take-append_same 121 p u (byte ∷ []) h) in
          subst (λ xs. ended_lines xs ≡ ended_lines (u ++ byte ∷ b)) (append_assoc p (byte ∷ []) b)
          (subst (λ xs. ended_lines ((p ++ byte ∷ []) ++ b) ≡ ended_lines xs) (append_assoc u (byte ∷ []) b) more)
    ] refl

-- so does what counts of the unfinished text after them
pub unfinished-truncated : (p u b : List ℕ) → HasNoEnd p → HasNoEnd u → truncated p ≡ truncated u → truncated (unfinished (p ++ b)) ≡ truncated (unfinished (u ++ b))
unfinished-truncated p u [] hp hu h = rw (append-nil p, append-nil u, unfinished_all p hp, unfinished_all u hu) h
unfinished-truncated p u (byte ∷ b) hp hu h =
    elim (byte == 10) as (λ v. byte == 10 ≡ v → truncated (unfinished (p ++ byte ∷ b)) ≡ truncated (unfinished (u ++ byte ∷ b))) [
      | true ↦ λ is. let lf : byte ≡ 10 = eqb-true byte 10 is in rw (lf, unfinished_first p b hp, unfinished_first u b hu) refl
      | false ↦ λ is.
          let one : HasNoEnd (byte ∷ []) = rw is refl in
          let more = unfinished-truncated (p ++ byte ∷ []) (u ++ byte ∷ []) b (HasNoEnd-append p (byte ∷ []) hp one) (HasNoEnd-append u (byte ∷ []) hu one) (take-append_same 121 p u (byte ∷ []) h) in
          subst (λ xs. truncated (unfinished xs) ≡ truncated (unfinished (u ++ byte ∷ b))) (append_assoc p (byte ∷ []) b)
          (subst (λ xs. truncated (unfinished ((p ++ byte ∷ []) ++ b)) ≡ truncated (unfinished xs)) (append_assoc u (byte ∷ []) b) more)
    ] refl

-- a last line depends only on what counts of it
pub last_line-truncated : (a b : List ℕ) → truncated a ≡ truncated b → last_line a ≡ last_line b
last_line-truncated [] [] h = refl
last_line-truncated [] (y ∷ b) h = cc
last_line-truncated (x ∷ a) [] h = cc
last_line-truncated (x ∷ a) (y ∷ b) h = rw h refl

pub truncated-truncated : (a : List ℕ) → truncated (truncated a) ≡ truncated a
truncated-truncated a = take-take 121 121 a (lit≤ tt)

-- a line with room takes as many bytes as it has room for
pub truncated-room : (n room : ℕ) (line more : List ℕ) → room + length line ≡ n → take n (line ++ more) ≡ line ++ take (min (length more) room) more
truncated-room n room line more h =
    let whole : length line + room ≡ n = omega (arith, h) in
    rw (← whole, take-append-add line more room, min_comm (length more) room, take_min room more) refl

false_from_not : (b : Bool) → (b ≡ true → ⊥) → b ≡ false
false_from_not false h = refl
false_from_not true h = absurd (h refl)

-- a text in which no byte is an LF
pub none_found : (text : List ℕ) → ((k : ℕ) → k < length text → (slice_index_or text k 0 == 10) ≡ true → ⊥) → HasNoEnd text
none_found text none = list_any_none (λ b. b == 10) text (All-from_get_or (λ b. (b == 10) ≡ false) text 0 (λ k k_in. false_from_not (slice_index_or text k 0 == 10) (none k k_in)))

-- the first LF divides a text
pub parted : (text : List ℕ) (end : ℕ) → end < length text → (slice_index_or text end 0 == 10) ≡ true → ((k : ℕ) → k < end → (slice_index_or text k 0 == 10) ≡ true → ⊥)
    → HasNoEnd (take end text) × (text ≡ take end text ++ 10 ∷ take (length text - (end + 1)) (drop (end + 1) text))
parted text end end_in is none =
    let front : length (take end text) ≡ end = length-take-le end text (omega arith) in
    let behind : take (length text - (end + 1)) (drop (end + 1) text) ≡ drop (end + 1) text = take_all _ _ (omega (arith, length-drop (end + 1) text)) in (
      none_found (take end text) (λ k k_in. λ lf.
          let below : k < end = omega (arith, front) in
          none k below (subst (λ b. (b == 10) ≡ true) (get_or-take end text k 0 below) lf)),
      sym (take-append-drop end text) ∙ ap (λ xs. take end text ++ xs)
          (drop-cons text end 0 end_in ∙ ap (λ b. b ∷ drop (suc end) text) (eqb-true (slice_index_or text end 0) 10 is)
          ∙ ap (λ n. 10 ∷ drop n text) (sym (add-one end)) ∙ ap (λ xs. 10 ∷ xs) (sym behind)),
    )
