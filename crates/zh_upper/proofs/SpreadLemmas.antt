-- The seats of the groups that take part, spread over all groups one group at a time.
use Rattle.std.proofs.Common.{◌≡◌, ℕ, suc, ◌+◌, ◌<◌, Bool, true, false, Some, List, [], ◌∷◌, ◌++◌, length, cond, count_by, get_or, take, drop, slice_get, refl, ap, sym, ◌∙◌, length-append, append-nil, add-one, arith, below_more}
use Rattle.std.proofs.Math.Seq.{drop-cons, get_or-append_seam}
use Rattle.std.proofs.lemmas.List.{drop_all, take_all, take_more, length-take-le, get_or_append_left}
use Rattle.std.proofs.lemmas.List.Sums.{sum_by-cons}
use Rattle.std.proofs.lemmas.Option.{get_or_from_slice_get, slice_get_within}
use Rattle.zh_upper.specs.UpperSeats.{of_participants}
use Rattle.zh_upper.proofs.ParticipantLemmas.{of_participants-append}

-- the first i groups have their seats, and the first `next` of the seats of the groups that take part are used
pub record IsSpread (seats : List ℕ) (taking : List Bool) (all : List ℕ) (next i : ℕ) : Type 0 where
  pub one_each : length all ≡ i
  pub left : next + count_by (λ b. b) (drop i taking) ≡ length seats
  pub participants : of_participants all (take i taking) ≡ take next seats
  pub others : (g : ℕ) → g < i → slice_get taking g ≡ Some false → get_or all g 0 ≡ 0

-- before the first group
pub IsSpread-none : (seats : List ℕ) (taking : List Bool) (all : List ℕ) → length seats ≡ count_by (λ b. b) taking → all ≡ [] → IsSpread seats taking all 0 0
IsSpread-none seats taking all same none = record {
  one_each = ap length none;
  left = omega (arith, same);
  participants = ap (λ xs. of_participants xs []) none;
  others = λ g lt. absurd (omega (arith, lt));
}

-- how many of the groups from i on take part
count-drop : (taking : List Bool) (i : ℕ) (takes_part : Bool) → i < length taking → get_or taking i takes_part ≡ takes_part →
    count_by (λ b. b) (drop i taking) ≡ cond takes_part 1 0 + count_by (λ b. b) (drop (i + 1) taking)
count-drop taking i takes_part lt is =
    let split : drop i taking ≡ takes_part ∷ drop (suc i) taking = drop-cons taking i takes_part lt ∙ ap (λ b. b ∷ drop (suc i) taking) is in
    rw (add-one, split) (sum_by-cons (λ b. cond b 1 0) takes_part (drop (suc i) taking))

pub IsSpread-next : (seats : List ℕ) (taking : List Bool) (all : List ℕ) (next i : ℕ) → IsSpread seats taking all next i →
    i < length taking → get_or taking i true ≡ true → next < length seats
IsSpread-next seats taking all next i is lt takes_part = omega (arith, is.left, count-drop taking i true lt takes_part)

append-participants : (seats : List ℕ) (taking : List Bool) (all : List ℕ) (next i n : ℕ) (takes_part : Bool) →
    IsSpread seats taking all next i → i < length taking → get_or taking i takes_part ≡ takes_part →
    of_participants (all ++ n ∷ []) (take (i + 1) taking) ≡ take next seats ++ cond takes_part (n ∷ []) []
append-participants seats taking all next i n takes_part is lt here =
    let longer : take (i + 1) taking ≡ take i taking ++ takes_part ∷ []
    = take_more taking i takes_part lt ∙ ap (λ b. take i taking ++ b ∷ []) here in
    let same : length all ≡ length (take i taking) = is.one_each ∙ sym (length-take-le i taking (omega arith)) in
    ap (of_participants (all ++ n ∷ [])) longer ∙ (of_participants-append all (take i taking) n takes_part same
    ∙ ap (λ xs. xs ++ cond takes_part (n ∷ []) []) is.participants)

append-others : (taking : List Bool) (all : List ℕ) (i n : ℕ) → length all ≡ i →
    ((g : ℕ) → g < i → slice_get taking g ≡ Some false → get_or all g 0 ≡ 0) → (slice_get taking i ≡ Some false → n ≡ 0) →
    (g : ℕ) → g < i + 1 → slice_get taking g ≡ Some false → get_or (all ++ n ∷ []) g 0 ≡ 0
append-others taking all i n long before here =
    below_more (λ g. slice_get taking g ≡ Some false → get_or (all ++ n ∷ []) g 0 ≡ 0) i
    (λ g lt none. get_or_append_left all (n ∷ []) 0 g (omega arith) ∙ before g lt none)
    (λ none. ap (λ k. get_or (all ++ n ∷ []) k 0) (sym long) ∙ (get_or-append_seam all n [] 0 ∙ here none))

-- a group that takes part gets the next seats
pub IsSpread-seated : (seats : List ℕ) (taking : List Bool) (all : List ℕ) (next i n : ℕ) → IsSpread seats taking all next i →
    i < length taking → get_or taking i true ≡ true → n ≡ get_or seats next 0 →
    IsSpread seats taking (all ++ n ∷ []) (next + 1) (i + 1)
IsSpread-seated seats taking all next i n is lt takes_part n_is = record {
  one_each = omega (arith, length-append {A = ℕ}, is.one_each);
  left = omega (arith, is.left, count-drop taking i true lt takes_part);
  participants =
      append-participants seats taking all next i n true is lt takes_part
      ∙ (ap (λ m. take next seats ++ m ∷ []) n_is
      ∙ sym (take_more seats next 0 (IsSpread-next seats taking all next i is lt takes_part)));
  others = append-others taking all i n is.one_each is.others
      (λ none. let read : get_or taking i true ≡ false = get_or_from_slice_get taking i false true none in cc);
}

-- a group that does not take part gets 0
pub IsSpread-unseated : (seats : List ℕ) (taking : List Bool) (all : List ℕ) (next i : ℕ) → IsSpread seats taking all next i →
    i < length taking → get_or taking i false ≡ false →
    IsSpread seats taking (all ++ 0 ∷ []) next (i + 1)
IsSpread-unseated seats taking all next i is lt none = record {
  one_each = omega (arith, length-append {A = ℕ}, is.one_each);
  left = omega (arith, is.left, count-drop taking i false lt none);
  participants = append-participants seats taking all next i 0 false is lt none ∙ append-nil (take next seats);
  others = append-others taking all i 0 is.one_each is.others (λ _. refl);
}

-- after the last group
pub IsSpread-one_each : (seats : List ℕ) (taking : List Bool) (all : List ℕ) (next i : ℕ) → IsSpread seats taking all next i →
    i ≡ length taking → length all ≡ length taking
IsSpread-one_each seats taking all next i is last = is.one_each ∙ last

pub IsSpread-participants : (seats : List ℕ) (taking : List Bool) (all : List ℕ) (next i : ℕ) → IsSpread seats taking all next i →
    i ≡ length taking → of_participants all taking ≡ seats
IsSpread-participants seats taking all next i is last =
    let none_left : drop i taking ≡ [] = drop_all i taking (omega (arith, last)) in
    let all_seats : next ≡ length seats = omega (arith, is.left, ap (count_by (λ b. b)) none_left) in
    let whole : take i taking ≡ taking = take_all i taking (omega (arith, last)) in
    ap (of_participants all) (sym whole) ∙ (is.participants ∙ take_all next seats (omega (arith, all_seats)))

pub IsSpread-others : (seats : List ℕ) (taking : List Bool) (all : List ℕ) (next i : ℕ) → IsSpread seats taking all next i →
    i ≡ length taking → (g : ℕ) → slice_get taking g ≡ Some false → get_or all g 0 ≡ 0
IsSpread-others seats taking all next i is last g none =
    is.others g (omega (arith, last, slice_get_within taking g false none)) none
