-- Seats under a divisor that puts some weights on a half, and all other fits.
use Rattle.std.proofs.Common.{◌≡◌, ◌≢◌, ◌∙◌, ℕ, zero, suc, ◌+◌, ◌-◌, ◌*◌, ◌<◌, ◌≤◌, List, [], ◌∷◌, ◌++◌, length, get_or, map, set, take, sum, sum_by, ap, sym, inl, inr, ⊎_elim, arith}
use Rattle.std.proofs.lemmas.Bool.{cases_lt, cases_eq}
use Rattle.std.proofs.lemmas.List.{get_or-map, get_or-set_other, get_or-set_same, length-map, length-set, map_more}
use Rattle.std.proofs.lemmas.List.Sums.{get_or-le-sum_by, sum_by-cons, sum_by-set}
use Rattle.std.proofs.lemmas.Nat.{div_below, le-div}
use Rattle.std.proofs.Math.Nat.{le_of_eq, lt_of_mul-lt-mul_left, mul-le-mul_left, mul-lt-mul_of_pos_left}
use Rattle.zh_divisors.specs.Fit.{IsFit}
use Rattle.zh_divisors.proofs.CallerLemmas.{found_or_none, le_by_le, lt_by_le_lt, lt_by_lt_le, same-from_sum}
use Rattle.zh_upper.specs.Halves.{IsFirstAbove, rounded_down, rounded_up}
use Rattle.zh_upper.specs.Ranges.{AreSeatRanges, HasSeatRange, MayHave}

-- one more weight is rounded
pub rounded_more : (round : ℕ → ℕ) (weights before after : List ℕ) (i n : ℕ) → before ≡ map round (take i weights) → i < length weights →
    n ≡ round (get_or weights i 0) → after ≡ before ++ n ∷ [] → after ≡ map round (take (i + 1) weights)
rounded_more round weights before after i n are within is put =
    put ∙ (ap (λ (seats : List ℕ). seats ++ n ∷ []) are ∙ (ap (λ (m : ℕ). map round (take i weights) ++ m ∷ []) is ∙ sym (map_more round weights i 0 within)))

-- no next seat is worth more than n / m, and no last seat less
pub record MayRoundTo (weights : List ℕ) (n m : ℕ) (seats : List ℕ) : Type 0 where
  pub upper : (k : ℕ) → k < length weights → get_or weights k 0 * m ≤ n * (2 * get_or seats k 0 + 1)
  pub lower : (k : ℕ) → k < length weights → 1 ≤ get_or seats k 0 → n * (2 * get_or seats k 0 - 1) ≤ get_or weights k 0 * m

-- a fit of which this is true, and in which the last seat of one weight and the next seat of another are worth n / m
pub record IsTiedAtHalf (weights : List ℕ) (house n m : ℕ) : Type 0 where
  pub seats : List ℕ
  pub fit : IsFit weights house seats
  pub some : 0 < n
  pub odd : 0 < m
  pub rounds : MayRoundTo weights n m seats
  pub from : ℕ
  pub to : ℕ
  pub from_within : from < length weights
  pub to_within : to < length weights
  pub seated : 1 ≤ get_or seats from 0
  pub last : n * (2 * get_or seats from 0 - 1) ≡ get_or weights from 0 * m
  pub next : get_or weights to 0 * m ≡ n * (2 * get_or seats to 0 + 1)

-- if of two fits the second has more seats at k, the first has more somewhere
more_elsewhere : (weights : List ℕ) (house : ℕ) (xs ys : List ℕ) (k : ℕ) → IsFit weights house xs → IsFit weights house ys →
    k < length weights → get_or xs k 0 < get_or ys k 0 → (l : ℕ) × (l < length weights) × (get_or ys l 0 < get_or xs l 0)
more_elsewhere weights house xs ys k one other kw less =
    elim (found_or_none (λ l. get_or ys l 0 < get_or xs l 0) (λ l. get_or xs l 0 ≤ get_or ys l 0)
    (λ l. cases_lt (get_or ys l 0) (get_or xs l 0)) (length weights)) [
      | inl there ↦ there
      | inr none ↦
          let below : (l : ℕ) → l < length ys → get_or xs l 0 ≤ get_or ys l 0
          = λ l lt. none l (omega (arith, lt, other.one_each)) in
          let same : xs ≡ ys = same-from_sum ys xs (one.one_each ∙ sym other.one_each) below (le_of_eq (other.add_up ∙ sym one.add_up)) in
          absurd (omega (arith, less, ap (λ (s : List ℕ). get_or s k 0) same))
    ]

-- in every fit no next seat is worth more than n / m, and no last seat less
next_within : (weights : List ℕ) (house n m : ℕ) (t : IsTiedAtHalf weights house n m) (seats : List ℕ) → IsFit weights house seats →
    (k : ℕ) → k < length weights → get_or weights k 0 * m ≤ n * (2 * get_or seats k 0 + 1)
next_within weights house n m t seats fit k kw =
    ⊎_elim
    (λ over.
    let wider : n * (2 * get_or seats k 0 + 1) < n * (2 * get_or t.seats k 0 + 1) = omega (arith, over, t.rounds.upper k kw) in
    let odd_less : 2 * get_or seats k 0 + 1 < 2 * get_or t.seats k 0 + 1 = lt_of_mul-lt-mul_left n wider in
    let less : get_or seats k 0 < get_or t.seats k 0 = omega (arith, odd_less) in
    let (l, lw, more) = more_elsewhere weights house seats t.seats k fit t.fit kw less in
    let differ : l ≢ k = λ is. omega (arith, less, more, ap (λ i. get_or seats i 0) is, ap (λ i. get_or t.seats i 0) is) in
    let order = fit.in_order l k lw kw differ (omega (arith, more)) in
    let wide : n * (2 * get_or t.seats l 0 + 1) ≤ n * (2 * get_or seats l 0 - 1) = mul-le-mul_left n (omega (arith, more)) in
    let below : get_or weights l 0 * m ≤ n * (2 * get_or seats l 0 - 1) = omega (arith, wide, t.rounds.upper l lw) in
    let strict = lt_by_le_lt (get_or weights l 0) (2 * get_or seats l 0 - 1) n m (get_or weights k 0) (2 * get_or seats k 0 + 1)
    (omega (arith, more)) below over in
    absurd (omega (arith, strict, order)))
    (λ within. within)
    (cases_lt (n * (2 * get_or seats k 0 + 1)) (get_or weights k 0 * m))

last_within : (weights : List ℕ) (house n m : ℕ) (t : IsTiedAtHalf weights house n m) (seats : List ℕ) → IsFit weights house seats →
    (k : ℕ) → k < length weights → 1 ≤ get_or seats k 0 → n * (2 * get_or seats k 0 - 1) ≤ get_or weights k 0 * m
last_within weights house n m t seats fit k kw seated =
    ⊎_elim
    (λ over.
    let more : get_or t.seats k 0 < get_or seats k 0
    = ⊎_elim
    (λ less. less)
    (λ most.
    let wide : n * (2 * get_or seats k 0 - 1) ≤ n * (2 * get_or t.seats k 0 - 1) = mul-le-mul_left n (omega (arith, most)) in
    absurd (omega (arith, wide, over, t.rounds.lower k kw (omega (arith, seated, most)))))
    (cases_lt (get_or t.seats k 0) (get_or seats k 0)) in
    let (l, lw, less) = more_elsewhere weights house t.seats seats k t.fit fit kw more in
    let differ : k ≢ l = λ is. omega (arith, less, more, ap (λ i. get_or seats i 0) is, ap (λ i. get_or t.seats i 0) is) in
    let order = fit.in_order k l kw lw differ seated in
    let wide : n * (2 * get_or seats l 0 + 1) ≤ n * (2 * get_or t.seats l 0 - 1) = mul-le-mul_left n (omega (arith, less)) in
    let above : n * (2 * get_or seats l 0 + 1) ≤ get_or weights l 0 * m = omega (arith, wide, t.rounds.lower l lw (omega (arith, less))) in
    let strict = lt_by_lt_le (get_or weights k 0) (2 * get_or seats k 0 - 1) n m (get_or weights l 0) (2 * get_or seats l 0 + 1)
    (omega arith) over above in
    absurd (omega (arith, strict, order)))
    (λ within. within)
    (cases_lt (get_or weights k 0 * m) (n * (2 * get_or seats k 0 - 1)))

-- seats that round under one divisor, and add up to the house, fit
fit_from_rounding : (weights : List ℕ) (house n m : ℕ) (seats : List ℕ) → MayRoundTo weights n m seats → 0 < m →
    length seats ≡ length weights → sum seats ≡ house → IsFit weights house seats
fit_from_rounding weights house n m seats rounds odd one_each add_up = record {
  one_each = one_each;
  add_up = add_up;
  in_order = λ i j iw jw differ seated.
      le_by_le (get_or weights j 0) (2 * get_or seats j 0 + 1) n m (get_or weights i 0) (2 * get_or seats i 0 - 1) odd (rounds.upper j jw) (rounds.lower i iw seated);
}

-- one seat moves from i to j
abbrev moved : List ℕ → ℕ → ℕ → List ℕ
moved seats i j = set (set seats i (get_or seats i 0 - 1)) j (get_or seats j 0 + 1)

record IsMoved (seats : List ℕ) (i j : ℕ) (others : List ℕ) : Type 0 where
  one_each : length others ≡ length seats
  add_up : sum others ≡ sum seats
  at_from : get_or others i 0 ≡ get_or seats i 0 - 1
  at_to : get_or others j 0 ≡ get_or seats j 0 + 1
  elsewhere : (k : ℕ) → k ≢ i → k ≢ j → get_or others k 0 ≡ get_or seats k 0

is_moved : (seats : List ℕ) (i j : ℕ) → i < length seats → j < length seats → i ≢ j → 1 ≤ get_or seats i 0 → IsMoved seats i j (moved seats i j)
is_moved seats i j iw jw differ seated =
    let less : ℕ = get_or seats i 0 - 1 in
    let more : ℕ = get_or seats j 0 + 1 in
    let taken : List ℕ = set seats i less in
    let long : length taken ≡ length seats = length-set seats i less in
    let back : j ≢ i = λ is. differ (sym is) in
    let before : get_or taken j 0 ≡ get_or seats j 0 = get_or-set_other seats i j less 0 back in
    let one : sum taken + get_or seats i 0 ≡ sum seats + less = sum_by-set (λ x. x) seats i less 0 iw in
    let other : sum (set taken j more) + get_or taken j 0 ≡ sum taken + more = sum_by-set (λ x. x) taken j more 0 (omega (arith, jw, long)) in
    record {
      one_each = length-set taken j more ∙ long;
      add_up = omega (arith, one, other, before, seated);
      at_from = get_or-set_other taken j i more 0 differ ∙ get_or-set_same seats i less 0 iw;
      at_to = get_or-set_same taken j more 0 (omega (arith, jw, long));
      elsewhere = λ k from to. get_or-set_other taken j k more 0 to ∙ get_or-set_other seats i k less 0 from;
    }

-- a seat that is worth as much to j as to i can move from i to j, and the seats still fit
moved_fit : (weights : List ℕ) (house n m : ℕ) (t : IsTiedAtHalf weights house n m) (i j : ℕ) → i < length weights → j < length weights → i ≢ j →
    1 ≤ get_or t.seats i 0 → n * (2 * get_or t.seats i 0 - 1) ≡ get_or weights i 0 * m → get_or weights j 0 * m ≡ n * (2 * get_or t.seats j 0 + 1) →
    IsFit weights house (moved t.seats i j)
moved_fit weights house n m t i j iw jw differ seated last next =
    let is = is_moved t.seats i j (omega (arith, iw, t.fit.one_each)) (omega (arith, jw, t.fit.one_each)) differ seated in
    let others : List ℕ = moved t.seats i j in
    let upper : (k : ℕ) → k < length weights → get_or weights k 0 * m ≤ n * (2 * get_or others k 0 + 1)
    = λ k kw. ⊎_elim
    (λ (from : k ≡ i).
    let odd : 2 * (get_or t.seats i 0 - 1) + 1 ≡ 2 * get_or t.seats i 0 - 1 = omega (arith, seated) in
    rw (from, is.at_from, odd) (le_of_eq (sym last)))
    (λ apart. ⊎_elim
    (λ (to : k ≡ j).
    let wide : n * (2 * get_or t.seats j 0 + 1) ≤ n * (2 * (get_or t.seats j 0 + 1) + 1) = mul-le-mul_left n (omega arith) in
    rw (to, is.at_to, next) wide)
    (λ away. rw (is.elsewhere k apart away) (t.rounds.upper k kw))
    (cases_eq k j))
    (cases_eq k i) in
    let lower : (k : ℕ) → k < length weights → 1 ≤ get_or others k 0 → n * (2 * get_or others k 0 - 1) ≤ get_or weights k 0 * m
    = λ k kw some. ⊎_elim
    (λ (from : k ≡ i).
    let wide : n * (2 * (get_or t.seats i 0 - 1) - 1) ≤ n * (2 * get_or t.seats i 0 - 1) = mul-le-mul_left n (omega arith) in
    rw (from, is.at_from) (omega (arith, wide, last)))
    (λ apart. ⊎_elim
    (λ (to : k ≡ j).
    let odd : 2 * (get_or t.seats j 0 + 1) - 1 ≡ 2 * get_or t.seats j 0 + 1 = omega arith in
    rw (to, is.at_to, odd) (le_of_eq (sym next)))
    (λ away. rw (is.elsewhere k apart away) (t.rounds.lower k kw (omega (arith, some, is.elsewhere k apart away))))
    (cases_eq k j))
    (cases_eq k i) in
    fit_from_rounding weights house n m others (record { upper = upper; lower = lower }) t.odd (is.one_each ∙ t.fit.one_each) (is.add_up ∙ t.fit.add_up)

-- the seats rounded half up and half down, compared with other seats
up_at_least : (n m w s : ℕ) → 0 < n → (1 ≤ s → n * (2 * s - 1) ≤ w * m) → s ≤ rounded_up n m w
up_at_least n m w s some below =
    ⊎_elim
    (λ seated.
    let odd : (2 * s - 1) + 1 ≡ 2 * s = omega (arith, seated) in
    let whole : n * ((2 * s - 1) + 1) ≡ n * (2 * s) = ap (λ x. n * x) odd in
    le-div s (w * m + n) (2 * n) (omega (arith, some)) (omega (arith, below seated, whole)))
    (λ none. omega (arith, none))
    (cases_lt 0 s)

up_at_most : (n m w s : ℕ) → 0 < n → w * m < n * (2 * s + 1) → rounded_up n m w ≤ s
up_at_most n m w s some above =
    let below : rounded_up n m w < s + 1 = div_below (w * m + n) (2 * n) (s + 1) (omega (arith, some)) (omega (arith, above)) in
    omega (arith, below)

-- a weight on the half above s rounds up to at least s + 1
up_on_half : (n m w s : ℕ) → 0 < n → w * m ≡ n * (2 * s + 1) → s + 1 ≤ rounded_up n m w
up_on_half n m w s some half = le-div (s + 1) (w * m + n) (2 * n) (omega (arith, some)) (omega (arith, half))

up_near : (n m w s : ℕ) → 0 < n → w * m ≤ n * (2 * s + 1) → rounded_up n m w ≤ s + 1
up_near n m w s some above =
    let below : rounded_up n m w < s + 2 = div_below (w * m + n) (2 * n) (s + 2) (omega (arith, some)) (omega (arith, above, some)) in
    omega (arith, below)

down_at_most : (n m w s : ℕ) → 0 < n → w * m ≤ n * (2 * s + 1) → rounded_down n m w ≤ s
down_at_most n m w s some above =
    let below : rounded_down n m w < s + 1 = div_below (w * m + n - 1) (2 * n) (s + 1) (omega (arith, some)) (omega (arith, above, some)) in
    omega (arith, below)

down_at_least : (n m w s : ℕ) → 0 < n → n * (2 * s + 1) < w * m → s + 1 ≤ rounded_down n m w
down_at_least n m w s some below = le-div (s + 1) (w * m + n - 1) (2 * n) (omega (arith, some)) (omega (arith, below, some))

down_near : (n m w s : ℕ) → 0 < n → n * (2 * s + 1) ≤ w * m → s ≤ rounded_down n m w
down_near n m w s some below = le-div s (w * m + n - 1) (2 * n) (omega (arith, some)) (omega (arith, below, some))

-- weight k can have the number of seats that it has in the fit of the tie
keeps : (weights : List ℕ) (house n m : ℕ) (t : IsTiedAtHalf weights house n m) (k number : ℕ) → get_or t.seats k 0 ≡ number → MayHave weights house k number
keeps weights house n m t k number is = record { seats = t.seats; fit = t.fit; has = is }

-- no weight is on both the half above and the half below its seats
apart_from : (n s : ℕ) → 0 < n → n * (2 * s + 1) ≡ n * (2 * s - 1) → 1 ≤ s → ⊥
apart_from n s some same seated =
    let less : n * (2 * s - 1) < n * (2 * s + 1) = mul-lt-mul_of_pos_left (omega arith) some in
    omega (arith, less, same)

fewest : (weights : List ℕ) (house n m : ℕ) (t : IsTiedAtHalf weights house n m) (k : ℕ) → k < length weights →
    MayHave weights house k (rounded_down n m (get_or weights k 0))
fewest weights house n m t k kw =
    let s = get_or t.seats k 0 in
    let w = get_or weights k 0 in
    let most : rounded_down n m w ≤ s = down_at_most n m w s t.some (t.rounds.upper k kw) in
    ⊎_elim
    (λ less.
    let seated : 1 ≤ s = omega (arith, less) in
    let odd : 2 * (s - 1) + 1 ≡ 2 * s - 1 = omega (arith, seated) in
    let below = t.rounds.lower k kw seated in
    let near : s - 1 ≤ rounded_down n m w = down_near n m w (s - 1) t.some (rw odd below) in
    let half : n * (2 * s - 1) ≡ w * m
    = ⊎_elim
    (λ strict. absurd (omega (arith, down_at_least n m w (s - 1) t.some (rw odd strict), less)))
    (λ reaches. omega (arith, reaches, below))
    (cases_lt (n * (2 * s - 1)) (w * m)) in
    let differ : k ≢ t.to
    = λ is. apart_from n s t.some (sym (rw (← is) at t.next) ∙ sym half) seated in
    let here = is_moved t.seats k t.to (omega (arith, kw, t.fit.one_each)) (omega (arith, t.to_within, t.fit.one_each)) differ seated in
    record {
      seats = moved t.seats k t.to;
      fit = moved_fit weights house n m t k t.to kw t.to_within differ seated half t.next;
      has = omega (arith, here.at_from, near, less);
    })
    (λ reaches. keeps weights house n m t k (rounded_down n m w) (omega (arith, reaches, most)))
    (cases_lt (rounded_down n m w) s)

greatest : (weights : List ℕ) (house n m : ℕ) (t : IsTiedAtHalf weights house n m) (k : ℕ) → k < length weights →
    MayHave weights house k (rounded_up n m (get_or weights k 0))
greatest weights house n m t k kw =
    let s = get_or t.seats k 0 in
    let w = get_or weights k 0 in
    let least : s ≤ rounded_up n m w = up_at_least n m w s t.some (t.rounds.lower k kw) in
    let above = t.rounds.upper k kw in
    ⊎_elim
    (λ more.
    let near : rounded_up n m w ≤ s + 1 = up_near n m w s t.some above in
    let half : w * m ≡ n * (2 * s + 1)
    = ⊎_elim
    (λ strict. absurd (omega (arith, up_at_most n m w s t.some strict, more)))
    (λ reaches. omega (arith, reaches, above))
    (cases_lt (w * m) (n * (2 * s + 1))) in
    let differ : t.from ≢ k
    = λ is. let seated : 1 ≤ s = rw is at t.seated in apart_from n s t.some (sym half ∙ sym (rw is at t.last)) seated in
    let here = is_moved t.seats t.from k (omega (arith, t.from_within, t.fit.one_each)) (omega (arith, kw, t.fit.one_each)) differ t.seated in
    record {
      seats = moved t.seats t.from k;
      fit = moved_fit weights house n m t t.from k t.from_within kw differ t.seated t.last half;
      has = omega (arith, here.at_to, near, more);
    })
    (λ reaches. keeps weights house n m t k (rounded_up n m w) (omega (arith, reaches, least)))
    (cases_lt s (rounded_up n m w))

-- the range is from the seats rounded half down to the seats rounded half up
pub half_range : (weights : List ℕ) (house n m : ℕ) (t : IsTiedAtHalf weights house n m) (k : ℕ) → k < length weights →
    HasSeatRange weights house k (rounded_down n m (get_or weights k 0)) (rounded_up n m (get_or weights k 0))
half_range weights house n m t k kw = record {
  at_least = λ seats fit. down_at_most n m (get_or weights k 0) (get_or seats k 0) t.some (next_within weights house n m t seats fit k kw);
  at_most = λ seats fit. up_at_least n m (get_or weights k 0) (get_or seats k 0) t.some (last_within weights house n m t seats fit k kw);
  fewest = fewest weights house n m t k kw;
  greatest = greatest weights house n m t k kw;
}

-- the ranges of all weights, in order
pub are_ranges : (weights : List ℕ) (house n m : ℕ) (least most : List ℕ) → IsTiedAtHalf weights house n m →
    least ≡ map (rounded_down n m) weights → most ≡ map (rounded_up n m) weights → AreSeatRanges weights house least most
are_ranges weights house n m least most t least_is most_is = record {
  one_least_each = ap length least_is ∙ length-map weights (rounded_down n m);
  one_most_each = ap length most_is ∙ length-map weights (rounded_up n m);
  each = λ k kw.
      let down : get_or least k 0 ≡ rounded_down n m (get_or weights k 0)
      = ap (λ (s : List ℕ). get_or s k 0) least_is ∙ get_or-map (rounded_down n m) weights k 0 0 kw in
      let up : get_or most k 0 ≡ rounded_up n m (get_or weights k 0)
      = ap (λ (s : List ℕ). get_or s k 0) most_is ∙ get_or-map (rounded_up n m) weights k 0 0 kw in
      rw (down, up) (half_range weights house n m t k kw);
}

-- each number that is rounded half up is at most one more than the house
pub up_small : (weights : List ℕ) (house n m : ℕ) (t : IsTiedAtHalf weights house n m) (k : ℕ) → k < length weights →
    rounded_up n m (get_or weights k 0) ≤ house + 1
up_small weights house n m t k kw =
    let near = up_near n m (get_or weights k 0) (get_or t.seats k 0) t.some (t.rounds.upper k kw) in
    let within : get_or t.seats k 0 ≤ sum t.seats = get_or-le-sum_by (λ x. x) t.seats k 0 (omega (arith, kw, t.fit.one_each)) in
    omega (arith, near, within, t.fit.add_up)

pub down_small : (weights : List ℕ) (house n m : ℕ) (t : IsTiedAtHalf weights house n m) (k : ℕ) → k < length weights →
    rounded_down n m (get_or weights k 0) ≤ house
down_small weights house n m t k kw =
    let most = down_at_most n m (get_or weights k 0) (get_or t.seats k 0) t.some (t.rounds.upper k kw) in
    let within : get_or t.seats k 0 ≤ sum t.seats = get_or-le-sum_by (λ x. x) t.seats k 0 (omega (arith, kw, t.fit.one_each)) in
    omega (arith, most, within, t.fit.add_up)

-- if each term is at most the seats at its place, the sum is at most the sum of the seats
total-le : (f : ℕ → ℕ) (weights seats : List ℕ) → length seats ≡ length weights →
    ((k : ℕ) → k < length weights → f (get_or weights k 0) ≤ get_or seats k 0) → sum_by f weights ≤ sum seats
total-le f [] [] same below = omega arith
total-le f [] (s ∷ seats) same below = absurd (omega (arith, same))
total-le f (w ∷ weights) [] same below = absurd (omega (arith, same))
total-le f (w ∷ weights) (s ∷ seats) same below =
    let head : f w ≤ s = below 0 (omega arith) in
    let tail : (k : ℕ) → k < length weights → f (get_or weights k 0) ≤ get_or seats k 0 = λ k lt. below (suc k) (omega arith) in
    omega (arith, head, total-le f weights seats (omega (arith, same)) tail, sum_by-cons f w weights, sum_by-cons (λ x. x) s seats)

total-ge : (f : ℕ → ℕ) (weights seats : List ℕ) → length seats ≡ length weights →
    ((k : ℕ) → k < length weights → get_or seats k 0 ≤ f (get_or weights k 0)) → sum seats ≤ sum_by f weights
total-ge f [] [] same above = omega arith
total-ge f [] (s ∷ seats) same above = absurd (omega (arith, same))
total-ge f (w ∷ weights) [] same above = absurd (omega (arith, same))
total-ge f (w ∷ weights) (s ∷ seats) same above =
    let head : s ≤ f w = above 0 (omega arith) in
    let tail : (k : ℕ) → k < length weights → get_or seats k 0 ≤ f (get_or weights k 0) = λ k lt. above (suc k) (omega arith) in
    omega (arith, head, total-ge f weights seats (omega (arith, same)) tail, sum_by-cons f w weights, sum_by-cons (λ x. x) s seats)

total-gt : (f : ℕ → ℕ) (weights seats : List ℕ) (e : ℕ) → length seats ≡ length weights →
    ((k : ℕ) → k < length weights → get_or seats k 0 ≤ f (get_or weights k 0)) → e < length weights →
    get_or seats e 0 < f (get_or weights e 0) → sum seats < sum_by f weights
total-gt f [] seats e same above within more = absurd (omega (arith, within))
total-gt f (w ∷ weights) [] e same above within more = absurd (omega (arith, same))
total-gt f (w ∷ weights) (s ∷ seats) zero same above within more =
    let tail : (k : ℕ) → k < length weights → get_or seats k 0 ≤ f (get_or weights k 0) = λ k lt. above (suc k) (omega arith) in
    let head : s < f w = more in
    omega (arith, head, total-ge f weights seats (omega (arith, same)) tail, sum_by-cons f w weights, sum_by-cons (λ x. x) s seats)
total-gt f (w ∷ weights) (s ∷ seats) (suc e) same above within more =
    let head : s ≤ f w = above 0 (omega arith) in
    let tail : (k : ℕ) → k < length weights → get_or seats k 0 ≤ f (get_or weights k 0) = λ k lt. above (suc k) (omega arith) in
    let rest : sum seats < sum_by f weights = total-gt f weights seats e (omega (arith, same)) tail (omega (arith, within)) more in
    omega (arith, head, rest, sum_by-cons f w weights, sum_by-cons (λ x. x) s seats)

-- under a divisor with fewer halves no weight rounds up to more than its seats
up_before : (n i h w s : ℕ) → 0 < n → i < h → w * (2 * h + 1) ≤ n * (2 * s + 1) → rounded_up n (2 * i + 1) w ≤ s
up_before n i h w s some less above =
    up_at_most n (2 * i + 1) w s some
    (⊎_elim
    (λ (there : 0 < w).
    let strict : w * (2 * i + 1) < w * (2 * h + 1) = mul-lt-mul_of_pos_left (omega (arith, less)) there in
    omega (arith, strict, above))
    (λ none.
    let nothing : w ≡ 0 = omega (arith, none) in
    let zero_is : w * (2 * i + 1) ≡ 0 * (2 * i + 1) = ap (λ x. x * (2 * i + 1)) nothing in
    let wide : n * 1 ≤ n * (2 * s + 1) = mul-le-mul_left n (omega arith) in
    omega (arith, zero_is, wide, some))
    (cases_lt 0 w))

-- the divisor of the tie is the first under which the seats rounded half up are more than the house
pub first_above : (weights : List ℕ) (house n h : ℕ) (t : IsTiedAtHalf weights house n (2 * h + 1)) → h ≤ house → IsFirstAbove weights house n h
first_above weights house n h t within =
    let f : ℕ → ℕ = rounded_up n (2 * h + 1) in
    let at_least : (k : ℕ) → k < length weights → get_or t.seats k 0 ≤ f (get_or weights k 0)
    = λ k kw. up_at_least n (2 * h + 1) (get_or weights k 0) (get_or t.seats k 0) t.some (t.rounds.lower k kw) in
    let more : get_or t.seats t.to 0 < f (get_or weights t.to 0)
    = omega (arith, up_on_half n (2 * h + 1) (get_or weights t.to 0) (get_or t.seats t.to 0) t.some t.next) in
    record {
      within = within;
      above = omega (arith, total-gt f weights t.seats t.to t.fit.one_each at_least t.to_within more, t.fit.add_up);
      before = λ i less.
          let most : (k : ℕ) → k < length weights → rounded_up n (2 * i + 1) (get_or weights k 0) ≤ get_or t.seats k 0
          = λ k kw. up_before n i h (get_or weights k 0) (get_or t.seats k 0) t.some less (t.rounds.upper k kw) in
          omega (arith, total-le (rounded_up n (2 * i + 1)) weights t.seats t.fit.one_each most, t.fit.add_up);
    }
