-- Sums over the lines and the cells of a matrix.
use Rattle.std.proofs.Common.{◌≡◌, ℕ, zero, suc, ◌+◌, ◌*◌, ◌<◌, ◌≤◌, refl, sym, ap, ◌∙◌, inl, inr, arith}
use Rattle.std.proofs.lemmas.Bool.{cases_lt}
use Rattle.std.proofs.Math.Nat.{le_of_eq}
use Rattle.zh_divisors.specs.Sums.{sum_to}
use Rattle.zh_divisors.proofs.CallerLemmas.{sum_to-ext, sum_to-le, sum_to-suc, sum_to-zero}

pub ruleset sum_steps = (sum_to-suc)

pub sum_to-add : (n : ℕ) (f g : ℕ → ℕ) → sum_to n (λ i. f i + g i) ≡ sum_to n f + sum_to n g
sum_to-add zero f g = refl
sum_to-add (suc n) f g = omega (arith, sum_to-add n f g)

pub sum_to-mul : (n a : ℕ) (f : ℕ → ℕ) → sum_to n (λ i. a * f i) ≡ a * sum_to n f
sum_to-mul zero a f = omega arith
sum_to-mul (suc n) a f = omega (arith, sum_to-mul n a f)

-- terms that are at most others, one by one, and have at least their sum are equal to them
pub same_terms : (n : ℕ) (f g : ℕ → ℕ) → ((i : ℕ) → i < n → f i ≤ g i) → sum_to n g ≤ sum_to n f →
    (i : ℕ) → i < n → f i ≡ g i
same_terms zero f g below least i lt = omega arith
same_terms (suc n) f g below least i lt =
    let before : (j : ℕ) → j < n → f j ≤ g j = λ j l. below j (omega arith) in
    let here : f n ≤ g n = below n (omega arith) in
    let lower : sum_to n f ≤ sum_to n g = sum_to-le n f g before in
    let same : f n ≡ g n = omega arith in
    let i_is : n ≤ i → i ≡ n = λ l. omega arith in
    elim (cases_lt i n) [
      | inl l ↦ same_terms n f g before (omega arith) i l
      | inr l ↦ rw (i_is l) same
    ]

-- the sum over a matrix
abbrev pub total : ℕ → ℕ → (ℕ → ℕ → ℕ) → ℕ
total m n f = sum_to m (λ d. sum_to n (λ g. f d g))

-- the sum row by row is the sum column by column
pub total-swap : (m n : ℕ) (f : ℕ → ℕ → ℕ) → total m n f ≡ total n m (λ g d. f d g)
total-swap zero n f = sym (sum_to-zero n (λ i. 0) (λ i lt. refl))
total-swap (suc m) n f =
    ap (λ x. x + sum_to n (λ g. f m g)) (total-swap m n f)
    ∙ sym (sum_to-add n (λ g. sum_to m (λ d. f d g)) (λ g. f m g))

pub total-add : (m n : ℕ) (f h : ℕ → ℕ → ℕ) → total m n (λ d g. f d g + h d g) ≡ total m n f + total m n h
total-add m n f h =
    sum_to-ext m _ _ (λ d lt. sum_to-add n (λ g. f d g) (λ g. h d g))
    ∙ sum_to-add m (λ d. sum_to n (λ g. f d g)) (λ d. sum_to n (λ g. h d g))

pub same_cells : (m n : ℕ) (f h : ℕ → ℕ → ℕ) → ((d g : ℕ) → d < m → g < n → f d g ≤ h d g) → total m n h ≤ total m n f →
    (d g : ℕ) → d < m → g < n → f d g ≡ h d g
same_cells m n f h below least d g dm gn =
    same_terms n (λ g. f d g) (λ g. h d g) (λ j l. below d j dm l)
    (le_of_eq (sym (same_terms m (λ d. sum_to n (λ g. f d g)) (λ d. sum_to n (λ g. h d g))
    (λ i l. sum_to-le n (λ g. f i g) (λ g. h i g) (λ j k. below i j l k)) least d dm)))
    g gn

-- a sum with a weight for each row, or for each column, depends only on the totals
pub weigh_rows : (m n : ℕ) (w : ℕ → ℕ) (s t : ℕ → ℕ → ℕ) →
    ((d : ℕ) → d < m → sum_to n (λ g. s d g) ≡ sum_to n (λ g. t d g)) →
    total m n (λ d g. w d * s d g) ≡ total m n (λ d g. w d * t d g)
weigh_rows m n w s t same =
    sum_to-ext m _ _ (λ d lt.
    sum_to-mul n (w d) (λ g. s d g) ∙ ap (λ x. w d * x) (same d lt) ∙ sym (sum_to-mul n (w d) (λ g. t d g)))

pub weigh_columns : (m n : ℕ) (w : ℕ → ℕ) (s t : ℕ → ℕ → ℕ) →
    ((g : ℕ) → g < n → sum_to m (λ d. s d g) ≡ sum_to m (λ d. t d g)) →
    total m n (λ d g. w g * s d g) ≡ total m n (λ d g. w g * t d g)
weigh_columns m n w s t same =
    total-swap m n (λ d g. w g * s d g)
    ∙ weigh_rows n m w (λ g d. s d g) (λ g d. t d g) same
    ∙ sym (total-swap m n (λ d g. w g * t d g))
