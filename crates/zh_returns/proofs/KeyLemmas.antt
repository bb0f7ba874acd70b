-- The order of keys.
use Rattle.std.proofs.Common.{◌≡◌, ◌<◌, ◌∙◌, ◌==◌, ◌&&◌, ℕ, true, false, List, length, get_or, take, sym, ap, arith, inl, inr}
use Rattle.std.specs.Cmp.{IsTotalOrder, IsEquivalence, Equal-is, nat_cmp_total, tied_itself}
use Rattle.std.specs.List.{IsDistinct, list_any}
use Rattle.std.specs.Ordering.{nat_cmp, eq_by_cmp, is_eq}
use Rattle.std.proofs.lemmas.Cmp.{eq_by_cmp_equiv, on_total, then_total}
use Rattle.std.proofs.lemmas.Bool.{cases_eq, and_from, and_left, and_right, eq-eqb, ne_eqb, false_from_ne_true}
use Rattle.std.proofs.lemmas.List.{length-take-le, get_or-take}
use Rattle.std.proofs.lemmas.List.Elements.{All-from_get_or}
use Rattle.std.proofs.lemmas.List.Folds.{list_any_none}
use Rattle.std.proofs.lemmas.Map.Keys.{apart_from_distinct}
use Rattle.std.proofs.lemmas.Map.Lookups.{CmpEqualImpliesEq, exact_unsigned, exact_pairs}
use Rattle.zh_returns.specs.Keys.{key_cmp}

-- keys that compare as equal are equal
pub exact_keys : CmpEqualImpliesEq key_cmp
exact_keys = exact_pairs nat_cmp nat_cmp exact_unsigned exact_unsigned

pub keys_total : IsTotalOrder key_cmp
keys_total = then_total (on_total (λ (key : ℕ × ℕ). key.0) nat_cmp_total) (on_total (λ (key : ℕ × ℕ). key.1) nat_cmp_total)

-- a key is equal to itself
pub same_key : (key : ℕ × ℕ) → eq_by_cmp key_cmp key key ≡ true
same_key key = ap is_eq (tied_itself keys_total key)

-- keys that pass the test of equality are equal
pub keys_equal : (a b : ℕ × ℕ) → eq_by_cmp key_cmp a b ≡ true → a ≡ b
keys_equal a b is = exact_keys a b ((Equal-is (key_cmp a b)).0 is)

-- two keys pass the test of equality if and only if both their parts do
pub key_test : (m n municipality list : ℕ) → eq_by_cmp key_cmp (m, n) (municipality, list) ≡ (m == municipality && n == list)
key_test m n municipality list = elim (cases_eq m municipality) [
  | inl same_m ↦ elim (cases_eq n list) [
    | inl same_n ↦
        let one : ◌≡◌ {A = ℕ × ℕ} (m, n) (municipality, list) = λ i. (same_m i, same_n i) in
        ap (λ key. eq_by_cmp key_cmp key (municipality, list)) one ∙ same_key (municipality, list)
        ∙ sym (and_from (m == municipality) (n == list) (eq-eqb m municipality same_m) (eq-eqb n list same_n))
    | inr other ↦
        false_from_ne_true _ (λ is. other (ap (λ (key : ℕ × ℕ). key.1) (keys_equal (m, n) (municipality, list) is)))
        ∙ sym (and_right (m == municipality) (n == list) (ne_eqb n list other))
  ]
  | inr other ↦
      false_from_ne_true _ (λ is. other (ap (λ (key : ℕ × ℕ). key.0) (keys_equal (m, n) (municipality, list) is)))
      ∙ sym (and_left (m == municipality) (n == list) (ne_eqb m municipality other))
]

-- the test of equality is an equivalence relation
pub keys_alike : IsEquivalence (eq_by_cmp key_cmp)
keys_alike = eq_by_cmp_equiv keys_total

-- if no two keys are equal, a key is not among those before it
pub fresh_from_distinct : (keys : List (ℕ × ℕ)) (i : ℕ) (d : ℕ × ℕ) → IsDistinct (eq_by_cmp key_cmp) keys → i < length keys → list_any (eq_by_cmp key_cmp (get_or keys i d)) (take i keys) ≡ false
fresh_from_distinct keys i d distinct within =
    let short : length (take i keys) ≡ i = length-take-le i keys (omega arith) in
    list_any_none (eq_by_cmp key_cmp (get_or keys i d)) (take i keys) (
    All-from_get_or (λ (key : ℕ × ℕ). eq_by_cmp key_cmp (get_or keys i d) key ≡ false) (take i keys) d (λ j before.
    let earlier : j < i = omega arith in
    ap (eq_by_cmp key_cmp (get_or keys i d)) (get_or-take i keys j d earlier)
    ∙ keys_alike.symm (get_or keys i d) (get_or keys j d)
    ∙ apart_from_distinct (eq_by_cmp key_cmp) keys j i d distinct earlier within
    ))
