-- One bit of a byte.
use Rattle.std.proofs.Common.{◌≡◌, ◌<◌, ◌*◌, ◌/◌, ◌%◌, ◌^◌, ◌∙◌, ◌||◌, ◌==◌, ℕ, zero, suc, Bool, not, nat_eq, List, length, get_or, set, bit_and, bit_or, sym, ap, arith, inl, inr}
use Rattle.std.specs.Int.{w8, bit_at}
use Rattle.std.proofs.lemmas.Bool.{cases_eq, eq-eqb, ne_eqb}
use Rattle.std.proofs.lemmas.Nat.{one_shl, pow_pos}
use Rattle.std.proofs.lemmas.Nat.Bits.{and_pow, bit_at-lt, bit_at_set_same, bit_at_set_other}
use Rattle.std.proofs.lemmas.List.{get_or-set_same, get_or-set_other}
use Rattle.zh_returns.specs.KeySet.{is_marked}

-- a bit times a positive number is 0 if and only if the bit is 0
bit_test : (bit x : ℕ) → bit < 2 → 0 < x → nat_eq (bit * x) 0 ≡ not (bit == 1)
bit_test zero x small some = let e : 0 * x ≡ 0 = omega arith in ap (λ (n : ℕ). nat_eq n 0) e
bit_test (suc zero) x small some = ne_eqb (1 * x) 0 (λ is. omega arith)
bit_test (suc (suc n)) x small some = absurd (omega arith)

-- a byte has no bit in common with a one-bit mask if and only if this bit is not set
pub mark_fresh : (byte bit : ℕ) → bit < 8 → nat_eq (bit_and byte (1 * 2 ^ bit % 256)) 0 ≡ not (byte / 2 ^ bit % 2 == 1)
mark_fresh byte bit small =
    ap (λ (mask : ℕ). nat_eq (bit_and byte mask) 0) (one_shl bit 8 small)
    ∙ ap (λ (n : ℕ). nat_eq n 0) (and_pow byte bit)
    ∙ bit_test (bit_at byte bit) (2 ^ bit) (bit_at-lt byte bit) (pow_pos bit)

-- after a place was marked, its bit is set and the other bits are unchanged
pub mark_set : (marks : List ℕ) (place p : ℕ) → place < 8 * length marks →
    is_marked (set marks (place / 8) (bit_or (get_or marks (place / 8) 0) (1 * 2 ^ (place % 8) % 256))) p ≡ (p == place || is_marked marks p)
mark_set marks place p within =
    let byte = get_or marks (place / 8) 0 in
    let new = bit_or byte (1 * 2 ^ (place % 8) % 256) in
    let bit = place % 8 in
    let small : bit < 8 = omega arith in
    let inside : place / 8 < length marks = omega arith in
    elim (cases_eq (p / 8) (place / 8)) [
      | inl here ↦
          let written : get_or (set marks (place / 8) new) (p / 8) 0 ≡ new = ap (λ (at : ℕ). get_or (set marks (place / 8) new) at 0) here ∙ get_or-set_same marks (place / 8) new 0 inside in
          ap (λ (n : ℕ). n / 2 ^ (p % 8) % 2 == 1) written
          ∙ elim (cases_eq (p % 8) bit) as (λ _. (new / 2 ^ (p % 8) % 2 == 1) ≡ (p == place || is_marked marks p)) [
            | inl same ↦
                ap (λ (k : ℕ). new / 2 ^ k % 2 == 1) same
                ∙ ap (λ (n : ℕ). n == 1) (bit_at_set_same w8 byte bit small)
                ∙ sym (ap (λ (b : Bool). b || is_marked marks p) (eq-eqb p place (omega arith)))
            | inr other ↦
                ap (λ (n : ℕ). n == 1) (bit_at_set_other w8 byte bit small (p % 8) other)
                ∙ ap (λ (at : ℕ). get_or marks at 0 / 2 ^ (p % 8) % 2 == 1) (sym here)
                ∙ sym (ap (λ (b : Bool). b || is_marked marks p) (ne_eqb p place (λ is. other (ap (λ (n : ℕ). n % 8) is))))
          ]
      | inr there ↦
          ap (λ (n : ℕ). n / 2 ^ (p % 8) % 2 == 1) (get_or-set_other marks (place / 8) (p / 8) new 0 there)
          ∙ sym (ap (λ (b : Bool). b || is_marked marks p) (ne_eqb p place (λ is. there (ap (λ (n : ℕ). n / 8) is))))
    ]
