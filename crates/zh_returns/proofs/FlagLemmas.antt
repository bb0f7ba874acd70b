-- What flags of municipalities mean.
use Rattle.std.proofs.Common.{◌≡◌, ◌≢◌, ◌<◌, ◌≤◌, ◌+◌, ◌-◌, ◌∙◌, ◌||◌, ◌&&◌, ℕ, zero, suc, Bool, true, false, not, List, [], ◌∷◌, length, get_or, set, sym, ap, subst, refl, arith, inl, inr}
use Rattle.std.specs.Cmp.{nat_cmp_total, tied_itself, Equal-is}
use Rattle.std.specs.List.{All, AllByRecursion, list_any}
use Rattle.std.specs.Ordering.{eq_by_cmp, is_eq, nat_cmp}
use Rattle.std.specs.FinSet as set_of
use Rattle.std.proofs.lemmas.Bool.{false≢true, cases_eq, and_left, and_right, or_left}
use Rattle.std.proofs.lemmas.List.{get_or_read, get_or-set_same, get_or-set_other}
use Rattle.std.proofs.lemmas.List.Elements.{recursion_from_All}
use Rattle.std.proofs.lemmas.Map.Lookups.{exact_unsigned}
use Rattle.zh_returns.specs.Tables.{flagged_from, closed_of}

same_number : (a : ℕ) → eq_by_cmp nat_cmp a a ≡ true
same_number a = ap is_eq (tied_itself nat_cmp_total a)

other_number : (a b : ℕ) → a ≢ b → eq_by_cmp nat_cmp a b ≡ false
other_number a b ne =
    elim (eq_by_cmp nat_cmp a b) as (λ v. eq_by_cmp nat_cmp a b ≡ v → v ≡ false) [
      | true ↦ λ is. absurd (ne (exact_unsigned a b ((Equal-is (nat_cmp a b)).0 is)))
      | false ↦ λ is. refl
    ] refl

-- no municipality before the first is flagged
flagged_missed : (municipality : ℕ) (flags : List Bool) (m : ℕ) → m < municipality → list_any (eq_by_cmp nat_cmp m) (flagged_from municipality flags) ≡ false
flagged_missed municipality [] m before = refl
flagged_missed municipality (false ∷ flags) m before = flagged_missed (municipality + 1) flags m (omega arith)
flagged_missed municipality (true ∷ flags) m before =
    ap (λ b. b || list_any (eq_by_cmp nat_cmp m) (flagged_from (municipality + 1) flags)) (other_number m municipality (λ is. omega arith))
    ∙ flagged_missed (municipality + 1) flags m (omega arith)

-- a municipality is flagged if and only if its flag is set
flagged_at : (municipality i : ℕ) (flags : List Bool) → list_any (eq_by_cmp nat_cmp (municipality + i)) (flagged_from municipality flags) ≡ get_or flags i false
flagged_at municipality i [] = refl
flagged_at municipality zero (false ∷ flags) = flagged_missed (municipality + 1) flags (municipality + 0) (omega arith)
flagged_at municipality zero (true ∷ flags) =
    let here : municipality + 0 ≡ municipality = omega arith in
    ap (λ m. eq_by_cmp nat_cmp m municipality || list_any (eq_by_cmp nat_cmp (municipality + 0)) (flagged_from (municipality + 1) flags)) here
    ∙ ap (λ b. b || list_any (eq_by_cmp nat_cmp (municipality + 0)) (flagged_from (municipality + 1) flags)) (same_number municipality)
flagged_at municipality (suc i) (false ∷ flags) =
    let next : municipality + suc i ≡ (municipality + 1) + i = omega arith in
    ap (λ m. list_any (eq_by_cmp nat_cmp m) (flagged_from (municipality + 1) flags)) next ∙ flagged_at (municipality + 1) i flags
flagged_at municipality (suc i) (true ∷ flags) =
    let next : municipality + suc i ≡ (municipality + 1) + i = omega arith in
    ap (λ b. b || list_any (eq_by_cmp nat_cmp (municipality + suc i)) (flagged_from (municipality + 1) flags)) (other_number (municipality + suc i) municipality (λ is. omega arith))
    ∙ ap (λ m. list_any (eq_by_cmp nat_cmp m) (flagged_from (municipality + 1) flags)) next ∙ flagged_at (municipality + 1) i flags

-- a municipality is closed if and only if its flag is set
pub contains-closed_of : (flags : List Bool) (municipality : ℕ) → 1 ≤ municipality → set_of.contains (closed_of flags) municipality ≡ get_or flags (municipality - 1) false
contains-closed_of flags municipality from_one =
    set_of.contains-from_list nat_cmp_total (flagged_from 1 flags) municipality
    ∙ subst (λ m. list_any (eq_by_cmp nat_cmp m) (flagged_from 1 flags) ≡ get_or flags (municipality - 1) false) (omega arith) (flagged_at 1 (municipality - 1) flags)

-- the flag that was read says whether the municipality is closed
pub read_flag : (flags : List Bool) (municipality : ℕ) (read : Bool) → 1 ≤ municipality → municipality ≤ length flags → read
    ≡ get_or flags (municipality - 1) read → read ≡ set_of.contains (closed_of flags) municipality
read_flag flags municipality read from_one within read_is =
    get_or_read flags (municipality - 1) read (omega arith) read_is false ∙ sym (contains-closed_of flags municipality from_one)

-- if no flag is set, the set is empty
flagged_from-unset : (municipality : ℕ) (flags : List Bool) → AllByRecursion (λ (flag : Bool). flag ≡ false) flags → flagged_from municipality flags ≡ []
flagged_from-unset municipality [] unset = refl
flagged_from-unset municipality (false ∷ flags) unset = flagged_from-unset (municipality + 1) flags unset.1
flagged_from-unset municipality (true ∷ flags) unset = absurd (false≢true (sym unset.0))

pub closed_of-unset : (flags : List Bool) → All (λ (flag : Bool). flag ≡ false) flags → closed_of flags ≡ set_of.empty
closed_of-unset flags unset = ap (set_of.from_list {R = nat_cmp}) (flagged_from-unset 1 flags (recursion_from_All (λ (flag : Bool). flag ≡ false) flags unset))

-- municipality 0 is never closed
pub closed_from_one : (flags : List Bool) (m : ℕ) → set_of.contains (closed_of flags) m ≡ true → 1 ≤ m
closed_from_one flags zero is = absurd (false≢true (sym (flagged_missed 1 flags 0 (omega arith)) ∙ sym (set_of.contains-from_list nat_cmp_total (flagged_from 1 flags) 0) ∙ is))
closed_from_one flags (suc m) is = omega arith

-- municipality 0 is not closed
none_closed : (flags : List Bool) → set_of.contains (closed_of flags) 0 ≡ false
none_closed flags = set_of.contains-from_list nat_cmp_total (flagged_from 1 flags) 0 ∙ flagged_missed 1 flags 0 (omega arith)

-- what holds for municipality 0, which is not closed, and for each flag, holds for each municipality
at_flag : (P : ℕ → Bool → Type 0) (flags : List Bool) (m : ℕ) → P 0 false → (1 ≤ m → P m (get_or flags (m - 1) false)) → P m (set_of.contains (closed_of flags) m)
at_flag P flags zero none some = subst (P 0) (sym (none_closed flags)) none
at_flag P flags (suc m) none some = let from_one : 1 ≤ suc m = omega arith in subst (P (suc m)) (sym (contains-closed_of flags (suc m) from_one)) (some from_one)

-- setting the flag of a municipality is inserting it into the set
pub closed_of-set : (flags : List Bool) (municipality : ℕ) → 1 ≤ municipality → municipality ≤ length flags
    → closed_of (set flags (municipality - 1) true) ≡ set_of.insert (closed_of flags) municipality
closed_of-set flags municipality from_one within =
    let new = set flags (municipality - 1) true in
    let inside : municipality - 1 < length flags = omega arith in
    set_of.same_set nat_cmp_total exact_unsigned (closed_of new) (set_of.insert (closed_of flags) municipality) (λ m.
    at_flag (λ n b. b ≡ set_of.contains (set_of.insert (closed_of flags) municipality) n) new m
    (
    sym (set_of.contains-insert nat_cmp_total (closed_of flags) municipality 0 ∙ ap (λ b. b || set_of.contains (closed_of flags) 0)
    (other_number 0 municipality (λ is. omega arith)) ∙ none_closed flags)
    )
    (λ some.
    elim (cases_eq m municipality) [
      | inl same ↦
          ap (λ n. get_or new (n - 1) false) same ∙ get_or-set_same flags (municipality - 1) true false inside
          ∙ sym (set_of.contains-insert nat_cmp_total (closed_of flags) municipality m ∙ or_left (eq_by_cmp nat_cmp m municipality)
          (set_of.contains (closed_of flags) m) (ap (λ n. eq_by_cmp nat_cmp n municipality) same ∙ same_number municipality))
      | inr other ↦
          get_or-set_other flags (municipality - 1) (m - 1) true false (λ is. other (omega arith))
          ∙ sym (contains-closed_of flags m some)
          ∙ sym (set_of.contains-insert nat_cmp_total (closed_of flags) municipality m ∙ ap (λ b. b || set_of.contains (closed_of flags) m) (other_number m municipality other))
    ]
    )
    )

-- clearing the flag is removing it from the set
pub closed_of-clear : (flags : List Bool) (municipality : ℕ) → 1 ≤ municipality → municipality ≤ length flags
    → closed_of (set flags (municipality - 1) false) ≡ set_of.remove (closed_of flags) municipality
closed_of-clear flags municipality from_one within =
    let new = set flags (municipality - 1) false in
    let inside : municipality - 1 < length flags = omega arith in
    set_of.same_set nat_cmp_total exact_unsigned (closed_of new) (set_of.remove (closed_of flags) municipality) (λ m.
    at_flag (λ n b. b ≡ set_of.contains (set_of.remove (closed_of flags) municipality) n) new m
    (
    sym (set_of.contains-remove nat_cmp_total (closed_of flags) municipality 0 ∙ and_right (not (eq_by_cmp nat_cmp 0 municipality)) (set_of.contains (closed_of flags) 0) (none_closed flags))
    )
    (λ some.
    elim (cases_eq m municipality) [
      | inl same ↦
          ap (λ n. get_or new (n - 1) false) same ∙ get_or-set_same flags (municipality - 1) false false inside
          ∙ sym (set_of.contains-remove nat_cmp_total (closed_of flags) municipality m ∙ and_left (not (eq_by_cmp nat_cmp m municipality))
          (set_of.contains (closed_of flags) m) (ap not (ap (λ n. eq_by_cmp nat_cmp n municipality) same ∙ same_number municipality)))
      | inr other ↦
          get_or-set_other flags (municipality - 1) (m - 1) false false (λ is. other (omega arith))
          ∙ sym (contains-closed_of flags m some)
          ∙ sym (set_of.contains-remove nat_cmp_total (closed_of flags) municipality m ∙ ap (λ b. not b && set_of.contains (closed_of flags) m) (other_number m municipality other))
    ]
    )
    )
