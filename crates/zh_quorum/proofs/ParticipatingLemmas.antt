-- Which of the groups looked at so far take part.
use Rattle.std.proofs.Common.{◌≡◌, ℕ, ◌+◌, ◌-◌, ◌≤◌, ◌↔◌, Bool, false, IsTrue, List, [], ◌∷◌, ◌++◌, length, get_or, length-append, arith}
use Rattle.std.proofs.lemmas.Grind.{common_steps}
use Rattle.zh_totals.specs.Totals.{VoteTotals}
use Rattle.zh_quorum.specs.Quorum.{TakesPart}

-- the flags of the first n groups
pub record AreParticipatingTo (totals : VoteTotals) (taking : List Bool) (n : ℕ) : Type 0 where
  pub one_each : length taking ≡ n
  pub each : (g : ℕ) → 1 ≤ g → g ≤ n → IsTrue (get_or taking (g - 1) false) ↔ TakesPart totals g

-- flags that say of each number whether P holds, with one more
flags-more : (P : ℕ → Type 0) (flags : List Bool) (n : ℕ) (flag : Bool) → length flags ≡ n → ((g : ℕ) → 1 ≤ g → g ≤ n → IsTrue (get_or flags (g - 1) false) ↔ P g)
    → (IsTrue flag ↔ P (n + 1)) → (g : ℕ) → 1 ≤ g → g ≤ n + 1 → IsTrue (get_or (flags ++ flag ∷ []) (g - 1) false) ↔ P g
flags-more P flags n flag long each is = grind (arith, common_steps, each, is)

-- one more group
pub AreParticipatingTo-more : (totals : VoteTotals) (taking : List Bool) (n : ℕ) (flag : Bool) → AreParticipatingTo totals taking n
    → (IsTrue flag ↔ TakesPart totals (n + 1)) → AreParticipatingTo totals (taking ++ flag ∷ []) (n + 1)
AreParticipatingTo-more totals taking n flag so is = record {
  one_each = omega (arith, length-append {A = Bool}, so.one_each);
  each = flags-more (TakesPart totals) taking n flag so.one_each so.each is;
}
