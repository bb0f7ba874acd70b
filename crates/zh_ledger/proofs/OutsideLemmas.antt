-- A write within a slot changes nothing outside the two slots.
use Rattle.std.proofs.Common.{◌≡◌, ◌<◌, ◌≤◌, ◌+◌, ◌∙◌, inl, inr, ⊎_elim, ℕ, List, arith}
use Rattle.zh_disk.specs.Disk.{Trail, Leaves, IsOutside, SameOutside}
use Rattle.zh_disk.proofs.CallerLemmas.{leaves_more, leaves_none, same_refl}
use Rattle.zh_snapshot.specs.declared.layout.Slot.{Slot}
use Rattle.zh_snapshot.specs.declared.layout.Slot.TheVariants.{First, Second}
use Rattle.zh_snapshot.specs.Layout.{slot_at, journal_at}
use Rattle.zh_ledger.specs.Images.{SameOutsideSlots}

outside_journal : (slot : Slot) (k : ℕ) → IsOutside 69632 1049088 k → IsOutside (journal_at slot) 262144 k
outside_journal First k out = ⊎_elim (λ (below : k < 69632). inl (omega (arith, below))) (λ (above : 69632 + 1049088 ≤ k). inr (omega (arith, above))) out
outside_journal Second k out = ⊎_elim (λ (below : k < 69632). inl (omega (arith, below))) (λ (above : 69632 + 1049088 ≤ k). inr (omega (arith, above))) out

outside_slot : (slot : Slot) (k : ℕ) → IsOutside 69632 1049088 k → IsOutside (slot_at slot) 524544 k
outside_slot First k out = ⊎_elim (λ (below : k < 69632). inl (omega (arith, below))) (λ (above : 69632 + 1049088 ≤ k). inr (omega (arith, above))) out
outside_slot Second k out = ⊎_elim (λ (below : k < 69632). inl (omega (arith, below))) (λ (above : 69632 + 1049088 ≤ k). inr (omega (arith, above))) out

outside_more : (x y z : List ℕ) → SameOutsideSlots x y → SameOutsideSlots y z → SameOutsideSlots x z
outside_more x y z first then = record { size = then.size ∙ first.size; same = λ k out. then.same k out ∙ first.same k out }

pub within_journal : (slot : Slot) (x y : List ℕ) → SameOutside (journal_at slot) 262144 x y → SameOutsideSlots x y
within_journal slot x y by = record { size = by.size; same = λ k out. by.same k (outside_journal slot k out) }

pub within_slot : (slot : Slot) (x y : List ℕ) → SameOutside (slot_at slot) 524544 x y → SameOutsideSlots x y
within_slot slot x y by = record { size = by.size; same = λ k out. by.same k (outside_slot slot k out) }

pub outside_then : (t u v : Trail) → Leaves SameOutsideSlots t u → Leaves SameOutsideSlots u v → Leaves SameOutsideSlots t v
outside_then t u v = leaves_more SameOutsideSlots t u v (same_refl 69632 1049088) outside_more

pub outside_untouched : (t u : Trail) → u ≡ t → Leaves SameOutsideSlots t u
outside_untouched t u is = leaves_none SameOutsideSlots t u is
