use Rattle.std.proofs.Common.{◌≡◌, ◌<◌, ◌≤◌, inl, inr, ⊎_elim, ◌+◌, ◌-◌, ℕ, List, [], ◌∷◌, take, length, sym, ◌∙◌, subst, ap, arith}
use Rattle.std.proofs.lemmas.Bool.{cases_lt}
use Rattle.std.proofs.lemmas.List.{ext_get_or, get_or_past}
use Rattle.zh_disk.specs.Disk.{IsSettled, IsOutside}
use Rattle.zh_disk.specs.Calls.{pending_after}
use Rattle.zh_disk.proofs.ReplayLemmas.{at_write, at_sync}
use Rattle.zh_disk.proofs.stop.copy_pending.Goals as goal

pub returns-in-Sync : goal.returns-in-Sync
returns-in-Sync c =
    let none : pending_after [] (take c.loop-i.i c.args.calls.now) ≡ [] = at_sync c.args.calls.now c.loop-i.i c.index-calls-i.result (omega arith) c.loop-i.auto.i c.index-calls-i.is c.in-Sync.is in
    ext_get_or 0 c.loop-i.to c.args.from.now (omega (arith, c.loop-i.auto.to, c.requires.size)) (λ k low. c.loop-i.invariant k (subst (λ (p : List (ℕ × ℕ)). IsSettled p k) (sym none) tt))

pub returns-after-loop-i : goal.returns-after-loop-i
returns-after-loop-i c =
    let first : c.loop-i.i ≡ 0 = omega arith in
    let none : pending_after [] (take c.loop-i.i c.args.calls.now) ≡ [] = ap (λ (n : ℕ). pending_after [] (take n c.args.calls.now)) first in
    ext_get_or 0 c.loop-i.to c.args.from.now (omega (arith, c.loop-i.auto.to, c.requires.size)) (λ k low. c.loop-i.invariant k (subst (λ (p : List (ℕ × ℕ)). IsSettled p k) (sym none) tt))

pub loop-i-preserved : goal.loop-i-preserved
loop-i-preserved c =
    let wide : c.len.result ≡ length c.in-Write.bytes.items = c.len.ensures ∙ c.in-Write.bytes.ok.0 in
    let more : pending_after [] (take c.loop-i.i c.args.calls.now) ≡ (c.in-Write.at, length c.in-Write.bytes.items) ∷ pending_after [] (take (c.loop-i.i - 1) c.args.calls.now) =
    at_write c.args.calls.now c.loop-i.i c.index-calls-i.result (omega arith) c.loop-i.auto.i c.index-calls-i.is c.in-Write.at c.in-Write.bytes c.in-Write.is in
    λ k settled.
    let out = λ (o : IsOutside c.in-Write.at (length c.in-Write.bytes.items) k).
    c.copy_range.ensures.outside k (subst (λ (w : ℕ). IsOutside c.in-Write.at w k) (sym wide) o) ∙ c.loop-i.invariant k (subst (λ (p : List (ℕ × ℕ)). IsSettled p k) (sym more) (o, settled)) in
    let copied = λ (from : c.in-Write.at ≤ k) (inside : k < c.in-Write.at + length c.in-Write.bytes.items). ⊎_elim
    (λ low. c.copy_range.ensures.inside k from (omega (arith, wide)) (omega (arith, c.loop-i.auto.to)))
    (λ past. get_or_past c.copy_range.new.to k 0 (omega (arith, c.copy_range.auto.to, c.loop-i.auto.to)) ∙ sym (get_or_past c.args.from.now k 0 (omega (arith, c.requires.size))))
    (cases_lt k (length c.args.to.now)) in
    ⊎_elim (λ before. out (inl before))
    (λ from. ⊎_elim (λ inside. copied from inside) (λ behind. out (inr behind)) (cases_lt k (c.in-Write.at + length c.in-Write.bytes.items)))
    (cases_lt k c.in-Write.at)
