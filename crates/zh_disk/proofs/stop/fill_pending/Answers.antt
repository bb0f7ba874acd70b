use Rattle.std.proofs.Common.{◌≡◌, inl, inr, ⊎_elim, ◌+◌, ◌-◌, ℕ, List, [], ◌∷◌, take, length, sym, ◌∙◌, subst, arith}
use Rattle.std.proofs.lemmas.Bool.{cases_lt}
use Rattle.zh_disk.specs.Disk.{IsSettled, IsOutside}
use Rattle.zh_disk.specs.Calls.{pending_after}
use Rattle.zh_disk.proofs.ReplayLemmas.{at_write, at_sync}
use Rattle.zh_disk.proofs.stop.fill_pending.Goals as goal

pub returns-in-Sync : goal.returns-in-Sync
returns-in-Sync c =
    let inv = c.loop-i.invariant in
    let none : pending_after [] (take c.loop-i.i c.args.calls.now) ≡ [] = at_sync c.args.calls.now c.loop-i.i c.index-calls-i.result (omega arith) c.loop-i.auto.i c.index-calls-i.is c.in-Sync.is in
    record {
      kept = inv.kept;
      filled = λ k low not. inv.filled k low (subst (λ (p : List (ℕ × ℕ)). IsSettled p k) (sym none) tt) not;
    }

pub loop-i-preserved : goal.loop-i-preserved
loop-i-preserved c =
    let inv = c.loop-i.invariant in
    let n = length c.in-Write.from.items in
    let wide : c.len.result ≡ length c.in-Write.from.items = c.len.ensures ∙ c.in-Write.from.ok.0 in
    let more : pending_after [] (take c.loop-i.i c.args.calls.now) ≡ (c.in-Write.at, length c.in-Write.from.items) ∷ pending_after [] (take (c.loop-i.i - 1) c.args.calls.now) =
    at_write c.args.calls.now c.loop-i.i c.index-calls-i.result (omega arith) c.loop-i.auto.i c.index-calls-i.is c.in-Write.at c.in-Write.from c.in-Write.is in
    let split = λ (k : ℕ) (s : IsSettled (pending_after [] c.args.calls.now) k). subst (λ (p : List (ℕ × ℕ)). IsSettled p k) more (inv.fewer k s) in
    record {
      fewer = λ k s. (split k s).1;
      kept = λ k s. c.fill_range.ensures.outside k (subst (λ (w : ℕ). IsOutside c.in-Write.at w k) (sym wide) (split k s).0) ∙ inv.kept k s;
      filled = λ k low s not.
          let out = λ (o : IsOutside c.in-Write.at (length c.in-Write.from.items) k).
          c.fill_range.ensures.outside k (subst (λ (w : ℕ). IsOutside c.in-Write.at w k) (sym wide) o) ∙ inv.filled k low (subst (λ (p : List (ℕ × ℕ)). IsSettled p k) (sym more) (o, s)) not in
          ⊎_elim (λ before. out (inl before))
          (λ from. ⊎_elim (λ inside. c.fill_range.ensures.inside k from (omega (arith, wide)) (omega (arith, c.loop-i.auto.bytes)))
          (λ behind. out (inr behind)) (cases_lt k (c.in-Write.at + length c.in-Write.from.items)))
          (cases_lt k c.in-Write.at);
    }
