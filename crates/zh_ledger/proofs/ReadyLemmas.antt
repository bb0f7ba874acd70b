-- What a ledger stores once it is ready.
use Rattle.std.proofs.Common.{◌≡◌, inl, ⊎_elim, ℕ, true, refl, sym, ◌∙◌, subst, Ok, Err}
use Rattle.zh_disk.specs.Disk.{Trail, Moves, Leaves}
use Rattle.zh_disk.proofs.CallerLemmas.{leaves_join, leaves_none, leaves_weaken}
use Rattle.zh_returns.specs.declared.command.Command.{Command}
use Rattle.zh_returns.specs.declared.command.Format.TheVariants.{Two}
use Rattle.zh_returns.specs.Spelling.{IsSpeakable}
use Rattle.zh_snapshot.specs.declared.fault.SwitchFault.{SwitchFault}
use Rattle.zh_ledger.specs.declared.outcome.Outcome.{Outcome}
use Rattle.zh_ledger.specs.declared.outcome.Outcome.TheVariants.{Device}
use Rattle.zh_ledger.specs.Ledger.{Ledger, StoredOrDevice, Breaks, Becomes, has_room, ready}
use Rattle.zh_ledger.specs.Stands.{HoldsLedger}
use Rattle.zh_ledger.specs.Images.{KeepsOrSteps, Keeps, Stores, LeavesBy, KeepsCommand, MakesRoom}
use Rattle.zh_ledger.proofs.OutsideLemmas.{outside_then, outside_untouched}
use Rattle.zh_ledger.proofs.RoomLemmas.{ready_already, stored_ready}

-- if there is room, nothing is done
pub has_made_room : (s : Ledger) (c : Command) (len : ℕ) (t : Trail) → has_room s c ≡ true → MakesRoom s c (Ok len) t t
has_made_room s c len t room = record {
  moments = leaves_none (Keeps s) t t refl;
  outside = outside_untouched t t refl;
  done = λ d image. (d, image, λ kept. subst (λ (l : Ledger). HoldsLedger l d) (sym (ready_already s c room)) kept);
}

-- the ledger after the command
pub becomes_ready : (s : Ledger) (c : Command) (accepted : ℕ) (outcome : Outcome) (new : Ledger) → IsSpeakable Two c
    → StoredOrDevice accepted outcome → Becomes (ready s c) c outcome new → Becomes s c outcome new
becomes_ready s c accepted outcome new speakable results by = ⊎_elim
    (λ is. subst (λ (o : Outcome). Becomes s c o new) (sym is) (subst (λ (o : Outcome). Becomes (ready s c) c o new) is by ∙ stored_ready s c speakable))
    (λ is.
    let broken : Breaks (ready s c) new = subst (λ (o : Outcome). Becomes (ready s c) c o new) is by in
    subst (λ (o : Outcome). Becomes s c o new) (sym is) (record { tally = broken.tally; broken = broken.broken })) results

-- while the ledger is made ready, the command is not on the disk
pub not_made_ready : (s : Ledger) (c : Command) (e : SwitchFault) (t u : Trail) → MakesRoom s c (Err e) t u → KeepsCommand s c Device t u
not_made_ready s c e t u by = record {
  leaves = leaves_weaken (Keeps s) (KeepsOrSteps s c) t u (λ x f image still kept. inl (still kept)) by.moments;
  outside = by.outside;
}

-- the ledger is made ready, and then it stores
module _ (s : Ledger) (c : Command) (speakable : IsSpeakable Two c) (len : ℕ) (t0 t1 t2 : Trail) (first : MakesRoom s c (Ok len) t0 t1) where
  each_moment : Leaves (KeepsOrSteps (ready s c) c) t1 t2 → Leaves (KeepsOrSteps s c) t0 t2
  each_moment run = leaves_join (Keeps s) (KeepsOrSteps (ready s c) c) (KeepsOrSteps s c) t0 t1 t2 first.moments run
      (λ x f image by kept. inl (by kept))
      (λ x f image by. let from = first.done x image in (from.0, from.1, λ kept. by (from.2 kept)))

  last_moment : Moves (Stores (ready s c) c) t1.now t2.now → Moves (Stores s c) t0.now t2.now
  last_moment moves = λ f image.
      let mid = moves f image in
      let from = first.done mid.0 mid.1 in
      (from.0, from.1, λ kept. subst (λ (l : Ledger). HoldsLedger l f) (stored_ready s c speakable) (mid.2 (from.2 kept)))

  leaves_ready : (accepted : ℕ) (outcome : Outcome) → StoredOrDevice accepted outcome → LeavesBy (ready s c) c outcome t1 t2 → LeavesBy s c outcome t0 t2
  leaves_ready accepted outcome results leaves = ⊎_elim
      (λ is.
      let both = subst (λ (o : Outcome). LeavesBy (ready s c) c o t1 t2) is leaves in
      subst (λ (o : Outcome). LeavesBy s c o t0 t2) (sym is) (each_moment both.0, last_moment both.1))
      (λ is. subst (λ (o : Outcome). LeavesBy s c o t0 t2) (sym is) (each_moment (subst (λ (o : Outcome). LeavesBy (ready s c) c o t1 t2) is leaves))) results

  pub keeps_once_ready : (accepted : ℕ) (outcome : Outcome) → StoredOrDevice accepted outcome → KeepsCommand (ready s c) c outcome t1 t2 → KeepsCommand s c outcome t0 t2
  keeps_once_ready accepted outcome results by =
      record { leaves = leaves_ready accepted outcome results by.leaves; outside = outside_then t0 t1 t2 first.outside by.outside }
