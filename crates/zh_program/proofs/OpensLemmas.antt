-- What an opening finds of a count, and what it leaves. An image represents at most one count of a set-up and contains that
-- set-up, so it opens to the count that it holds; and a migration preserves that count.
use Rattle.std.proofs.Common.{◌≡◌, ◌⊎◌, inl, inr, ⊎_elim, ℕ, List, [], Result, Ok, Err, MatchResult, IsTrue, refl, sym, ◌∙◌, ap, subst}
use Rattle.zh_disk.specs.Disk.{Trail, IsImage, Leaves, fresh_trail}
use Rattle.zh_disk.specs.History.{History}
use Rattle.zh_districts.specs.Canton.{Canton, IsCanton}
use Rattle.zh_districts.specs.Spelling.{setup_spelling}
use Rattle.zh_districts.proofs.CallerLemmas.{same_setup}
use Rattle.zh_returns.specs.Tally.{Tally}
use Rattle.zh_snapshot.specs.Image.{Content, IsClean, IsFramed}
use Rattle.zh_snapshot.proofs.CallerLemmas.{framed_alike}
use Rattle.zh_returns.specs.declared.command.Format.{Format}
use Rattle.zh_returns.specs.declared.command.Format.TheVariants.{One}
use Rattle.zh_ledger.specs.Ledger.{Ledger}
use Rattle.zh_ledger.specs.Opening.{IsCause, MayLeave, Migrates, Opens}
use Rattle.zh_ledger.specs.Stands.{Holds, HoldsLedger, HoldsFramed, StandsFor}
use Rattle.zh_ledger.specs.Submissions.{OnDisk}
use Rattle.zh_ledger.specs.declared.opening.OpenFault.{OpenFault}
use Rattle.zh_ledger.specs.declared.opening.OpenFault.TheVariants as faults
use Rattle.zh_ledger.proofs.CallerLemmas.{found_count, has_none, migrated_holds, one_count, only_image}
use Rattle.zh_office.specs.Office.{Office}
use Rattle.zh_program.specs.Opened.{IsStart}
use Rattle.zh_program.specs.Stopped.{Always, OpensTo}
use Rattle.zh_program.proofs.AlwaysLemmas.{always_left}
use Rattle.zh_program.proofs.SoundLemmas.{holds_kept}
use Rattle.zh_program.proofs.TurnLemmas.{IsAt}

-- An image that holds a count opens to it.
pub opens_to : (count : Tally) (c : List ℕ) → Holds count c → OpensTo count c
opens_to count c holds = record {
  stands = record { content = holds.content; end = holds.end; format = holds.format; framed = holds.clean.framed; stands = holds.stands };
  only = λ other own stood.
      (one_count c stood.content holds.content stood.end holds.end stood.format holds.format other count
      stood.framed holds.clean.framed stood.stands holds.stands own).1;
}

-- So the only causes to refuse it are memory and the device.
pub no_cause : (count : Tally) (c : List ℕ) (fault : OpenFault) → OpensTo count c
    → IsCause count.canton c fault
    → (fault ≡ faults.Memory) ⊎ (fault ≡ faults.Device)
no_cause count c faults.Memory to cause = inl refl
no_cause count c faults.Device to cause = inr refl
no_cause count c faults.Blank to cause = absurd (cause to.stands.framed.gate)
no_cause count c faults.SetupDiffers to cause =
    let same = framed_alike cause.content to.stands.content cause.end to.stands.end c cause.framed to.stands.framed in
    absurd (cause.other (ap (λ (x : Content). x.setup) same.0 ∙ to.stands.stands.setup))
no_cause count c faults.Damaged to cause =
    absurd (cause.nothing to.stands.content to.stands.end to.stands.framed to.stands.format count refl to.stands.stands)

-- So each opening of such an image ends with that count, or in one of these faults.
pub reopens : (count : Tally) (result : Result Ledger OpenFault) (old new : Trail) → OpensTo count old.now.bytes
    → Opens count.canton result old new
    → MatchResult result (λ ledger. ledger.tally ≡ count) (λ fault. (fault ≡ faults.Memory) ⊎ (fault ≡ faults.Device))
reopens count (Ok ledger) old new to opens = to.only ledger.tally opens.opened.opened.ready.set_up opens.opened.stood
reopens count (Err fault) old new to opens = no_cause count old.now.bytes fault to opens.refused

-- The set-up of a count that the bytes represent.
module _ (canton : Canton) (bytes : List ℕ) (tally : Tally) (limits : IsCanton canton) (own : IsCanton tally.canton) (holds : Holds tally bytes) where
  same_canton : (other : Tally) (format : Format) (x : Content) (j : ℕ) → IsFramed x j bytes
      → StandsFor format x other
      → other.canton ≡ canton
      → tally.canton ≡ canton
  same_canton other format x j framed stands is =
      let alike = framed_alike x holds.content j holds.end bytes framed holds.clean.framed in
      let spelled : setup_spelling other.canton ≡ setup_spelling tally.canton
      = sym stands.setup ∙ ap (λ (y : Content). y.setup) alike.0 ∙ holds.stands.setup in
      sym (same_setup other.canton tally.canton (subst IsCanton (sym is) limits) own spelled) ∙ is

  migrated : (c : List ℕ) → Migrates canton bytes c → Holds tally c
  migrated c m = migrated_holds canton bytes c tally (same_canton m.tally One m.content m.end m.framed m.stands m.own) holds m

  -- What an opening leaves of the bytes holds the count that they held, at each moment.
  pub opening_holds : (last : Trail) → Leaves (MayLeave canton bytes) (fresh_trail bytes) last → Always (Holds tally) (fresh_trail bytes) last
  opening_holds last leaves = always_left (MayLeave canton bytes) (Holds tally) (fresh_trail bytes) last leaves
      (λ d c image by. ⊎_elim (λ still. subst (Holds tally) (sym still) holds) (λ moved. migrated c moved) by.1)
      (λ c image. subst (Holds tally) (sym (only_image bytes c image)) holds)

-- The office that was opened on such a disk.
module _ (canton : Canton) (first : History) (start : OnDisk Office) (begun : IsStart canton first start)
    (honest : IsTrue start.history.honest) (bytes : List ℕ) (fresh : first.trail ≡ fresh_trail bytes)
    (tally : Tally) (limits : IsCanton canton) (own : IsCanton tally.canton) (holds : Holds tally bytes) where
  opens : Opens canton (Ok start.holder.ledger) (fresh_trail bytes) start.history.trail
  opens = subst (λ (t : Trail). Opens canton (Ok start.holder.ledger) t start.history.trail) fresh (begun.opening.call.did honest)

  pub opening_always : Always (Holds tally) (fresh_trail bytes) start.history.trail
  opening_always = opening_holds canton bytes tally limits own holds start.history.trail opens.moments

  stood : HoldsFramed start.holder.ledger.tally bytes
  stood = opens.opened.stood

  own_count : start.holder.ledger.tally ≡ tally
  own_count =
      let ledger = start.holder.ledger in
      let set_up = begun.opening.ready.set_up in
      let own_canton = same_canton canton bytes tally limits own holds ledger.tally stood.format stood.content stood.end stood.framed stood.stands set_up in
      found_count canton (fresh_trail bytes) start.history.trail ledger opens tally own_canton holds

  knows : (c : List ℕ) → IsImage start.history.trail.now c → HoldsLedger start.holder.ledger c
  knows =
      let clean = subst (λ (t : Trail). IsClean holds.content holds.end t.now.bytes) (sym fresh) holds.clean in
      begun.kept honest holds.content holds.end clean

  pub started : IsAt tally start.history.trail [] start
  started = record {
    disk = refl;
    held = sym begun.held;
    sound = record {
      count = own_count;
      each = λ c image. has_none tally [] c (subst (λ (t : Tally). Holds t c) own_count (holds_kept start.holder.ledger c (knows c image)));
      whole = λ whole. record { all = refl; images = knows };
    };
  }
