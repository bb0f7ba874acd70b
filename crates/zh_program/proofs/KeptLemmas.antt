-- What is kept of the commands of a run or a load.
use Rattle.std.proofs.Common.{◌≡◌, ◌∙◌, ◌⊎◌, ⊎_elim, ℕ, List, Ok, IsTrue, sym, ap, subst}
use Rattle.zh_districts.specs.Canton.{Canton, IsCanton}
use Rattle.zh_districts.proofs.CallerLemmas.{same_setup}
use Rattle.zh_districts.specs.Spelling.{setup_spelling}
use Rattle.zh_disk.specs.Disk.{IsImage, Leaves}
use Rattle.zh_disk.specs.History.{History}
use Rattle.zh_disk.proofs.CallerLemmas.{image_now, leaves_join}
use Rattle.zh_returns.specs.Tally.{Tally}
use Rattle.zh_snapshot.specs.Image.{Content}
use Rattle.zh_snapshot.proofs.CallerLemmas.{framed_alike}
use Rattle.zh_ledger.specs.Images.{ComesToHave, HasSome}
use Rattle.zh_ledger.specs.Opening.{MayLeave, Migrates, Opens}
use Rattle.zh_ledger.specs.Stands.{Holds, HoldsFramed}
use Rattle.zh_ledger.specs.Submissions.{IsLogged, Log, OnDisk}
use Rattle.zh_ledger.proofs.CallerLemmas.{found_count, has_none, migrated_holds}
use Rattle.zh_office.specs.Office.{Office, its_ledger}
use Rattle.zh_program.specs.Opened.{IsFrom, KeepsAll}

module _ (canton : Canton) (first last : History) (start end : OnDisk Office) (log : Log) (tally : Tally) (honest : IsTrue last.honest) (from : IsFrom canton first last start end)
    (logs : IsLogged (its_ledger start) log (its_ledger end)) (limits : IsCanton canton) (own : IsCanton tally.canton) (holds : Holds tally first.trail.now.bytes) where
  abbrev opens : Opens canton (Ok start.holder.ledger) first.trail start.history.trail
  opens = from.begun.opening.call.did (from.honest honest)

  abbrev stood : HoldsFramed start.holder.ledger.tally first.trail.now.bytes
  stood = opens.opened.stood

  -- The set-up in the bytes is that of the office.
  own_canton : start.holder.ledger.tally.canton ≡ tally.canton
  own_canton =
      let alike = framed_alike stood.content holds.content stood.end holds.end first.trail.now.bytes stood.framed holds.clean.framed in
      let spelled : setup_spelling start.holder.ledger.tally.canton ≡ setup_spelling tally.canton = sym stood.stands.setup ∙ ap (λ (x : Content). x.setup) alike.0 ∙ holds.stands.setup in
      same_setup start.holder.ledger.tally.canton tally.canton (subst IsCanton (sym from.begun.opening.ready.set_up) limits) own spelled

  own_count : start.holder.ledger.tally ≡ tally
  own_count = found_count canton first.trail start.history.trail start.holder.ledger opens tally (sym own_canton ∙ from.begun.opening.ready.set_up) holds

  has : (least : ℕ) (d c : List ℕ) → IsImage start.history.trail.now d → ComesToHave start.holder.ledger log.accepted least d c → HasSome tally log.accepted least c
  has least d c image by = subst (λ (t : Tally). HasSome t log.accepted least c) own_count (by (from.begun.kept (from.honest honest) holds.content holds.end holds.clean d image))

  -- What an opening leaves of the bytes holds the count that they held.
  still_holds : (f : List ℕ) → (f ≡ first.trail.now.bytes) ⊎ Migrates canton first.trail.now.bytes f → Holds tally f
  still_holds f by = ⊎_elim
      (λ still. subst (Holds tally) (sym still) holds)
      (λ moved. migrated_holds canton first.trail.now.bytes f tally (sym own_canton ∙ from.begun.opening.ready.set_up) holds moved) by

  any_moment : Leaves (λ old new. HasSome tally log.accepted 0 new) first.trail end.history.trail
  any_moment =
      let Opened = MayLeave canton first.trail.now.bytes in
      let Came = ComesToHave start.holder.ledger log.accepted 0 in
      leaves_join Opened Came (λ old new. HasSome tally log.accepted 0 new) first.trail start.history.trail end.history.trail opens.moments logs.each_moment
      (λ x f image by. has_none tally log.accepted f (still_holds f by.1))
      (λ x f image by. (first.trail.now.bytes, image_now first.trail.now, has 0 x f image by))

  at_the_end : (c : List ℕ) → IsImage end.history.trail.now c → HasSome tally log.accepted log.acknowledged c
  at_the_end c image = let before = logs.last_moment c image in has log.acknowledged before.0 c before.1 before.2

  pub keeps_all : KeepsAll tally log first.trail last.trail
  keeps_all = record {
    each_moment = subst (λ (h : History). Leaves (λ old new. HasSome tally log.accepted 0 new) first.trail h.trail) from.ended any_moment;
    in_the_end = subst (λ (h : History). (c : List ℕ) → IsImage h.trail.now c → HasSome tally log.accepted log.acknowledged c) from.ended at_the_end;
    all_but_one = logs.last;
  }
