-- What is kept by an office that was opened or refused on a disk: the headline if the disk held a count, and no exchanges if it
-- held none. The parts for the opening, for each exchange and for the end are combined here.
use Rattle.std.proofs.Common.{◌≡◌, ℕ, List, [], Ok, Err, IsTrue, refl, sym, ◌∙◌, ap, subst}
use Rattle.zh_disk.specs.Disk.{Trail, Leaves, fresh_trail}
use Rattle.zh_disk.specs.History.{History}
use Rattle.zh_districts.specs.Canton.{Canton, IsCanton}
use Rattle.zh_returns.specs.Tally.{Tally}
use Rattle.zh_ledger.specs.Opening.{MayLeave, Opening, Opens}
use Rattle.zh_ledger.specs.Stands.{Holds, HoldsFramed}
use Rattle.zh_ledger.specs.Submissions.{OnDisk}
use Rattle.zh_ledger.specs.declared.opening.OpenFault.{OpenFault}
use Rattle.zh_office.specs.Office.{Office}
use Rattle.zh_program.specs.Opened.{IsFrom}
use Rattle.zh_office.specs.Exchanges.{Exchange}
use Rattle.zh_program.specs.Run.{Streams}
use Rattle.zh_program.specs.Headline.{Headline}
use Rattle.zh_program.specs.Order.{Conversation}
use Rattle.zh_program.specs.Stopped.{Always}
use Rattle.zh_program.proofs.EmptyLemmas.{always_now}
use Rattle.zh_program.proofs.HeadlineLemmas.{headline_of}
use Rattle.zh_program.proofs.OrderLemmas.{IsTold}
use Rattle.zh_program.proofs.OpensLemmas.{opening_always, opening_holds, started}
use Rattle.zh_program.proofs.TalkLemmas.{talking}
use Rattle.zh_program.proofs.TurnLemmas.{AreTurns, AtRest, IsAt, at_rest}
use Rattle.zh_ledger.proofs.CallerLemmas.{has_none}

-- P for every count within the limits that an honest disk's first bytes hold.
abbrev pub WhereHeld : History → History → (Tally → List ℕ → Type 0) → Type 0
WhereHeld first last P = IsTrue last.honest → (bytes : List ℕ) → first.trail ≡ fresh_trail bytes
    → (tally : Tally) → IsCanton tally.canton → Holds tally bytes → P tally bytes

-- P where an honest disk began with bytes that hold no such count.
abbrev pub WhereNoneStood : History → History → Type 0 → Type 0
WhereNoneStood first last P = IsTrue last.honest → (bytes : List ℕ) → first.trail ≡ fresh_trail bytes
    → ((tally : Tally) → IsCanton tally.canton → ¬ HoldsFramed tally bytes) → P

-- What is kept of a disk that began with the one history and has the other, when these exchanges came after its opening in this
-- conversation. If the disk held no count, there were none.
pub record Keeps (canton : Canton) (first last : History) (talk : Conversation) (xs : List Exchange) : Type 0 where
  pub on_a_count : WhereHeld first last (λ tally bytes. Headline tally (fresh_trail bytes) talk xs)
  pub idle : WhereNoneStood first last (xs ≡ [])

-- How an office goes on from its start.
abbrev pub GoesOnTo : OnDisk Office → List Exchange → OnDisk Office → Type 0
GoesOnTo start xs end = (tally : Tally) → IsTrue end.history.honest → IsAt tally start.history.trail [] start
    → AreTurns tally start.history.trail [] xs × IsAt tally start.history.trail xs end

pub opened_keeps : (canton : Canton) (first last : History) (start end : OnDisk Office) (xs : List Exchange) (old new : Streams)
    → IsCanton canton
    → IsFrom canton first last start end
    → GoesOnTo start xs end
    → IsTold xs (talking old new start.history.trail last.trail)
    → Keeps canton first last (talking old new start.history.trail last.trail) xs
opened_keeps canton first last start end xs old new limits from goes told = record { on_a_count = kept; idle = stood }
  where
    kept : WhereHeld first last (λ tally bytes. Headline tally (fresh_trail bytes) (talking old new start.history.trail last.trail) xs)
    kept honest bytes fresh tally own holds =
        let talk = talking old new start.history.trail last.trail in
        let honest_start = from.honest honest in
        let honest_end = subst (λ (h : History). IsTrue h.honest) (sym from.ended) honest in
        let opening = opening_always canton first start from.begun honest_start bytes fresh tally limits own holds in
        let at = started canton first start from.begun honest_start bytes fresh tally limits own holds in
        let then = goes tally honest_end at in
        headline_of tally (fresh_trail bytes) talk xs opening then.0 (then.1.disk ∙ ap (λ (h : History). h.trail) from.ended) told

    stood : WhereNoneStood first last (xs ≡ [])
    stood honest bytes fresh none =
        let did = from.begun.opening.call.did (from.honest honest) in
        let opens = subst (λ (t : Trail). Opens canton (Ok start.holder.ledger) t start.history.trail) fresh did in
        absurd (none start.holder.ledger.tally (subst IsCanton (sym from.begun.opening.ready.set_up) limits) opens.opened.stood)

-- An office to which nothing is given.
pub nothing_given : (start : OnDisk Office) → GoesOnTo start [] start
nothing_given start tally honest at = (at_rest tally start.history.trail [] start at, at)

-- A disk on which every image still holds the count.
pub unchanged_keeps : (canton : Canton) (first last : History) (old new : Streams)
    → IsTold [] (talking old new last.trail last.trail)
    → WhereHeld first last (λ tally bytes. Always (Holds tally) (fresh_trail bytes) last.trail)
    → Keeps canton first last (talking old new last.trail last.trail) []
unchanged_keeps canton first last old new told still = record { on_a_count = kept; idle = λ honest bytes fresh none. refl }
  where
    kept : WhereHeld first last (λ tally bytes. Headline tally (fresh_trail bytes) (talking old new last.trail last.trail) [])
    kept honest bytes fresh tally own holds =
        let opening = still honest bytes fresh tally own holds in
        let rested : AtRest tally last.trail [] = λ c image. has_none tally [] c (always_now (Holds tally) (fresh_trail bytes) last.trail opening c image) in
        headline_of tally (fresh_trail bytes) (talking old new last.trail last.trail) [] opening rested refl told

pub refused_keeps : (canton : Canton) (first last : History) (fault : OpenFault) (old new : Streams)
    → IsCanton canton
    → Opening canton first last (Err fault)
    → IsTold [] (talking old new last.trail last.trail)
    → Keeps canton first last (talking old new last.trail last.trail) []
refused_keeps canton first last fault old new limits opening told = unchanged_keeps canton first last old new told still
  where
    still : WhereHeld first last (λ tally bytes. Always (Holds tally) (fresh_trail bytes) last.trail)
    still honest bytes fresh tally own holds =
        let left = subst (λ (t : Trail). Leaves (MayLeave canton t.now.bytes) t last.trail) fresh (opening.call.did honest).moments in
        opening_holds canton bytes tally limits own holds last.trail left
