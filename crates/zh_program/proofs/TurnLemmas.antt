-- What an office leaves of its disk when it is given one thing after another: what holds of each exchange given those before
-- it, as long as the office is in the state that they lead to.
use Rattle.std.proofs.Common.{◌≡◌, ◌≢◌, ℕ, Bool, true, false, List, [], ◌∷◌, ◌++◌, length, refl, sym, ◌∙◌, ap, subst, append_assoc, IsTrue, Option, Some, None, Result, Ok, Err}
use Rattle.std.proofs.lemmas.List.{append-nil}
use Rattle.std.specs.Prelude.{IfSome}
use Rattle.zh_disk.specs.Disk.{Trail, IsImage}
use Rattle.zh_districts.specs.Canton.{Canton}
use Rattle.zh_returns.specs.declared.command.Command.{Command}
use Rattle.zh_returns.specs.declared.row.Row.{Row}
use Rattle.zh_returns.specs.Judgement.{judge}
use Rattle.zh_returns.specs.Tally.{Tally}
use Rattle.zh_returns.specs.declared.judgement.Verdict.TheVariants as verdicts
use Rattle.zh_commands.specs.declared.replies.Reply.TheVariants.{Stored, Same}
use Rattle.zh_csv.specs.Load.{LoadsFrom}
use Rattle.zh_csv.specs.declared.batch_reader.LoadFault.{LoadFault}
use Rattle.zh_totals.specs.Counting.{totals_of}
use Rattle.zh_ledger.specs.Images.{HasSome}
use Rattle.zh_ledger.specs.Submissions.{Log, OnDisk}
use Rattle.zh_office.specs.DeskBatches.{Held, no_batches}
use Rattle.zh_office.specs.declared.answer.Answer.{Answer}
use Rattle.zh_office.specs.declared.answer.Answer.TheVariants as answers
use Rattle.zh_office.specs.Exchanges.{Exchange, Given, IsReadRight, command_given, count_by, disk_by, held_by, held_then, log_by, log_of}
use Rattle.zh_office.specs.Exchanges.Given.{line, text}
use Rattle.zh_office.specs.Load.{command_loaded}
use Rattle.zh_office.specs.Office.{MayAnswer, Office, command_taken, its_ledger}
use Rattle.zh_office.specs.Runs.{IsReadAs, Turn}
use Rattle.zh_office.proofs.CallerLemmas.{disk-append, held_more, log_more}
use Rattle.zh_program.specs.Stopped.{Always}
use Rattle.zh_program.proofs.AnsweredLemmas.{AllStoreNone, IsFair, acts_fair, acts_stored, may_fair}
use Rattle.zh_program.proofs.SoundLemmas.{GoesOnBy, IsSoundBy, acts_accepted, acts_goes_on, acts_same}

-- Between two exchanges, an image has what is acknowledged by then.
abbrev pub AtRest : Tally → Trail → List Exchange → Type 0
AtRest tally opened done = (c : List ℕ) → IsImage (disk_by opened done).now c → HasSome tally (log_of done).accepted (log_of done).acknowledged c

-- What holds of an exchange, given those before it.
pub record IsOne (tally : Tally) (opened : Trail) (done : List Exchange) (x : Exchange) : Type 0 where
  pub read : IsReadRight tally.canton x.given
  pub command : x.command ≡ command_given (held_by no_batches done) x.given
  pub accepted : (command : Command) → (log_by x.command x.answer).accepted ≡ command ∷ []
      → (judge (count_by tally (log_of done)) command ≡ verdicts.Accept) × ((log_of done).acknowledged ≡ length (log_of done).accepted)
  pub counted : x.count ≡ count_by tally (log_of (done ++ x ∷ []))
  pub stored : (number : ℕ) → x.answer ≡ answers.Reply (Stored number) → x.command ≢ None
  pub same : x.answer ≡ answers.Reply Same → IfSome x.command (λ c. judge (count_by tally (log_of done)) c ≡ verdicts.Same)
  pub stopped : Always (HasSome tally (log_of (done ++ x ∷ [])).accepted (log_of done).acknowledged) (disk_by opened done) x.disk
  pub fair : IsFair (totals_of x.count) x.answer

-- The same for each of these exchanges.
abbrev pub AreTurns : Tally → Trail → List Exchange → List Exchange → Type 0
AreTurns tally opened done [] = AtRest tally opened done
AreTurns tally opened done (x ∷ xs) = AtRest tally opened done × IsOne tally opened done x × AreTurns tally opened (done ++ x ∷ []) xs

-- The office is in the state that these exchanges lead to.
pub record IsAt (tally : Tally) (opened : Trail) (done : List Exchange) (o : OnDisk Office) : Type 0 where
  pub disk : disk_by opened done ≡ o.history.trail
  pub held : held_by no_batches done ≡ o.holder.held
  pub sound : IsSoundBy tally (log_of done) (its_ledger o)

pub at_rest : (tally : Tally) (opened : Trail) (done : List Exchange) (o : OnDisk Office) → IsAt tally opened done o → AtRest tally opened done
at_rest tally opened done o at c image = at.sound.each c (subst (λ (t : Trail). IsImage t.now c) at.disk image)

-- A line can be read at any time, a text by an office that met no fault of the device and has this set-up.
abbrev pub CanRead : Canton → Office → Given → Type 0
CanRead canton office (line bytes reading) = Unit {0}
CanRead canton office (text bytes loaded) = (office.ledger.store.broken ≡ false) × (office.ledger.tally.canton ≡ canton)

pub can_read : (canton : Canton) (office : Office) (given : Given) → office.ledger.store.broken ≡ false → office.ledger.tally.canton ≡ canton → CanRead canton office given
can_read canton office (line bytes reading) whole own = tt
can_read canton office (text bytes loaded) whole own = (whole, own)

text_right : (canton : Canton) (bytes : Option (List ℕ)) (failed : Bool) (loaded : Result (List Row) LoadFault)
    → LoadsFrom canton bytes failed loaded
    → IsReadRight canton (text bytes loaded)
text_right canton bytes failed (Err fault) by = tt
text_right canton None failed (Ok rows) by = (by.rows, tt)
text_right canton (Some known) failed (Ok rows) by = (by.rows, (by.known known refl).0)

text_gives : (broken : Bool) (held : Held) (bytes : Option (List ℕ)) (loaded : Result (List Row) LoadFault) → broken ≡ false
    → command_loaded broken loaded ≡ command_given held (text bytes loaded)
text_gives true held bytes loaded is = absurd cc
text_gives false held bytes (Ok rows) is = refl
text_gives false held bytes (Err fault) is = refl

-- What is given is read by the rules and gives the command that it says.
read_right : (canton : Canton) (office : Office) (given : Given) → CanRead canton office given → IsReadAs office given → IsReadRight canton given
read_right canton office (line bytes reading) can read = read
read_right canton office (text bytes loaded) can read =
    let loads = read can.0 in text_right canton bytes loads.0 loaded (subst (λ (c : Canton). LoadsFrom c bytes loads.0 loaded) can.1 loads.1)

gives_right : (canton : Canton) (office : Office) (given : Given) → CanRead canton office given → command_taken office given ≡ command_given office.held given
gives_right canton office (line bytes reading) can = refl
gives_right canton office (text bytes loaded) can = text_gives office.ledger.store.broken office.held bytes loaded can.0

-- An office takes its turn.
module _ (tally : Tally) (opened : Trail) (done : List Exchange) (old new : OnDisk Office) (x : Exchange)
    (at : IsAt tally opened done old) (honest : IsTrue new.history.honest) (turn : Turn old x new) (can : CanRead tally.canton old.holder x.given) where
  abbrev May : Answer → Type 0
  May = MayAnswer old.holder x.given

  fair : AllStoreNone (totals_of old.holder.ledger.tally) May
  fair = may_fair old.holder x.given

  goes_on : GoesOnBy tally (log_of done) (log_by x.command x.answer) (its_ledger old) (its_ledger new)
  goes_on = acts_goes_on tally (log_of done) (its_ledger old) (its_ledger new) x.command May x.answer at.sound honest turn.acts

  one_then : IsAt tally opened (done ++ x ∷ []) new
  one_then = record {
    disk = disk-append opened done (x ∷ []) ∙ turn.disk;
    held = held_more no_batches done x ∙ ap (λ (h : Held). held_then h x.given x.answer) at.held ∙ sym turn.held;
    sound = subst (λ (l : Log). IsSoundBy tally l (its_ledger new)) (sym (log_more done x)) goes_on.sound;
  }

  one_is : IsOne tally opened done x
  one_is = record {
    read = read_right tally.canton old.holder x.given can turn.reads;
    command = turn.command ∙ gives_right tally.canton old.holder x.given can ∙ ap (λ (h : Held). command_given h x.given) (sym at.held);
    accepted = λ d is.
        let by = acts_accepted (its_ledger old) (its_ledger new) x.command May x.answer d turn.acts is in
        (subst (λ (t : Tally). judge t d ≡ verdicts.Accept) at.sound.count by.0, (at.sound.whole by.1).all);
    counted = turn.count ∙ one_then.sound.count;
    stored = acts_stored (its_ledger old) (its_ledger new) x.command May x.answer fair turn.acts;
    same = λ is.
        let judged = acts_same (its_ledger old) (its_ledger new) x.command May x.answer turn.acts is in
        subst (λ (t : Tally). IfSome x.command (λ c. judge t c ≡ verdicts.Same)) at.sound.count judged;
    stopped =
        subst (λ (t : Trail). Always (HasSome tally (log_of (done ++ x ∷ [])).accepted (log_of done).acknowledged) t x.disk) (sym at.disk)
        (subst (Always (HasSome tally (log_of (done ++ x ∷ [])).accepted (log_of done).acknowledged) old.history.trail) (sym turn.disk)
        (subst (λ (l : Log). Always (HasSome tally l.accepted (log_of done).acknowledged) old.history.trail new.history.trail) (sym (log_more done x)) goes_on.moments));
    fair = subst (λ (t : Tally). IsFair (totals_of t) x.answer) (sym turn.count)
        (acts_fair (its_ledger old) (its_ledger new) x.command May x.answer fair turn.acts);
  }

  -- Its exchange is one more and leads to the next state.
  pub one_more : IsOne tally opened done x × IsAt tally opened (done ++ x ∷ []) new
  one_more = (one_is, one_then)

module _ (tally : Tally) (opened : Trail) where
  -- What holds of each exchange in its turn holds wherever it is in the list.
  pub at_one : (done before rest : List Exchange) (x : Exchange) (xs : List Exchange) → AreTurns tally opened done xs → xs ≡ before ++ x ∷ rest → IsOne tally opened (done ++ before) x
  at_one done [] rest x [] turns is = absurd cc
  at_one done [] rest x (y ∷ ys) turns is =
      let same : y ≡ x = cc in
      subst (λ (d : List Exchange). IsOne tally opened d x) (sym (append-nil done)) (subst (IsOne tally opened done) same turns.1)
  at_one done (b ∷ before) rest x [] turns is = absurd cc
  at_one done (b ∷ before) rest x (y ∷ ys) turns is =
      let same : y ≡ b = cc in
      let others : ys ≡ before ++ x ∷ rest = cc in
      subst (λ (d : List Exchange). IsOne tally opened d x) (append_assoc done (b ∷ []) before)
      (at_one (done ++ b ∷ []) before rest x ys (subst (λ (z : Exchange). AreTurns tally opened (done ++ z ∷ []) ys) same turns.2) others)

  turns_rest : (done xs : List Exchange) → AreTurns tally opened done xs → AtRest tally opened done
  turns_rest done [] turns = turns
  turns_rest done (x ∷ xs) turns = turns.0

  pub at_any : (done before rest : List Exchange) (xs : List Exchange) → AreTurns tally opened done xs → xs ≡ before ++ rest → AtRest tally opened (done ++ before)
  at_any done [] rest xs turns is = subst (AtRest tally opened) (sym (append-nil done)) (turns_rest done xs turns)
  at_any done (b ∷ before) rest [] turns is = absurd cc
  at_any done (b ∷ before) rest (y ∷ ys) turns is =
      let same : y ≡ b = cc in
      let others : ys ≡ before ++ rest = cc in
      subst (AtRest tally opened) (append_assoc done (b ∷ []) before)
      (at_any (done ++ b ∷ []) before rest ys (subst (λ (z : Exchange). AreTurns tally opened (done ++ z ∷ []) ys) same turns.2) others)
