-- A ledger that is opened, or stopped, in a night.
use Rattle.std.proofs.Common.{◌≡◌, ◌⊎◌, inl, inr, ⊎_elim, ℕ, ◌+◌, List, [], ◌++◌, length, take, refl, sym, ◌∙◌, ap, subst, arith, length-append, Some, None, Ok}
use Rattle.std.proofs.lemmas.List.{append-nil}
use Rattle.zh_disk.specs.Disk.{Moment, Trail, IsImage, Leaves}
use Rattle.zh_disk.proofs.CallerLemmas.{image_now, leaves_now}
use Rattle.zh_districts.specs.Canton.{Canton}
use Rattle.zh_districts.specs.Spelling.{setup_spelling}
use Rattle.zh_returns.specs.Step.{after}
use Rattle.zh_returns.specs.Tally.{Tally, empty}
use Rattle.zh_returns.specs.declared.command.Command.{Command}
use Rattle.zh_snapshot.specs.Image.{Content}
use Rattle.zh_snapshot.specs.Store.{Fits}
use Rattle.zh_snapshot.proofs.CallerLemmas.{framed_alike}
use Rattle.zh_ledger.specs.Ledger.{Ledger}
use Rattle.zh_ledger.specs.Stands.{StandsFor, Holds, HoldsLedger}
use Rattle.zh_ledger.specs.Images.{HasSome}
use Rattle.zh_ledger.specs.Opening.{MayLeave, Migrates, IsCause, Opens}
use Rattle.zh_ledger.specs.Submissions.{nothing}
use Rattle.zh_ledger.specs.Night.{Keeper, Stretch, after_stop, StopsWithin, Finds}
use Rattle.zh_ledger.specs.declared.opening.OpenFault.{OpenFault}
use Rattle.zh_ledger.specs.declared.opening.OpenFault.TheVariants as faults
use Rattle.zh_ledger.proofs.MigrationLemmas.{Alters, leaves_altered, migrated_holds, read_now}
use Rattle.zh_ledger.proofs.OpenedLemmas.{one_image}
use Rattle.zh_ledger.proofs.StandsLemmas.{one_count, after_canton, after-append, holds_kept}
use Rattle.zh_ledger.proofs.SubmissionLemmas.{has_none}
use Rattle.zh_ledger.proofs.JudgedLemmas.{judged_number, judged_take}
use Rattle.zh_ledger.proofs.StretchLemmas.{left_by, count_of, IsSure, after_stop_sure}

-- if the bytes that were read held a count, an opened ledger has this count and knows each image
module _ (canton : Canton) (old new : Trail) (ledger : Ledger) (opens : Opens canton (Ok ledger) old new) (tally : Tally) (own : tally.canton ≡ canton) (holds : Holds tally old.now.bytes) where
  pub found_count : ledger.tally ≡ tally
  found_count =
      let stood = opens.opened.stood in
      (one_count old.now.bytes stood.content holds.content stood.end holds.end stood.format holds.format ledger.tally tally stood.framed holds.clean.framed stood.stands holds.stands
      (opens.opened.opened.ready.set_up ∙ sym own)).1

  holds_now : Holds tally new.now.bytes
  holds_now = ⊎_elim
      (λ still. subst (Holds tally) (sym still) holds)
      (λ moved. migrated_holds canton old.now.bytes new.now.bytes tally own holds moved)
      (read_now canton old new opens.moments)

  knows_now : HoldsLedger ledger new.now.bytes
  knows_now =
      let found = opens.opened.opened.found in
      let alike = framed_alike found.content holds_now.content found.end holds_now.end new.now.bytes found.framed holds_now.clean.framed in
      record {
        content = holds_now.content;
        end = holds_now.end;
        clean = holds_now.clean;
        fits = subst (λ (j : ℕ). Fits ledger.store holds_now.content j new.now.bytes) alike.1 (subst (λ (x : Content). Fits ledger.store x found.end new.now.bytes) alike.0 found.fits);
        stands = subst (λ (x : Content). StandsFor ledger.format x ledger.tally) alike.0 found.stands;
      }

  pub knows_images : (c : List ℕ) → IsImage new.now c → HoldsLedger ledger c
  knows_images c image = subst (HoldsLedger ledger) (sym (one_image new.now c opens.opened.pending image)) knows_now

-- A ledger is opened, or an opening fails.
module _ (K : Keeper) (canton : Canton) (kept : List Command) (s : Stretch K) (sure : IsSure canton kept s) where
  abbrev pub read : HasSome (count_of canton kept) s.log.accepted s.log.acknowledged s.now.bytes
  read = sure.sound.each s.now.bytes (image_now s.now)

  abbrev counted : Tally
  counted = after (count_of canton kept) (take read.number s.log.accepted)

  read_canton : counted.canton ≡ canton
  read_canton = after_canton (count_of canton kept) (take read.number s.log.accepted) ∙ after_canton (empty canton) kept

  pub number_all : (count_of canton (kept ++ take read.number s.log.accepted)).accepted ≡ length (kept ++ take read.number s.log.accepted)
  number_all =
      let more = judged_number (count_of canton kept) (take read.number s.log.accepted) (judged_take (count_of canton kept) read.number s.log.accepted sure.judged) in
      ap (λ (t : Tally). t.accepted) (after-append (empty canton) kept (take read.number s.log.accepted)) ∙ more ∙ ap (λ (n : ℕ). n + length (take read.number s.log.accepted)) sure.number
      ∙ sym (length-append kept (take read.number s.log.accepted))

  -- an image that an opening leaves, or a stop within one, has the commands that the images from its start had
  altered_has : (old : Moment) → s.now ≡ old → (d c : List ℕ) → IsImage old d → Alters canton old.bytes d c → HasSome (count_of canton kept) s.log.accepted s.log.acknowledged c
  altered_has old now d c image by = ⊎_elim
      (λ still. sure.sound.each c (subst (λ (m : Moment). IsImage m c) (sym now) (subst (IsImage old) (sym still) image)))
      (λ moved. record {
        number = read.number;
        at_least = read.at_least;
        within = read.within;
        holds = migrated_holds canton s.now.bytes c counted read_canton read.holds (subst (λ (m : Moment). Migrates canton m.bytes c) (sym now) moved);
      })
      by

  module _ (old new : Trail) (now : s.now ≡ old.now) (holder : K.Holder) (opens : Opens canton (Ok (K.ledger holder)) old new) where
    abbrev ledger : Ledger
    ledger = K.ledger holder

    held : Holds counted old.now.bytes
    held = subst (λ (m : Moment). Holds counted m.bytes) now read.holds

    pub found_all : ledger.tally ≡ count_of canton (kept ++ take read.number s.log.accepted)
    found_all = found_count canton old new ledger opens counted read_canton held ∙ sym (after-append (empty canton) kept (take read.number s.log.accepted))

    abbrev pub finds : Finds canton kept s.log ledger
    finds = record { number = read.number; at_least = read.at_least; within = read.within; count = found_all; once = ap (λ (t : Tally). t.accepted) found_all ∙ number_all }

    knows : (c : List ℕ) → IsImage new.now c → HoldsLedger ledger c
    knows = knows_images canton old new ledger opens counted read_canton held

    pub opened_sure : IsSure {K = K} canton (kept ++ take read.number s.log.accepted) (record { now = new.now; holder = Some holder; log = nothing })
    opened_sure = record {
      sound = record {
        each = λ c image. subst (λ (t : Tally). HasSome t [] 0 c) found_all (has_none ledger.tally [] c (holds_kept ledger c (knows c image)));
        last = omega arith;
        ledger = record {
          count = found_all ∙ ap (count_of canton) (sym (append-nil (kept ++ take read.number s.log.accepted)));
          all_acknowledged = λ whole. refl;
          images = λ whole c image. knows c image;
        };
      };
      number = number_all;
      judged = tt;
    }

  -- the only faults are those of memory and of the device
  pub only_faults : (fault : OpenFault) → IsCause canton s.now.bytes fault → (fault ≡ faults.Memory) ⊎ (fault ≡ faults.Device)
  only_faults faults.Memory cause = inl refl
  only_faults faults.Device cause = inr refl
  only_faults faults.Blank cause = absurd (cause read.holds.clean.framed.gate)
  only_faults faults.SetupDiffers cause =
      let same = framed_alike cause.content read.holds.content cause.end read.holds.end s.now.bytes cause.framed read.holds.clean.framed in
      absurd (cause.other (ap (λ (x : Content). x.setup) same.0 ∙ read.holds.stands.setup ∙ ap setup_spelling read_canton))
  only_faults faults.Damaged cause =
      absurd (cause.nothing read.holds.content read.holds.end read.holds.clean.framed read.holds.format counted read_canton read.holds.stands)

  pub refused_sure : (old new : Trail) → s.now ≡ old.now → Leaves (MayLeave canton old.now.bytes) old new → IsSure {K = K} canton kept (record { now = new.now; holder = None; log = s.log })
  refused_sure old new now leaves = record {
    sound = record {
      each = λ c image.
          let from = leaves_now (Alters canton old.now.bytes) old new (λ x. inl refl) (leaves_altered canton old new leaves) c image in
          altered_has old.now now from.0 c from.1 from.2;
      last = sure.sound.last;
      ledger = tt;
    };
    number = sure.number;
    judged = sure.judged;
  }

  pub stopped_sure : (c : List ℕ) → IsImage s.now c → IsSure {K = K} canton kept (after_stop c s.log)
  stopped_sure c image = after_stop_sure canton kept s c s.log sure (sure.sound.each c image) sure.sound.last sure.judged

  pub stopped_opening_sure : (old new : Trail) (c : List ℕ) → s.now ≡ old.now → Leaves (MayLeave canton old.now.bytes) old new → StopsWithin old new c → IsSure {K = K} canton kept (after_stop c s.log)
  stopped_opening_sure old new c now leaves left =
      let from = left_by (Alters canton old.now.bytes) old new c (λ x. inl refl) (leaves_altered canton old new leaves) left in
      after_stop_sure canton kept s c s.log sure (altered_has old.now now from.0 c from.1 from.2) sure.sound.last sure.judged
