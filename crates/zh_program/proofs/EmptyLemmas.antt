-- What a formatting leaves: at each moment the bytes with which the disk began or, if they were blank, blank bytes or the empty
-- count. The moments of opening the disk, closing the gate, writing, and opening the gate are joined.
use Rattle.std.proofs.Common.{◌≡◌, ◌⊎◌, inl, inr, ⊎_elim, ℕ, List, [], ◌∷◌, ◌++◌, Result, refl, sym, ◌∙◌, ap, subst, append_assoc}
use Rattle.std.specs.Prelude.{All}
use Rattle.std.proofs.lemmas.List.Elements.{All-nil, All-cons, All-head, All-tail, All-append}
use Rattle.zh_disk.specs.Disk.{Leaves, Moment, Trail, fresh_trail, settled}
use Rattle.zh_districts.specs.Canton.{Canton, IsCanton}
use Rattle.zh_districts.specs.Spelling.{setup_spelling}
use Rattle.zh_returns.specs.Spelling.{IsSpeakable}
use Rattle.zh_returns.specs.declared.command.Format.TheVariants.{Two}
use Rattle.zh_returns.specs.Payload.{payload_spelling}
use Rattle.zh_returns.specs.Tally.{Tally, empty}
use Rattle.zh_returns.proofs.CallerLemmas.{IsTally-empty, said_in_two}
use Rattle.zh_snapshot.specs.Format.{BlankOrFormatted, Formats, IsFormatted, KeptOrBlank}
use Rattle.zh_snapshot.specs.Image.{IsBlank}
use Rattle.zh_snapshot.specs.Store.{Settles}
use Rattle.zh_ledger.specs.Opened.{IsNew}
use Rattle.zh_ledger.specs.Stands.{Holds}
use Rattle.zh_ledger.proofs.CallerLemmas.{only_image}
use Rattle.zh_program.specs.Format.{FormatsBlank}
use Rattle.zh_program.specs.declared.fault.TaskFault.{TaskFault}
use Rattle.zh_program.specs.Stopped.{Always}
use Rattle.zh_program.proofs.AlwaysLemmas.{AtMoment, always_left}

-- The image of a formatted disk holds the empty count.
new_holds : (canton : Canton) → IsCanton canton → (c : List ℕ) → IsFormatted (setup_spelling canton) (payload_spelling Two (empty canton)) c → IsNew canton c
new_holds canton limits c formatted = record {
  content = record { setup = setup_spelling canton; generation = 1; snapshot = payload_spelling Two (empty canton); records = [] };
  end = 0;
  format = Two;
  clean = formatted.clean;
  stands = record {
    setup = refl;
    start = empty canton;
    canton = refl;
    limits = IsTally-empty canton limits;
    snapshot = record { said = said_in_two (empty canton) (IsTally-empty canton limits); spelling = refl };
    replays = record { commands = []; speakable = All-nil (IsSpeakable Two); spelled = refl; accepted = tt; count = refl };
  };
}

all_front : {X : Type 0} (P : X → Type 0) (xs ys : List X) → All P (xs ++ ys) → All P xs
all_front P [] ys all = All-nil P
all_front P (x ∷ xs) ys all = All-cons P x xs (All-head P x (xs ++ ys) all) (all_front P xs ys (All-tail P x (xs ++ ys) all))

-- One range of moments, followed by another.
always_join : (P : List ℕ → Type 0) (a b c : Trail) → Always P a b → Always P b c → Always P a c
always_join P a b c one other = record {
  between = other.between ++ one.between;
  run = other.run ∙ ap (λ (l : List Moment). other.between ++ l) one.run ∙ sym (append_assoc other.between one.between (a.now ∷ a.past));
  each = subst (All (AtMoment P)) (sym (append_assoc other.between one.between (a.now ∷ []))) (
      All-append (AtMoment P) other.between (one.between ++ a.now ∷ []) (all_front (AtMoment P) other.between (b.now ∷ []) other.each) one.each);
}

pub now_first : (P : List ℕ → Type 0) (a b : Trail) (between : List Moment) → b.now ∷ b.past ≡ between ++ a.now ∷ a.past
    → All (AtMoment P) (between ++ a.now ∷ [])
    → AtMoment P b.now
now_first P a b [] run each = let same : b.now ≡ a.now = cc in subst (AtMoment P) (sym same) (All-head (AtMoment P) a.now [] each)
now_first P a b (m ∷ ms) run each = let same : b.now ≡ m = cc in subst (AtMoment P) (sym same) (All-head (AtMoment P) m (ms ++ a.now ∷ []) each)

-- Also at the last moment.
pub always_now : (P : List ℕ → Type 0) (a b : Trail) → Always P a b → AtMoment P b.now
always_now P a b always = now_first P a b always.between always.run always.each

module _ (canton : Canton) (limits : IsCanton canton) (first : List ℕ) where
  abbrev Left : List ℕ → Type 0
  Left c = (c ≡ first) ⊎ (IsBlank first × (IsBlank c ⊎ IsNew canton c))

  at_first : AtMoment Left (settled first)
  at_first c image = inl (only_image first c image)

  -- The moments of the opening, then of the formatting.
  opened_left : (opened : Trail) → Leaves (Settles first) (fresh_trail first) opened → Always Left (fresh_trail first) opened
  opened_left opened leaves = always_left (Settles first) Left (fresh_trail first) opened leaves (λ d c image by. inl by.1) at_first

  kept_or_blank : IsBlank first → (d c : List ℕ) → Left d → KeptOrBlank d c → Left c
  kept_or_blank blank d c left by = ⊎_elim (λ same. subst Left (sym same) left) (λ now. inr (blank, inl now)) by

  formats_left : IsBlank first → (old new : Trail) → AtMoment Left old.now
      → Formats (setup_spelling canton) (payload_spelling Two (empty canton)) old new
      → Always Left old new
  formats_left blank old new start formats =
      let closing = always_left KeptOrBlank Left old formats.closed formats.closing (λ d c image by. kept_or_blank blank d c (start d image) by) start in
      let writing = always_left (λ d c. IsBlank c) Left formats.closed formats.written formats.writing (λ d c image by. inr (blank, inl by)) (always_now Left old formats.closed closing) in
      let opening = always_left (λ d c. BlankOrFormatted (setup_spelling canton) (payload_spelling Two (empty canton)) c) Left formats.written new formats.opening
      (λ d c image by. ⊎_elim (λ now. inr (blank, inl now)) (λ made. inr (blank, inr (new_holds canton limits c made))) by) (always_now Left formats.closed formats.written writing)
      in
      always_join Left old formats.closed new closing (always_join Left formats.closed formats.written new writing opening)

  pub formatted_left : (result : Result (Unit {0}) TaskFault) (last : Trail) → FormatsBlank canton result (fresh_trail first) last → Always Left (fresh_trail first) last
  formatted_left result last by =
      let opened = opened_left by.opened by.opening in
      ⊎_elim
      (λ same. subst (Always Left (fresh_trail first)) (sym same) opened)
      (λ formats. always_join Left (fresh_trail first) by.opened last opened (formats_left formats.0 by.opened last (always_now Left (fresh_trail first) by.opened opened) formats.1))
      by.after

-- A disk that held a count is left unchanged.
pub not_formatted : (canton : Canton) (tally : Tally) (bytes : List ℕ) (result : Result (Unit {0}) TaskFault) (last : Trail)
    → Holds tally bytes
    → FormatsBlank canton result (fresh_trail bytes) last
    → Always (Holds tally) (fresh_trail bytes) last
not_formatted canton tally bytes result last holds by =
    let opened = always_left (Settles bytes) (Holds tally) (fresh_trail bytes) by.opened by.opening
    (λ d c image is. subst (Holds tally) (sym is.1) holds) (λ c image. subst (Holds tally) (sym (only_image bytes c image)) holds)
    in
    ⊎_elim (λ same. subst (Always (Holds tally) (fresh_trail bytes)) (sym same) opened) (λ formats. absurd (formats.0 holds.clean.framed.gate)) by.after
