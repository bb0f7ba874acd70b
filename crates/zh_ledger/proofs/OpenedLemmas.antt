-- What formatting leaves, and what opening finds.
use Rattle.std.proofs.Common.{◌≡◌, ◌∙◌, ℕ, ◌≤◌, List, [], ◌++◌, Bool, true, false, Result, Ok, Err, length, take, drop, refl, sym, ap, subst, arith, append-nil}
use Rattle.std.specs.Prelude.{◌↔◌, IsTrue, Some, slice_get}
use Rattle.std.specs.Result.{IsErrAnd}
use Rattle.std.proofs.lemmas.List.{take-append-le, take_all, drop_all}
use Rattle.zh_districts.specs.Canton.{Canton}
use Rattle.zh_districts.specs.Spelling.{setup_spelling}
use Rattle.zh_disk.specs.Disk.{Moment, Trail, IsImage, IsSettled, settled}
use Rattle.zh_journal.specs.Pages.{Frames}
use Rattle.zh_journal.specs.Place.{Rest}
use Rattle.zh_disk.proofs.CallerLemmas.{not_err, synced_image}
use Rattle.zh_returns.specs.Limits.{IsTally}
use Rattle.zh_returns.specs.declared.command.Format.{Format}
use Rattle.zh_returns.specs.declared.command.Format.TheVariants.{Two}
use Rattle.zh_returns.specs.Payload.{payload_spelling, format_byte, IsPayload}
use Rattle.zh_returns.specs.Tally.{Tally, empty}
use Rattle.zh_snapshot.specs.Calls.{ComparesSetup}
use Rattle.zh_snapshot.specs.Format.{Formats, IsFormatted}
use Rattle.zh_returns.proofs.CallerLemmas.{tally_once, one_format, format_at, format_said, said_in_two}
use Rattle.zh_snapshot.specs.Image.{Content, IsBlank, IsFramed, IsClean}
use Rattle.zh_snapshot.specs.Slots.{IsInUse}
use Rattle.zh_snapshot.specs.Store.{State, Fits}
use Rattle.zh_snapshot.specs.declared.fault.FormatFault.{FormatFault}
use Rattle.zh_snapshot.proofs.CallerLemmas.{before, framed_once}
use Rattle.zh_ledger.specs.Opened.{IsNew, IsDamaged, AwaitsReplay, IsWrong}
use Rattle.zh_ledger.specs.Opening.{MakesNew, ReadsCount}
use Rattle.zh_ledger.specs.declared.opening.OpenFault.{OpenFault}
use Rattle.zh_ledger.specs.declared.opening.OpenFault.TheVariants as faults
use Rattle.zh_ledger.specs.Stands.{StandsFor, Replays}
use Rattle.zh_ledger.proofs.ReplayLemmas.{replays_none}

-- bytes that fill a buffer are all of it
pub filled : (n size : ℕ) (spelled out before after given : List ℕ) → size ≡ n → length before ≡ n → length out ≡ n → out ≡ spelled
    ++ drop n before → given ≡ take size (out ++ after) → given ≡ spelled
filled n size spelled out before after given long room whole is lent =
    let fits : size ≤ length out = omega arith in
    let all : take size out ≡ out = take_all size out (omega arith) in
    let none : drop n before ≡ [] = drop_all n before (omega arith) in
    lent ∙ take-append-le size out after fits ∙ all ∙ is ∙ ap (λ (rest : List ℕ). spelled ++ rest) none ∙ append-nil spelled

pub formats_as : (setup setup' first first' : List ℕ) (old new : Trail) → setup ≡ setup' → first ≡ first' → Formats setup first old new → Formats setup' first' old new
formats_as setup setup' first first' old new same_setup same_first formats =
    subst (λ (s : List ℕ). Formats s first' old new) same_setup (subst (λ (f : List ℕ). Formats setup f old new) same_first formats)

-- if nothing is pending, what a read gives is the only image
pub one_image : (m : Moment) (c : List ℕ) → m.pending ≡ [] → IsImage m c → c ≡ m.bytes
one_image m c rest image = synced_image m c (record { size = image.size; same = λ k s. image.same k (subst (λ (p : List (ℕ × ℕ)). IsSettled p k) (sym rest) tt) })

-- the content that a formatting leaves represents the empty count
new_stands : (canton : Canton) (setup first : List ℕ) → setup ≡ setup_spelling canton → first ≡ payload_spelling Two (empty canton) → IsTally (empty canton)
    → StandsFor Two (record { setup = setup; generation = 1; snapshot = first; records = [] }) (empty canton)
new_stands canton setup first same_setup same_first limits = record {
  setup = same_setup;
  start = empty canton;
  canton = refl;
  limits = limits;
  snapshot = record { said = said_in_two (empty canton) limits; spelling = sym same_first };
  replays = replays_none (empty canton);
}

-- if memory is refused, a formatting ends before the first call of the device
pub not_formatted : (canton : Canton) (fault : FormatFault) (t : Trail) → MakesNew canton (Err fault) t t
not_formatted canton fault t = record { moments = before _ _ _; formatted = tt; fresh = tt; settled = tt }

pub new_image : (canton : Canton) (setup first : List ℕ) (m : Moment) → setup ≡ setup_spelling canton → first ≡ payload_spelling Two (empty canton) → IsTally (empty canton)
    → (m.pending ≡ []) × IsFormatted setup first m.bytes → (c : List ℕ) → IsImage m c → IsNew canton c
new_image canton setup first m same_setup same_first limits formatted c image =
    let content : Content = record { setup = setup; generation = 1; snapshot = first; records = [] } in
    record {
      content = content;
      end = 0;
      format = Two;
      clean = subst (IsClean content 0) (sym (one_image m c formatted.0 image)) formatted.1.clean;
      stands = new_stands canton setup first same_setup same_first limits;
    }

-- an error that a `?` returned
pub err_of : {T E : Type 0} (r : Result T E) (P : E → Type 0) (e : E) → IsErrAnd r P → r ≡ Err e → P e
err_of r P e and is = subst (λ (x : Result _ _). IsErrAnd x P) is and

-- a disk without a store
pub damaged_all : (canton : Canton) (bytes : List ℕ) → (IsBlank bytes → ⊥) × ((x : Content) (j : ℕ) → IsFramed x j bytes → ⊥) → IsDamaged canton bytes
damaged_all canton bytes none = record {
  gate = none.0;
  setup = λ x j framed. absurd (none.1 x j framed);
  nothing = λ x j framed format tally same stands. none.1 x j framed;
}

-- a disk whose one content is wrong
pub damaged_one : (canton : Canton) (bytes : List ℕ) (x : Content) (j : ℕ) → length bytes ≡ 1118720 → IsFramed x j bytes → IsWrong canton x → IsDamaged canton bytes
damaged_one canton bytes x j long framed wrong = record {
  gate = λ blank. blank framed.gate;
  setup = λ y k other. ap (λ (z : Content). z.setup) (framed_once y x k j bytes long other framed) ∙ wrong.own;
  nothing = λ y k other format tally same_canton stands.
      wrong.nothing format tally same_canton (subst (λ (z : Content). StandsFor format z tally) (framed_once y x k j bytes long other framed) stands);
}

-- what a store's opening found and settled, and what its reader has not read yet
pub left_there : (old new : Moment) (s : State) (rest : Rest) (x : Content) (j : ℕ) → new ≡ settled old.bytes → IsFramed x j old.bytes
    → Fits s x j old.bytes → Frames 0 rest.pages rest.page x.records rest.end → AwaitsReplay s rest x new.bytes
left_there old new s rest x j is framed fits left = subst (λ (m : Moment). AwaitsReplay s rest x m.bytes) (sym is) (record { end = j; framed = framed; fits = fits; left = left })

-- what a comparison with the set-up bytes shows
pub setup_equal : (equal : Bool) (setup given spelled : List ℕ) → IsTrue equal ↔ (setup ≡ given) → given ≡ spelled → equal ≡ true → setup ≡ spelled
setup_equal equal setup given spelled told is right = told.0 right ∙ is

pub setup_differs : (equal : Bool) (setup given spelled : List ℕ) → IsTrue equal ↔ (setup ≡ given) → given ≡ spelled → equal ≡ false → setup ≡ spelled → ⊥
setup_differs equal setup given spelled told is wrong same = let right = told.1 (same ∙ sym is) in cc

-- what was read of a disk: a content with this set-up, and its snapshot
pub record IsRead (canton : Canton) (x : Content) (payload : List ℕ) : Type 0 where
  pub own : x.setup ≡ setup_spelling canton
  pub snapshot : payload ≡ x.snapshot

-- what the set-up bytes and the snapshot show of a content whose records have not been read yet
module _ (s : State) (rest : Rest) (canton : Canton) (given : List ℕ) (equal : Bool) (bytes : List ℕ)
    (spelled : given ≡ setup_spelling canton) (compares : ComparesSetup s.setup_length given bytes (Ok equal)) where
  pub differs_so : equal ≡ false → (x : Content) → AwaitsReplay s rest x bytes → x.setup ≡ setup_spelling canton → ⊥
  differs_so wrong x left = setup_differs equal x.setup given _ (compares x left.end left.framed left.fits.setup) spelled wrong

  pub read_so : equal ≡ true → (payload : List ℕ) → ((x : Content) (j : ℕ) → IsFramed x j bytes → IsInUse s.slot bytes → payload
      ≡ x.snapshot) → (x : Content) → AwaitsReplay s rest x bytes → IsRead canton x payload
  read_so right payload lends x left = record {
    own = setup_equal equal x.setup given _ (compares x left.end left.framed left.fits.setup) spelled right;
    snapshot = lends x left.end left.framed left.fits.slot;
  }

-- what is then said about the count: nothing if the device failed; or that the set-up differs, that the content is wrong, or
-- which format the count has
module _ {s : State} {rest : Rest} {canton : Canton} {tally : Tally} {bytes : List ℕ} where
  pub count_unread : (fault : OpenFault) → fault ≡ faults.Device → ReadsCount s rest canton tally bytes (Err fault)
  count_unread fault is = subst (λ (e : OpenFault). ReadsCount s rest canton tally bytes (Err e)) (sym is) (record { found = λ x left. tt; differs = λ is. absurd cc; damaged = λ is. absurd cc })

  pub count_differs : ((x : Content) → AwaitsReplay s rest x bytes → x.setup ≡ setup_spelling canton → ⊥) → ReadsCount s rest canton tally bytes (Err faults.SetupDiffers)
  count_differs other = record { found = λ x left. tt; differs = λ is. other; damaged = λ is. absurd cc }

  pub count_wrong : ((x : Content) → AwaitsReplay s rest x bytes → IsWrong canton x) → ReadsCount s rest canton tally bytes (Err faults.Damaged)
  count_wrong wrong = record { found = λ x left. tt; differs = λ is. absurd cc; damaged = λ is. wrong }

  pub count_read : (format : Format) → ((x : Content) → AwaitsReplay s rest x bytes → StandsFor format x tally) → ReadsCount s rest canton tally bytes (Ok format)
  count_read format stands = record { found = stands; differs = λ is. absurd (not_err is); damaged = λ is. absurd (not_err is) }

-- the content is wrong if the snapshot says no format
pub wrong_format : (canton : Canton) (x : Content) (payload : List ℕ) → IsRead canton x payload → ((format : Format) → slice_get payload 72 ≡ Some (format_byte format) → ⊥) → IsWrong canton x
wrong_format canton x payload read none = record {
  own = read.own;
  nothing = λ format tally same stands.
      none format (ap (λ (b : List ℕ). slice_get b 72) (read.snapshot ∙ sym stands.snapshot.spelling) ∙ format_at format stands.start);
}

-- the content is wrong if no count of the set-up has the snapshot
pub wrong_snapshot : (canton : Canton) (x : Content) (payload : List ℕ) → IsRead canton x payload
    → ((format : Format) (start : Tally) → start.canton ≡ canton → IsTally start → IsPayload format start payload → ⊥) → IsWrong canton x
wrong_snapshot canton x payload read none = record {
  own = read.own;
  nothing = λ format tally same stands.
      none format stands.start (stands.canton ∙ same) stands.limits (record { said = stands.snapshot.said; spelling = stands.snapshot.spelling ∙ sym read.snapshot });
}

-- the snapshot says a format and is that of a count
pub record IsCounted (canton : Canton) (payload : List ℕ) (format : Format) (start : Tally) : Type 0 where
  pub says : slice_get payload 72 ≡ Some (format_byte format)
  pub its : start.canton ≡ canton
  pub limits : IsTally start
  pub spelled : (f : Format) × IsPayload f start payload

module _ (canton : Canton) (x : Content) (payload : List ℕ) (read : IsRead canton x payload) (format : Format) (start : Tally) (counted : IsCounted canton payload format start) where
  same_format : counted.spelled.0 ≡ format
  same_format = format_said counted.spelled.0 format start payload counted.spelled.1 counted.says

  -- the content is wrong if the records lead nowhere from the only count that has the snapshot
  pub wrong_records : ((tally : Tally) → Replays format start x.records tally → ⊥) → IsWrong canton x
  wrong_records none = record {
    own = read.own;
    nothing = λ f tally same stands.
        let once : stands.start ≡ start = tally_once f counted.spelled.0 stands.start start stands.limits counted.limits
        (stands.canton ∙ same ∙ sym counted.its) (stands.snapshot.spelling ∙ sym read.snapshot ∙ sym counted.spelled.1.spelling) in
        let alike : f ≡ format = one_format f counted.spelled.0 stands.start start (stands.snapshot.spelling ∙ sym read.snapshot ∙ sym counted.spelled.1.spelling) ∙ same_format in
        none tally (subst (λ (g : Format). Replays g start x.records tally) alike (subst (λ (t : Tally). Replays f t x.records tally) once stands.replays));
  }

  -- if the records lead to a count, the content represents it
  pub found_stands : (tally : Tally) → tally.canton ≡ start.canton → Replays format start x.records tally → StandsFor format x tally
  found_stands tally same replays = record {
    setup = read.own ∙ ap setup_spelling (sym (same ∙ counted.its));
    start = start;
    canton = sym same;
    limits = counted.limits;
    snapshot = subst (λ (f : Format). IsPayload f start x.snapshot) same_format (record { said = counted.spelled.1.said; spelling = counted.spelled.1.spelling ∙ read.snapshot });
    replays = replays;
  }
