-- What a stop can have left of a locked file, over several calls.
use Rattle.std.proofs.Common.{◌≡◌, ◌∙◌, ◌+◌, ◌<◌, ◌≤◌, ℕ, List, [], ◌∷◌, Option, Some, None, length, refl, sym, subst, ap, inl, inr, ⊎_elim, arith, IsTrue}
use Rattle.std.specs.Prelude.{◌⊎◌, IfErr, IfOk, IfSome, OnOk, Result, Ok, Err}
use Rattle.std.specs.declared.io.Error.{Error}
use Rattle.sqlite_disk.specs.Disk.{CountsFault, Cut, Follows, Only, Torn}
use Rattle.sqlite_disk.specs.declared.Disk.{Ghosts}
use Rattle.zh_disk.specs.Disk.{disk_length}
use Rattle.zh_file.specs.Files.{IsAsFound, IsFilling, LeavesNoMore}
use Rattle.zh_file.specs.Locked.{IsLeftAt, IsLeftOf, IsNotedCall, IsShort, LeavesOnly, Stays}
use Rattle.zh_film.specs.Past.{items}
use Rattle.zh_file.specs.declared.stored.locked.Locked.{Locked}

-- a call that only asks does not change what a stop can leave
pub stay_step : (P Q : List ℕ → Type 0) → Follows Stays P Q → (c : List ℕ) → Q c → P c
stay_step P Q by c left = let it = by c left in subst P (sym it.2) it.1

pub follows_stays : (P Q : List ℕ → Type 0) → ((c : List ℕ) → Q c → P c) → Follows Stays P Q
follows_stays P Q by = λ c left. (c, by c left, refl)

pub cut_short : (n : ℕ) (d c : List ℕ) → n ≤ disk_length → IsShort d → Cut n d c → IsShort c
cut_short n d c fits short cut = let most = cut.no_longer in omega (arith, most, short, fits)

pub torn_short : (at n : ℕ) (d c : List ℕ) → at + n ≤ disk_length → IsShort d → Torn at n d c → IsShort c
torn_short at n d c fits short torn = let most = torn.no_longer in omega (arith, most, short, fits)

module _ {D T : Type 0} (g : Ghosts D) (result : Result T Error) (old new : Locked D) where
  -- a call that only asks
  pub asked_leaves : IsNotedCall g Stays result old new → LeavesNoMore (IsLeftOf g old) (IsLeftOf g new)
  asked_leaves call = λ c left. (
    call.kept left.0,
    ⊎_elim
        (λ now. inl (stay_step (g.may_leave old.file) (g.may_leave new.file) call.leaves c now))
        (λ past. subst (λ (ds : List D). IsLeftAt g.may_leave ds c) call.noted past)
        left.1,
  )

  -- a call after which a stop leaves nothing longer than a disk
  pub short_call : (step : List ℕ → List ℕ → Type 0) → ((d c : List ℕ) → IsShort d → step d c → IsShort c) → IsNotedCall g step result old new
      → LeavesOnly g IsShort old → LeavesOnly g IsShort new
  short_call step keeps call before = λ c left. ⊎_elim
      (λ now. let it = call.leaves c now in keeps it.0 c (before it.0 (call.kept left.0, inl it.1)) it.2)
      (λ past. before c (call.kept left.0, subst (λ (ds : List D). IsLeftAt g.may_leave ds c) call.noted past))
      left.1

module _ {D : Type 0} (g : Ghosts D) where
  -- a stop leaves what a file holds that was just locked
  pub begun_leaves : (l : Locked D) → items l.before ≡ [] → Only (g.seen l.file) (g.may_leave l.file) → LeavesOnly g (IsAsFound (g.seen l.file)) l
  begun_leaves l begun synced = λ c left. ⊎_elim
      (λ now. synced c now)
      (λ past. absurd (subst (λ (ds : List D). IsLeftAt g.may_leave ds c) begun past))
      left.1

  -- the same after calls that only ask
  pub kept_leaves : (found : List ℕ) (old new : Locked D) → LeavesNoMore (IsLeftOf g old) (IsLeftOf g new) → LeavesOnly g (IsAsFound found) old
      → LeavesOnly g (IsFilling found) new
  kept_leaves found old new no_more before = λ c left. inl (before c (no_more c left))

-- bytes that are none
pub no_bytes_of : (n : ℕ) (xs : List ℕ) → n ≡ length xs → n ≡ 0 → xs ≡ []
no_bytes_of n [] is none = refl
no_bytes_of n (a ∷ more) is none = absurd (omega (arith, is, none))

-- an empty file, while it is filled
module _ {D : Type 0} (g : Ghosts D) (found : List ℕ) where
  -- a stop leaves nothing longer than a disk as long as calls only ask
  pub empty_short : (old new : Locked D) → (IsTrue (g.is_clean new.file) → found ≡ []) → LeavesNoMore (IsLeftOf g old) (IsLeftOf g new) → LeavesOnly g (IsAsFound found) old
      → LeavesOnly g IsShort new
  empty_short old new none no_more before = λ c left.
      let size : length c ≡ 0 = ap length (before c (no_more c left) ∙ none left.0) in
      omega (arith, size)

  pub filling_leaves : (l : Locked D) → (IsTrue (g.is_clean l.file) → found ≡ []) → LeavesOnly g IsShort l → LeavesOnly g (IsFilling found) l
  filling_leaves l none short = λ c left. inr (none left.0, short c left)

-- after a call that failed, the length was set back to 0, or that failed too
pub set_back : {T : Type 0} (result : Result T Error) (was now : List ℕ) (before after : ℕ) → OnOk result (length now ≡ 0) → CountsFault result before after
    → was ≡ [] → 0 < before → (now ≡ was) ⊎ (1 < after)
set_back (Ok done) was now before after cut counted none failed = inl (no_bytes_of (length now) now refl cut ∙ sym none)
set_back (Err error) was now before after cut counted none failed = inr (omega (arith, counted.0, failed))

-- the bytes that were found are those that are known, if any are
known_found : (IsLeft : List ℕ → List ℕ → Type 0) (known : Option (List ℕ)) (found c : List ℕ) → IfSome known (λ bytes. found ≡ bytes) → IsLeft found c
    → IfSome known (λ bytes. IsLeft bytes c)
known_found IsLeft None found c is left = tt
known_found IsLeft (Some bytes) found c is left = subst (λ (b : List ℕ). IsLeft b c) is left

module _ {D : Type 0} (g : Ghosts D) where
  -- the same moments
  pub same_moments : (ds es : List D) → ds ≡ es → (c : List ℕ) → IsLeftAt g.may_leave ds c → IsLeftAt g.may_leave es c
  same_moments ds es is c at = subst (λ (x : List D). IsLeftAt g.may_leave x c) is at

pub ok_map : {T E : Type 0} (P Q : T → Type 0) (result : Result T E) → ((d : T) → P d → Q d) → IfOk result P → IfOk result Q
ok_map P Q (Ok d) f by = f d by
ok_map P Q (Err fault) f by = tt

pub err_map : {T E : Type 0} (P Q : E → Type 0) (result : Result T E) → ((error : E) → P error → Q error) → IfErr result P → IfErr result Q
err_map P Q (Ok it) f by = tt
err_map P Q (Err error) f by = f error by

-- two facts about what succeeded
pub ok_both : {T E : Type 0} (P Q R : T → Type 0) (result : Result T E) → ((d : T) → P d → Q d → R d) → IfOk result P → IfOk result Q → IfOk result R
ok_both P Q R (Ok d) f by also = f d by also
ok_both P Q R (Err fault) f by also = tt

-- what is left of a file whose bytes are those at its path, if these are known
pub found_at_path : (IsLeft : List ℕ → List ℕ → Type 0) (at mid : List ℕ → Option (List ℕ)) (path found : List ℕ) → mid ≡ at
    → IfSome (mid path) (λ bytes. found ≡ bytes) → (c : List ℕ) → IsLeft found c → IfSome (at path) (λ bytes. IsLeft bytes c)
found_at_path IsLeft at mid path found same known c left =
    subst (λ (f : List ℕ → Option (List ℕ)). IfSome (f path) (λ bytes. IsLeft bytes c)) same (known_found IsLeft (mid path) found c known left)
