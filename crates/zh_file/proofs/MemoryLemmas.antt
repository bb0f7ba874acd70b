-- A folder in memory.
use Rattle.std.proofs.Common.{◌≡◌, ◌∙◌, ◌+◌, ◌<◌, ℕ, List, [], length, Some, Result, Ok, Err, refl, sym, ap, subst, inl, inr, ⊎_elim, arith}
use Rattle.std.specs.Prelude.{◌≢◌, ◌++◌, bytes_eq, codes, slice_index, IfOk, OnOk, OnErr}
use Rattle.std.proofs.Math.Path.{fun_ext}
use Rattle.std.proofs.lemmas.Bool.{cases_Bool, cases_lt}
use Rattle.std.proofs.lemmas.Bool.Decides.{not_from_Decides}
use Rattle.std.proofs.lemmas.List.{ext_get_or}
use Rattle.std.proofs.lemmas.Slice.Eq.{bytes_eq-Decides}
use Rattle.std.specs.declared.io.Error.{Error}
use Rattle.sqlite_disk.specs.Disk.{Holds, Torn}
use Rattle.zh_film.specs.Past.{number}
use Rattle.zh_file.specs.Places.{IsSameOrMade, Standing, bytes_of, companion_of}
use Rattle.zh_file.specs.Places.Standing.{nothing, file}
use Rattle.zh_file.specs.Folder.{ActsAt, IsCounted, MakesBoth, Removes, failed_after}
use Rattle.zh_file.specs.MemoryFolder.{PutsAt, disk_in, folders_of, standing_at}
use Rattle.zh_file.specs.declared.memory_folder.MemoryFolder.{MemoryFolder}
use Rattle.zh_file.proofs.FolderLemmas.{longer}

-- an empty file into which bytes were written holds these bytes
pub written_whole : (bytes old new : List ℕ) → old ≡ [] → Torn 0 (length bytes) old new → (0 < length bytes → Holds new 0 bytes) → new ≡ bytes
written_whole bytes old new none torn holds =
    let empty : length old ≡ 0 = ap length none in
    let size : length new ≡ length bytes = ⊎_elim
    (λ some. omega (arith, torn.no_longer, (holds some).within, empty))
    (λ zero. omega (arith, torn.no_longer, empty, zero))
    (cases_lt 0 (length bytes))
    in
    ext_get_or 0 new bytes size (λ k low.
    let from : 0 + k ≡ k = omega arith in
    sym (ap (λ (n : ℕ). slice_index new n) from) ∙ (holds (omega (arith, low, size))).each k (omega (arith, low, size)))

made_bytes : (old new : Standing) → IsSameOrMade old new → bytes_of new ≡ bytes_of old
made_bytes old new made = ⊎_elim (λ same. ap bytes_of same) (λ it. ap bytes_of it.1 ∙ sym (ap bytes_of it.0)) made

-- a place is the path, or it is not
at_or_off : (P : List ℕ → Type 0) (path place : List ℕ) → P path → (place ≢ path → P place) → P place
at_or_off P path place here off = ⊎_elim
    (λ is. subst P (sym ((bytes_eq-Decides place path).0 is)) here)
    (λ far. off (not_from_Decides (bytes_eq place path) (bytes_eq-Decides place path) far))
    (cases_Bool (bytes_eq place path))

module _ {R : Type 0} where
  -- an empty file was put where there was nothing, or nothing was put
  pub put_made : {E : Type 0} (path bytes : List ℕ) (old new : MemoryFolder R) (done : Result (Unit {0}) E) → bytes ≡ [] → standing_at old path ≡ nothing
      → OnOk done (PutsAt path (file bytes) old new) → OnErr done (standing_at new ≡ standing_at old) → IsSameOrMade (standing_at old path) (standing_at new path)
  put_made path bytes old new (Ok done) empty free puts same = inr (free, puts.here ∙ ap file empty)
  put_made path bytes old new (Err fault) empty free puts same = inl (ap (λ (stands : List ℕ → Standing). stands path) same)

  pub put_others : {E : Type 0} (path : List ℕ) (standing : Standing) (old new : MemoryFolder R) (done : Result (Unit {0}) E)
      → OnOk done (PutsAt path standing old new) → OnErr done (standing_at new ≡ standing_at old)
      → (place : List ℕ) → place ≢ path → standing_at new place ≡ standing_at old place
  put_others path standing old new (Ok done) puts same = puts.others
  put_others path standing old new (Err fault) puts same = λ place far. ap (λ (stands : List ℕ → Standing). stands place) same

  same_disks : (old new : MemoryFolder R) → ((place : List ℕ) → bytes_of (standing_at new place) ≡ bytes_of (standing_at old place)) → disk_in new ≡ disk_in old
  same_disks old new same = fun_ext (λ place. ap Some (same place))

  -- the bytes of each file are unchanged if a file is made
  pub made_disks : (path : List ℕ) (old new : MemoryFolder R) → IsSameOrMade (standing_at old path) (standing_at new path)
      → ((place : List ℕ) → place ≢ path → standing_at new place ≡ standing_at old place) → disk_in new ≡ disk_in old
  made_disks path old new made others = same_disks old new (λ place.
      at_or_off (λ p. bytes_of (standing_at new p) ≡ bytes_of (standing_at old p)) path place
      (made_bytes (standing_at old path) (standing_at new path) made) (λ far. ap bytes_of (others place far)))

  -- a disk and then its companion, each made if there was nothing
  pub both_made : (path name : List ℕ) (old mid new : MemoryFolder R) → name ≡ path ++ codes "-wal"
      → IsSameOrMade (standing_at old path) (standing_at mid path) → ((place : List ℕ) → place ≢ path → standing_at mid place ≡ standing_at old place)
      → IsSameOrMade (standing_at mid name) (standing_at new name) → ((place : List ℕ) → place ≢ name → standing_at new place ≡ standing_at mid place)
      → MakesBoth path (folders_of old).places (folders_of new).places
  both_made path name old mid new is made others then rest = record {
    leads = refl;
    disk = subst (λ (s : Standing). IsSameOrMade (standing_at old path) s) (sym (rest path (λ same. longer path (same ∙ is)))) made;
    companion = subst (λ (n : List ℕ). IsSameOrMade (standing_at old n) (standing_at new n)) is
        (subst (λ (s : Standing). IsSameOrMade s (standing_at new name)) (others name (λ same. longer path (sym same ∙ is))) then);
    others = λ place far off. rest place (λ same. off (same ∙ is)) ∙ others place far;
  }

  -- neither was made
  pub none_made : (path : List ℕ) (old new : MemoryFolder R) → standing_at new ≡ standing_at old → MakesBoth path (folders_of old).places (folders_of new).places
  none_made path old new same = record {
    leads = refl;
    disk = inl (ap (λ (stands : List ℕ → Standing). stands path) same);
    companion = inl (ap (λ (stands : List ℕ → Standing). stands (path ++ codes "-wal")) same);
    others = λ place far off. ap (λ (stands : List ℕ → Standing). stands place) same;
  }

  -- the disk was made, but not its companion
  pub one_made : (path : List ℕ) (old new : MemoryFolder R) → IsSameOrMade (standing_at old path) (standing_at new path)
      → ((place : List ℕ) → place ≢ path → standing_at new place ≡ standing_at old place) → MakesBoth path (folders_of old).places (folders_of new).places
  one_made path old new made others = both_made path (path ++ codes "-wal") old new new refl made others (inl refl) (λ place far. refl)

  -- the same after a call that made nothing
  pub made_after : (path : List ℕ) (old mid new : MemoryFolder R) → standing_at mid ≡ standing_at old → MakesBoth path (folders_of mid).places (folders_of new).places
      → MakesBoth path (folders_of old).places (folders_of new).places
  made_after path old mid new same makes =
      subst (λ (stands : List ℕ → Standing). MakesBoth path (record { leads = λ p. p; stands = stands }) (folders_of new).places) same makes

  -- the bytes of each file are unchanged if both are made
  pub both_disks : (path : List ℕ) (old new : MemoryFolder R) → MakesBoth path (folders_of old).places (folders_of new).places → disk_in new ≡ disk_in old
  both_disks path old new makes =
      let beside = companion_of (folders_of old).places path in
      let kept : List ℕ → Type 0 = λ p. bytes_of (standing_at new p) ≡ bytes_of (standing_at old p) in
      same_disks old new (λ place. at_or_off kept path place
      (made_bytes (standing_at old path) (standing_at new path) makes.disk)
      (λ far. at_or_off kept beside place
      (made_bytes (standing_at old beside) (standing_at new beside) makes.companion)
      (λ off. ap bytes_of (makes.others place far off))))

  -- the bytes of each file are unchanged if an empty file is removed
  pub removed_disks : {E : Type 0} (path : List ℕ) (old new : MemoryFolder R) (done : Result (Unit {0}) E) → standing_at old path ≡ file []
      → OnOk done (PutsAt path nothing old new) → OnErr done (standing_at new ≡ standing_at old) → disk_in new ≡ disk_in old
  removed_disks path old new (Ok done) empty puts same = same_disks old new (λ place.
      at_or_off (λ p. bytes_of (standing_at new p) ≡ bytes_of (standing_at old p)) path place
      (ap bytes_of puts.here ∙ sym (ap bytes_of empty)) (λ far. ap bytes_of (puts.others place far)))
  removed_disks path old new (Err fault) empty puts same = same_disks old new (λ place. ap (λ (stands : List ℕ → Standing). bytes_of (stands place)) same)

  takes : (path : List ℕ) (old new : MemoryFolder R) (done : Result (Unit {0}) Error) → OnOk done (PutsAt path nothing old new) → OnErr done (standing_at new ≡ standing_at old)
      → Removes path (folders_of old).places (folders_of new).places
  takes path old new (Ok done) puts same = record { leads = refl; removed = inr puts.here; others = puts.others }
  takes path old new (Err fault) puts same = record {
    leads = refl;
    removed = inl (ap (λ (stands : List ℕ → Standing). stands path) same);
    others = λ place far. ap (λ (stands : List ℕ → Standing). stands place) same;
  }

  pub acts_removed : (path : List ℕ) (old mid new : MemoryFolder R) (done result : Result (Unit {0}) Error) → result ≡ done
      → mid ≡ record old { calls = mid.calls; placed = mid.placed } → new ≡ record mid { failed = new.failed; notes = new.notes }
      → OnOk done (PutsAt path nothing old mid) → OnErr done (standing_at mid ≡ standing_at old) → IsCounted done (folders_of mid) (folders_of new)
      → ActsAt (Removes path) result (folders_of old) (folders_of new)
  acts_removed path old mid new done result is before after puts same counted = record {
    done =
        let removes = takes path old mid done puts same in
        let still : standing_at new ≡ standing_at mid = ap standing_at after in
        subst (λ (stands : List ℕ → Standing). Removes path (folders_of old).places (record { leads = λ p. p; stands = stands })) (sym still) removes;
    counted = record {
      failed = counted.failed ∙ ap (λ (n : ℕ). failed_after done n) (ap (λ (f : MemoryFolder R). number f.failed) before)
          ∙ ap (λ (r : Result (Unit {0}) Error). failed_after r (number old.failed)) (sym is);
      refused = counted.refused ∙ ap (λ (f : MemoryFolder R). number f.refused) before;
    };
  }

  pub gone_after : (path : List ℕ) (old mid new : MemoryFolder R) (done result : Result (Unit {0}) Error) → result ≡ done
      → new ≡ record mid { failed = new.failed; notes = new.notes } → OnOk done (PutsAt path nothing old mid) → IfOk result (λ _. standing_at new path ≡ nothing)
  gone_after path old mid new (Ok done) result is after puts =
      subst (λ (r : Result (Unit {0}) Error). IfOk r (λ _. standing_at new path ≡ nothing)) (sym is) (ap (λ (f : MemoryFolder R). standing_at f path) after ∙ puts.here)
  gone_after path old mid new (Err fault) result is after puts =
      subst (λ (r : Result (Unit {0}) Error). IfOk r (λ _. standing_at new path ≡ nothing)) (sym is) tt
