-- What a stop leaves of a disk, and what an opening finds there.
use Rattle.std.specs.Prelude.{◌≡◌, ◌≢◌, ◌⊎◌, ℕ, List, [], ◌∷◌, ◌++◌, All, length, slice_index}
use Rattle.zh_disk.specs.Disk.{Moment, Trail, IsImage, disk_length, fresh_trail}
use Rattle.zh_districts.specs.Canton.{Canton, IsCanton}
use Rattle.zh_returns.specs.Tally.{Tally, empty}
use Rattle.zh_snapshot.specs.Image.{IsBlank}
use Rattle.zh_ledger.specs.Stands.{Holds, HoldsFramed}

-- At each moment from the end of `old` to the end of `new`, every image that a stop leaves satisfies `IsLeft`.
pub record Always (IsLeft : List ℕ → Type 0) (old new : Trail) : Type 0 where
  pub between : List Moment
  pub run : new.now ∷ new.past ≡ between ++ old.now ∷ old.past
  pub each : All (λ m. (c : List ℕ) → IsImage m c → IsLeft c) (between ++ old.now ∷ [])

-- An image opens to this count: it represents this count, and no other count of its set-up. The law `reopenings` says that no
-- opening of it with this set-up can then be refused, except for memory or by the device.
pub record OpensTo (count : Tally) (c : List ℕ) : Type 0 where
  pub stands : HoldsFramed count c
  pub only : (other : Tally) → other.canton ≡ count.canton → HoldsFramed other c → other ≡ count

-- At each moment of a formatting, a stop leaves the disk as it began or, if it was blank, a blank disk or the empty count of a
-- set-up; with status 0 it ends with that count. The clause `done` says that the set-up is the one at `--setup`. The disk began
-- with the bytes of its file or, if the file was empty, as a new disk of zeros.
pub record MakesEmpty (bytes : List ℕ) (status : ℕ) (last : Trail) : Type 0 where
  pub first : List ℕ
  pub began : bytes ≢ [] → first ≡ bytes
  pub filled : bytes ≡ [] → (length first ≡ disk_length) × ((k : ℕ) → slice_index first k ≡ 0)
  pub canton : Canton
  pub limits : IsCanton canton
  pub moments : Always (λ c. (c ≡ first) ⊎ (IsBlank first × (IsBlank c ⊎ Holds (empty canton) c))) (fresh_trail first) last
  pub made : status ≡ 0 → (c : List ℕ) → IsImage last.now c → Holds (empty canton) c
