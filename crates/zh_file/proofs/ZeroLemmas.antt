-- A file that is filled with zeros, block by block.
use Rattle.std.proofs.Common.{◌≡◌, ◌∙◌, ◌+◌, ◌-◌, ◌<◌, ◌≤◌, ℕ, List, length, sym, ap, ⊎_elim, arith}
use Rattle.std.specs.Prelude.{replicate, slice_index}
use Rattle.std.proofs.lemmas.Bool.{cases_lt}
use Rattle.std.proofs.lemmas.List.{get_or-replicate, get_or_past, length-replicate}
use Rattle.sqlite_disk.specs.Disk.{Holds, Torn}
use Rattle.zh_disk.specs.Disk.{disk_length}
use Rattle.zh_file.specs.Stored.{IsZeroed}

-- the bytes are as long as a disk, with zeros up to place n
pub record IsZeroedTo (n : ℕ) (bytes : List ℕ) : Type 0 where
  pub size : length bytes ≡ disk_length
  pub zero : (k : ℕ) → k < n → slice_index bytes k ≡ 0

pub replicated : (n k : ℕ) → slice_index (replicate n 0) k ≡ 0
replicated n k = ⊎_elim
    (λ low. get_or-replicate n k 0 0 low)
    (λ high. get_or_past (replicate n 0) k 0 (omega (arith, length-replicate {A = ℕ} n 0)))
    (cases_lt k n)

-- one more block of zeros is written
pub zeroed_more : (block at : ℕ) (zeros old new : List ℕ) → length zeros ≡ block → 0 < block → at + block ≤ disk_length → ((k : ℕ) → slice_index zeros k ≡ 0)
    → IsZeroedTo at old → Torn at (length zeros) old new → (0 < length zeros → Holds new at zeros) → IsZeroedTo (at + block) new
zeroed_more block at zeros old new size some fits all before torn holds = record {
  size = omega (arith, torn.no_shorter, torn.no_longer, before.size, size, fits);
  zero = λ k low. ⊎_elim
      (λ below. torn.below k (omega (arith, before.size, fits, below)) below ∙ before.zero k below)
      (λ from.
      let there = (holds (omega (arith, some, size))).each (k - at) (omega (arith, low, from, size)) in
      let is : at + (k - at) ≡ k = omega (arith, from) in
      sym (ap (λ (x : ℕ). slice_index new x) is) ∙ there ∙ all (k - at))
      (cases_lt k at);
}

pub zeroed_all : (n : ℕ) (bytes : List ℕ) → n ≡ disk_length → IsZeroedTo n bytes → IsZeroed bytes
zeroed_all n bytes all to = record {
  size = to.size;
  zero = λ k. ⊎_elim
      (λ low. to.zero k (omega (arith, low, all)))
      (λ high. get_or_past bytes k 0 (omega (arith, high, to.size)))
      (cases_lt k disk_length);
}
